-- The cut and the trim of a text a byte at a time, for the loops that find its ends, and the text between them.
use Prim.Native.Nat.{ℕ, zero, suc, ◌+◌, ◌-◌, ◌≤◌, ◌<◌}
use native.Mathlib.Omega.{arith}
use native.Mathlib.Nat.{add-zero}
use mathlib.Core.Path.{◌≡◌, refl, ap, sym, ◌∙◌}
use mathlib.Core.List.{List, [], ◌∷◌, ◌++◌, append-nil}
use mathlib.Core.Bool.{Bool, true, false}
use lib.ListN.{length, get_or, take, drop, length-take}
use lib.Seq.{slice, slice_empty, drop-drop, take-take, take-suc, length-slice, drop-append-le}
use lib.Dec.{eqb}
use borrow.Author.Tests.{eq-eqb, ne_eqb}
use Rattle.format.specs.declared.Range.{Range}
use Rattle.format.specs.Place.{Place, Comes, ReadsAs}
use Rattle.std.specs.Prelude.{Ok, Err}
use Rattle.format.specs.declared.Stop.TheVariants.{Ends}
use Rattle.format.specs.Text.{TextRead, pick, blank, cut_len, lead_len, keep_len, keep_next, cut, trim, range_of, text_of, no_text, text_in}
use Rattle.format.specs.Step.{text}
use Rattle.format.specs.Prog.{ret, ok}
use Rattle.format.specs.Fields.{text_bytes}
use Rattle.format.specs.Yields.{Inside, OfFile}
use Rattle.format.proofs.Run.{part_take, read_goes, read_ends, run_ret}
use Rattle.format.proofs.Rules.{read, read_stop, ended}
use Rattle.format.proofs.Fits.{slice-next, slice_split}

-- ---- from the start
module _ (s : List ℕ) (i e : ℕ) (h : i < e) (l : e ≤ length s) where
  cut_zero : get_or s i 0 ≡ 0 → cut_len (slice i e s) ≡ 0
  unfolding cut_len
  cut_zero g = rw (slice-next i e s h l, eq-eqb (get_or s i 0) 0 g)

  cut_more : (get_or s i 0 ≡ 0 → ⊥) → cut_len (slice i e s) ≡ suc (cut_len (slice (i + 1) e s))
  unfolding cut_len
  cut_more g = rw (slice-next i e s h l, ne_eqb (get_or s i 0) 0 g)

  lead_more : blank (get_or s i 0) ≡ true → lead_len (slice i e s) ≡ suc (lead_len (slice (i + 1) e s))
  unfolding lead_len
  lead_more g = rw (slice-next i e s h l, g)

  lead_stop : blank (get_or s i 0) ≡ false → lead_len (slice i e s) ≡ 0
  unfolding lead_len
  lead_stop g = rw (slice-next i e s h l, g)

cut_none : (s : List ℕ) (e : ℕ) → cut_len (slice e e s) ≡ 0
unfolding cut_len
cut_none s e = rw (slice_empty e s)

lead_none : (s : List ℕ) (e : ℕ) → lead_len (slice e e s) ≡ 0
unfolding lead_len
lead_none s e = rw (slice_empty e s)

-- ---- from the end
keep_none : (s : List ℕ) (e : ℕ) → keep_len (slice e e s) ≡ 0
unfolding keep_len
keep_none s e = rw (slice_empty e s)

snoc_blank : (l : List ℕ) (x : ℕ) → blank x ≡ true → keep_len (l ++ (x ∷ [])) ≡ keep_len l
unfolding keep_len keep_next
snoc_blank [] x g = rw g
snoc_blank (y ∷ l) x g = rw (snoc_blank l x g)

snoc_not : (l : List ℕ) (x : ℕ) → blank x ≡ false → keep_len (l ++ (x ∷ [])) ≡ suc (length l)
unfolding keep_len keep_next
snoc_not [] x g = rw g
snoc_not (y ∷ l) x g = rw (snoc_not l x g)

slice_snoc : (s : List ℕ) (i e : ℕ) → i ≤ e → e < length s → slice i (suc e) s ≡ slice i e s ++ (get_or s e 0 ∷ [])
slice_snoc s i e h l = rw (take-suc s e 0 l) (drop-append-le i (take e s) (get_or s e 0 ∷ []) (simp length-take (omega arith)))

module _ (s : List ℕ) (i e : ℕ) (h : i ≤ e) (l : e < length s) where
  keep_more : blank (get_or s e 0) ≡ true → keep_len (slice i (suc e) s) ≡ keep_len (slice i e s)
  keep_more g = rw (slice_snoc s i e h l) (snoc_blank (slice i e s) (get_or s e 0) g)

  keep_stop : blank (get_or s e 0) ≡ false → i + keep_len (slice i (suc e) s) ≡ suc e
  keep_stop g = rw (slice_snoc s i e h l, snoc_not (slice i e s) (get_or s e 0) g, length-slice i e s (omega arith)) (omega arith)

-- ---- for a loop: what is left of the text is as long as it was from where the loop began
module _ (s : List ℕ) (from end i : ℕ) where
  pub cut_found : i + cut_len (slice i end s) ≡ from + cut_len (slice from end s) → i < end → end ≤ length s → get_or s i 0 ≡ 0 → i ≡ from + cut_len (slice from end s)
  cut_found e h l g = omega (arith, cut_zero s i end h l g)

  pub cut_on : i + cut_len (slice i end s) ≡ from + cut_len (slice from end s) → i < end → end ≤ length s → (get_or s i 0 ≡ 0 → ⊥) → i + 1 + cut_len (slice (i + 1) end s) ≡ from + cut_len (slice from end s)
  cut_on e h l g = omega (arith, cut_more s i end h l g)

  pub cut_out : i + cut_len (slice i end s) ≡ from + cut_len (slice from end s) → i ≤ end → end ≤ i → i ≡ from + cut_len (slice from end s)
  cut_out e h l = let k : i ≡ end = omega arith in omega (arith, cut_none s i, ap (λ (j : ℕ). cut_len (slice i j s)) k)

  pub lead_found : i + lead_len (slice i end s) ≡ from + lead_len (slice from end s) → i < end → end ≤ length s → blank (get_or s i 0) ≡ false → i ≡ from + lead_len (slice from end s)
  lead_found e h l g = omega (arith, lead_stop s i end h l g)

  pub lead_on : i + lead_len (slice i end s) ≡ from + lead_len (slice from end s) → i < end → end ≤ length s → blank (get_or s i 0) ≡ true → i + 1 + lead_len (slice (i + 1) end s) ≡ from + lead_len (slice from end s)
  lead_on e h l g = omega (arith, lead_more s i end h l g)

  pub lead_out : i + lead_len (slice i end s) ≡ from + lead_len (slice from end s) → i ≤ end → end ≤ i → i ≡ from + lead_len (slice from end s)
  lead_out e h l = let k : i ≡ end = omega arith in omega (arith, lead_none s i, ap (λ (j : ℕ). lead_len (slice i j s)) k)

  pub keep_found : keep_len (slice from i s) ≡ keep_len (slice from end s) → from < i → i ≤ end → end ≤ length s → blank (get_or s (i - 1) 0) ≡ false → i ≡ from + keep_len (slice from end s)
  keep_found e h m l g =
      let k : suc (i - 1) ≡ i = omega arith in
      omega (arith, keep_stop s from (i - 1) (omega arith) (omega arith) g, ap (λ (j : ℕ). keep_len (slice from j s)) k)

  pub keep_on : keep_len (slice from i s) ≡ keep_len (slice from end s) → from < i → i ≤ end → end ≤ length s → blank (get_or s (i - 1) 0) ≡ true → keep_len (slice from (i - 1) s) ≡ keep_len (slice from end s)
  keep_on e h m l g =
      let k : suc (i - 1) ≡ i = omega arith in
      omega (arith, keep_more s from (i - 1) (omega arith) (omega arith) g, ap (λ (j : ℕ). keep_len (slice from j s)) k)

  pub keep_out : keep_len (slice from i s) ≡ keep_len (slice from end s) → from ≤ i → i ≤ from → i ≡ from + keep_len (slice from end s)
  keep_out e h l = let k : i ≡ from = omega arith in omega (arith, keep_none s from, ap (λ (j : ℕ). keep_len (slice from j s)) k)

-- ---- the text between its ends
part_slice : (at n : ℕ) (s : List ℕ) → take n (drop at s) ≡ slice at (at + n) s
part_slice at n s = sym (append-nil (take n (drop at s))) ∙ rw (← (slice_empty (at + n) s)) (sym (slice_split at n (at + n) s (omega arith)))

pub between : (start end : ℕ) (s : List ℕ) → start ≤ end → take (end - start) (drop start s) ≡ slice start end s
between start end s h = let j : start + (end - start) ≡ end = omega arith in part_slice start (end - start) s ∙ rw j

cut_within : (l : List ℕ) → cut_len l ≤ length l
unfolding cut_len
cut_within [] = omega arith
cut_within (x ∷ xs) = cut_pick (eqb x 0) (cut_len xs) (length xs) (cut_within xs)
  where
    cut_pick : (t : Bool) (a b : ℕ) → a ≤ b → pick t 0 (suc a) ≤ suc b
    cut_pick true a b k = omega arith
    cut_pick false a b k = omega arith

-- two texts that are the same as far as the first zero of the one, and with it, are cut alike (document 02, n)
same_cut : (u w : List ℕ) → length u ≡ length w → ((i : ℕ) → i < length u → i ≤ cut_len u → get_or u i 0 ≡ get_or w i 0) → cut u ≡ cut w
unfolding cut cut_len
same_cut [] [] e h = refl
same_cut [] (y ∷ w) e h = absurd (omega arith)
same_cut (x ∷ u) [] e h = absurd (omega arith)
same_cut (x ∷ u) (y ∷ w) e h =
    let first : x ≡ y = h 0 (omega arith) (omega arith) in
    rw (← first)
    (go (eqb x 0) (λ i l k. h (suc i) (omega arith) k) (λ g. same_cut u w (omega arith) g))
  where
    go : (t : Bool) → ((i : ℕ) → i < length u → suc i ≤ pick t 0 (suc (cut_len u)) → get_or u i 0 ≡ get_or w i 0)
        → (((i : ℕ) → i < length u → i ≤ cut_len u → get_or u i 0 ≡ get_or w i 0) → cut u ≡ cut w)
        → take (pick t 0 (suc (cut_len u))) (x ∷ u) ≡ take (pick t 0 (suc (cut_len w))) (x ∷ w)
    go true k later = refl
    go false k later = ap (λ (l : List ℕ). x ∷ l) (later (λ i l m. k i l (omega arith)))

pub text_by_cut : (at : ℕ) (u w : List ℕ) → length u ≡ length w → ((i : ℕ) → i < length u → i ≤ cut_len u → get_or u i 0 ≡ get_or w i 0)
    → text_of at u ≡ text_of at w
unfolding text_of
text_by_cut at u w e h = rw (same_cut u w e h)

-- the cut text is what stands up to the place where it is cut
cut_slice : (s : List ℕ) (at n end : ℕ) → at + n ≤ length s → end ≡ at + cut_len (slice at (at + n) s) → cut (take n (drop at s)) ≡ slice at end s
unfolding cut
cut_slice s at n end h a =
    let l = take n (drop at s) in
    let k : cut_len l ≤ n = omega (arith, cut_within l, length-take n (drop at s)) in
    let g : at + cut_len l ≡ end = rw (part_slice at n s) (sym a) in
    take-take (cut_len l) n (drop at s) k ∙ part_slice at (cut_len l) s ∙ rw g

-- a text's bytes are those of its range, also where it is empty
range_bytes : (s : List ℕ) (start k : ℕ) → slice (range_of start k).start (range_of start k).end s ≡ slice start (start + k) s
unfolding range_of
range_bytes s start zero = slice_empty 0 s ∙ rw (add-zero start, slice_empty start s)
range_bytes s start (suc k) = refl

text_is : (r q : Range) (x y : List ℕ) → r ≡ q → x ≡ y → ◌≡◌ {A = TextRead} (record { range = r; bytes = x }) (record { range = q; bytes = y })
text_is r q x y e f = λ j. record { range = e j; bytes = f j }

range_is : (a b u v : ℕ) → a ≡ u → b ≡ v → ◌≡◌ {A = Range} (record { start = a; end = b }) (record { start = u; end = v })
range_is a b u v e f = λ j. record { start = e j; end = f j }

pub range_none : (start stop : ℕ) → start ≡ stop → record { start = 0; end = 0 } ≡ range_of start (stop - start)
unfolding range_of
range_none start stop e = let k : stop - start ≡ 0 = omega arith in rw k

pub range_some : (start stop : ℕ) → start < stop → record { start = start; end = stop } ≡ range_of start (stop - start)
unfolding range_of
range_some start stop h =
    let k : stop - start ≡ suc (stop - start - 1) = omega arith in
    rw k (range_is start stop start (start + suc (stop - start - 1)) refl (omega arith))

-- the trimmed text is what stands between its ends
trim_slice : (s : List ℕ) (at end start stop : ℕ) → start ≤ stop → stop ≤ end → start ≡ at + lead_len (slice at end s) → stop ≡ start + keep_len (slice start end s) → trim (slice at end s) ≡ slice start stop s
unfolding trim
trim_slice s at end start stop h l b c =
    let m = lead_len (slice at end s) in
    let d : drop m (slice at end s) ≡ slice start end s = drop-drop m at (take end s) ∙ rw (← b) refl in
    let k : keep_len (slice start end s) ≡ stop - start = omega arith in
    let j : start + (stop - start) ≡ stop = omega arith in
    rw (d, k) (part_take end start (stop - start) s (omega arith) ∙ part_slice start (stop - start) s ∙ rw j)

module _ (s : List ℕ) (at n end start stop : ℕ) (f : at + n ≤ length s) (h : start ≤ stop) (l : stop ≤ end) (m : end ≤ at + n) (a : end ≡ at + cut_len (slice at (at + n) s)) (b : start ≡ at + lead_len (slice at end s)) (c : stop ≡ start + keep_len (slice start end s)) where
  text_between : text_of at (take n (drop at s)) ≡ text_in s (range_of start (stop - start))
  unfolding text_of
  text_between =
      let q : cut (take n (drop at s)) ≡ slice at end s = cut_slice s at n end f a in
      let t : trim (slice at end s) ≡ slice start stop s = trim_slice s at end start stop h l b c in
      let j : start + (stop - start) ≡ stop = omega arith in
      rw (q, t, length-slice start stop s (omega arith), ← b)
      (text_is (range_of start (stop - start)) (range_of start (stop - start)) (slice start stop s) (text_in s (range_of start (stop - start))).bytes refl
      (sym (range_bytes s start (stop - start) ∙ rw j)))

  pub words_goes : {from : Place} {r : Range} → from ≡ Ok at → r ≡ range_of start (stop - start) → ReadsAs (text_in s) (text_bytes n) s from (Ok (r, at + n))
  unfolding text_bytes
  words_goes e g =
      rw g (read (rw e (record { comes = read_goes s at (text n) (λ t. ret t) f refl ∙ run_ret s (at + n) (text_of at (take n (drop at s))) ∙ rw text_between })))

-- an empty range is no text
pub none_in : (s : List ℕ) → text_in s (record { start = 0; end = 0 }) ≡ no_text
unfolding no_text
none_in s = text_is _ _ _ _ refl (slice_empty 0 s)

pub no_words : {s : List ℕ} {n : ℕ} → Comes (ret no_text) s (Ok n) (ok (text_in s (record { start = 0; end = 0 })) n)
no_words {s} = rw (none_in s) ended

pub words_ends : {s : List ℕ} {from : Place} {at : ℕ} → from ≡ Ok at → (n : ℕ) → length s < at + n → ReadsAs (text_in s) (text_bytes n) s from (Err Ends)
unfolding text_bytes
words_ends {s} {from} {at} e n h = read_stop (rw e (record { comes = read_ends s at (text n) (λ t. ret t) h }))

-- ---- a text is one of its file
lead_within : (l : List ℕ) → lead_len l ≤ length l
unfolding lead_len
lead_within [] = omega arith
lead_within (x ∷ xs) = lead_pick (blank x) (lead_len xs) (length xs) (lead_within xs)
  where
    lead_pick : (t : Bool) (a b : ℕ) → a ≤ b → pick t (suc a) 0 ≤ suc b
    lead_pick true a b k = omega arith
    lead_pick false a b k = omega arith

keep_within : (l : List ℕ) → keep_len l ≤ length l
unfolding keep_len keep_next
keep_within [] = omega arith
keep_within (x ∷ xs) = keep_next_lem (keep_len xs) (length xs) (keep_within xs)
  where
    keep_pick : (t : Bool) (b : ℕ) → pick t 0 1 ≤ suc b
    keep_pick true b = omega arith
    keep_pick false b = omega arith

    keep_next_lem : (a b : ℕ) → a ≤ b → keep_next x a ≤ suc b
    keep_next_lem zero b k = keep_pick (blank x) b
    keep_next_lem (suc a) b k = omega arith

range_inside : (start k size : ℕ) → start + k ≤ size → Inside size (range_of start k)
unfolding range_of
range_inside start zero size h = record { sorted = omega arith; ends = omega arith }
range_inside start (suc k) size h = record { sorted = omega arith; ends = h }

pub none_of_file : (s : List ℕ) → OfFile s no_text
unfolding no_text
none_of_file s = record { is = sym (none_in s); inside = record { sorted = omega arith; ends = omega arith } }

pub text_of_file : (s : List ℕ) (at n : ℕ) → at + n ≤ length s → OfFile s (text_of at (take n (drop at s)))
text_of_file s at n f =
    let end = at + cut_len (slice at (at + n) s) in
    let start = at + lead_len (slice at end s) in
    let stop = start + keep_len (slice start end s) in
    let m : end ≤ at + n = omega (arith, cut_within (slice at (at + n) s), length-slice at (at + n) s f) in
    let b : start ≤ end = omega (arith, lead_within (slice at end s), length-slice at end s (omega arith)) in
    let l : stop ≤ end = omega (arith, keep_within (slice start end s), length-slice start end s (omega arith)) in
    rw (text_between s at n end start stop f (omega arith) l m refl refl refl)
    (record { is = refl; inside = range_inside start (stop - start) (length s) (omega arith) })
