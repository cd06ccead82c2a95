-- What the two definitions come to: document 02, l, sentence by sentence.
use Prim.Native.Nat.{ℕ, zero, suc, ◌+◌, ◌*◌, ◌≤◌, ◌<◌, min}
use native.Mathlib.Omega.{arith}
use native.Mathlib.Decide.{dec_le, dec_lt}
use mathlib.Core.Logic.{◌↔◌}
use mathlib.Core.Path.{◌≡◌, refl, ap, sym, ◌∙◌}
use mathlib.Core.List.{List, [], ◌∷◌, ◌++◌}
use Rattle.std.specs.Prelude.{Option, None, Some, Ok, Err}
use lib.ListN.{length, take, drop, length-append, length-take, get_or-eq_default}
use lib.Seq.{drop-append_seam, take_at, get_or-drop, get_or-take}
use borrow.Author.Tests.{le-leb, lt-leb}
use Rattle.format.specs.declared.Range.{Range}
use Rattle.format.specs.Yields.{Bytes}
use Rattle.bin.specs.Part.{part_of}
use Rattle.utf8.specs.declared.CodingError.TheVariants.{NoRange, NoCharacter, Short}
use Rattle.utf8.specs.Characters.{character, written}
use Rattle.utf8.specs.Back.{before, followed, front, back_by, back}
use Rattle.utf8.specs.Answers.{Answer, number_of, length_of, largest, put, to_utf8, handed, from_utf8}
use Rattle.utf8.proofs.Front.{begins_split, begins_append, character_length, front_is, front_stands}
use Rattle.utf8.proofs.Turns.{back_empty, back_next}

-- ---- bytes of a file
bytes_first : (b : ℕ) (bs : List ℕ) → b < 256 → Bytes bs → Bytes (b ∷ bs)
bytes_first b bs h k zero = h
bytes_first b bs h k (suc i) = k i

bytes_part : (s : List ℕ) (start end : ℕ) → Bytes s → Bytes (part_of s start end)
unfolding part_of
bytes_part s start end h i = elim (dec_le start end) [
  | yes d ↦ rw (le-leb start end d) (elim (dec_le end (length s)) [
    | yes e ↦ rw (le-leb end (length s) e, get_or-drop start (take end s) i 0) (elim (dec_lt (start + i) end) [
      | yes f ↦ rw (get_or-take end s (start + i) 0 f) (h (start + i))
      | no f ↦
          let l : length (take end s) ≤ start + i = omega (arith, length-take end s) in
          rw (get_or-eq_default (take end s) 0 l) (omega arith)
    ])
    | no e ↦ rw (lt-leb end (length s) (omega arith)) (omega arith)
  ])
  | no d ↦ rw (lt-leb start end (omega arith)) (omega arith)
]

-- ==== "What was written reads back to the same bytes"
pub written_back : (bs : List ℕ) → Bytes bs → back (written bs) ≡ Some bs
unfolding written
written_back [] h = back_empty
written_back (b ∷ bs) h =
    let f : front (character b ++ written bs) ≡ Some b = front_is (character b ++ written bs) b (h 0) (begins_append (character b) (written bs)) in
    let l : length (character b ++ written bs) ≡ length (character b) + length (written bs) = length-append (character b) (written bs) in
    let k : 0 < length (character b ++ written bs) = omega (arith, character_length b) in
    back_next (character b ++ written bs) b k f
    ∙ ap (λ (us : List ℕ). before b (back us)) (drop-append_seam (character b) (written bs))
    ∙ ap (before b) (written_back bs (λ i. h (suc i)))

-- ==== "only ASCII and characters of the index are accepted and only in their shortest form": what is accepted is what was written
Was : List ℕ → List ℕ → Type 0
Was us bs = (written bs ≡ us) × Bytes bs

back_was : (n : ℕ) (us bs : List ℕ) → back_by n us ≡ Some bs → Was us bs
unfolding back_by written Was
back_was zero [] bs e = let k : [] ≡ bs = cc in rw (← k) (refl, λ i. omega arith)
back_was zero (u ∷ us) bs e = let z : ◌≡◌ {A = ℕ} 0 1 = cc in absurd (omega arith)
back_was (suc n) [] bs e = let k : [] ≡ bs = cc in rw (← k) (refl, λ i. omega arith)
back_was (suc n) (u ∷ us) bs e = found (front (u ∷ us)) refl (λ w cs h. back_was n w cs h) e
  where
    rest : ℕ → List ℕ
    rest b = drop (length (character b)) (u ∷ us)

    joined : (b : ℕ) → front (u ∷ us) ≡ Some b → (o : Option (List ℕ)) → ((cs : List ℕ) → o ≡ Some cs → Was (rest b) cs) → before b o ≡ Some bs → Was (u ∷ us) bs
    joined b f None more g = let z : ◌≡◌ {A = ℕ} 0 1 = cc in absurd (omega arith)
    joined b f (Some cs) more g =
        let k : b ∷ cs ≡ bs = cc in
        let t = front_stands (u ∷ us) b f in
        let w = more cs refl in
        rw (← k) (ap (λ (x : List ℕ). character b ++ x) w.0 ∙ sym (begins_split (character b) (u ∷ us) t.1), bytes_first b cs t.0 w.1)

    found : (o : Option ℕ) → front (u ∷ us) ≡ o → ((w cs : List ℕ) → back_by n w ≡ Some cs → Was w cs) → followed o (λ b. back_by n (rest b)) ≡ Some bs → Was (u ∷ us) bs
    found None f more g = let z : ◌≡◌ {A = ℕ} 0 1 = cc in absurd (omega arith)
    found (Some b) f more g = joined b f (back_by n (rest b)) (λ cs h. more (rest b) cs h) g

pub back_written : (us bs : List ℕ) → back us ≡ Some bs → written bs ≡ us
unfolding back Was
back_written us bs e = (back_was (length us) us bs e).0

pub accepted_exactly : (us bs : List ℕ) → (back us ≡ Some bs) ↔ ((written bs ≡ us) × Bytes bs)
unfolding back Was
accepted_exactly us bs = (λ e. back_was (length us) us bs e, λ w. ap back (sym w.0) ∙ written_back bs w.1)

-- ==== "one, two or three bytes a character"
pub written_long : (bs : List ℕ) → (length bs ≤ length (written bs)) × (length (written bs) ≤ 3 * length bs)
unfolding written
written_long [] = (omega arith, omega arith)
written_long (b ∷ bs) =
    let l = length-append (character b) (written bs) in
    let c = character_length b in
    let t = written_long bs in
    (omega (arith, l, c.0, t.0), omega (arith, l, c.1, t.1))

-- ---- by cases of an answer
module _ (P : Answer → Type 0) where
  put_cases : (text out : List ℕ)
      → P (record { coded = Ok (length text); buffer = text ++ drop (length text) out })
      → P (record { coded = Err (Short (min (length text) largest)); buffer = out }) → P (put text out)
  unfolding put
  put_cases text out w s = elim (dec_le (length text) (length out)) [
    | yes h ↦ rw (le-leb (length text) (length out) h) w
    | no h ↦ rw (lt-leb (length text) (length out) (omega arith)) s
  ]

  to_cases : (s : List ℕ) (r : Range) (out : List ℕ) → P (record { coded = Err NoRange; buffer = out }) → P (put (written (part_of s r.start r.end)) out) → P (to_utf8 s r out)
  unfolding to_utf8
  to_cases s r out n p = elim (dec_le r.start r.end) [
    | yes d ↦ rw (le-leb r.start r.end d) (elim (dec_le r.end (length s)) [
      | yes e ↦ rw (le-leb r.end (length s) e) p
      | no e ↦ rw (lt-leb r.end (length s) (omega arith)) n
    ])
    | no d ↦ rw (lt-leb r.start r.end (omega arith)) n
  ]

  from_cases : (us out : List ℕ) → P (record { coded = Err NoCharacter; buffer = out }) → ((bs : List ℕ) → P (put bs out)) → P (from_utf8 us out)
  unfolding from_utf8
  from_cases us out n p = judged (back us)
    where
      judged : (o : Option (List ℕ)) → P (handed o out)
      judged None = n
      judged (Some bs) = p bs

-- ==== "A refusal leaves the buffer untouched"; and what was written leaves the bytes past its length
abbrev pub Leaves : List ℕ → Answer → Type 0
Leaves out x = ((number_of x.coded ≡ 0 → ⊥) → x.buffer ≡ out) × (drop (length_of x.coded) x.buffer ≡ drop (length_of x.coded) out)

put_leaves : (text out : List ℕ) → Leaves out (put text out)
put_leaves text out = put_cases (Leaves out) text out (λ n. absurd (n refl), drop-append_seam text (drop (length text) out)) (λ n. refl, refl)

pub writing_leaves : (s : List ℕ) (r : Range) (out : List ℕ) → Leaves out (to_utf8 s r out)
writing_leaves s r out = to_cases (Leaves out) s r out (λ n. refl, refl) (put_leaves (written (part_of s r.start r.end)) out)

pub reading_leaves : (us out : List ℕ) → Leaves out (from_utf8 us out)
reading_leaves us out = from_cases (Leaves out) us out (λ n. refl, refl) (λ bs. put_leaves bs out)

-- ==== 9 "(writing only)", 10 "(reading back only)"
pub writing_not_10 : (s : List ℕ) (r : Range) (out : List ℕ) → number_of (to_utf8 s r out).coded ≡ 10 → ⊥
writing_not_10 s r out = to_cases Not s r out (λ e. omega arith) (put_cases Not (written (part_of s r.start r.end)) out (λ e. omega arith) (λ e. omega arith))
  where
    Not : Answer → Type 0
    Not x = number_of x.coded ≡ 10 → ⊥

pub reading_not_9 : (us out : List ℕ) → number_of (from_utf8 us out).coded ≡ 9 → ⊥
reading_not_9 us out = from_cases Not us out (λ e. omega arith) (λ bs. put_cases Not bs out (λ e. omega arith) (λ e. omega arith))
  where
    Not : Answer → Type 0
    Not x = number_of x.coded ≡ 9 → ⊥

-- ==== of the two functions: what the first wrote, lent to the second, gives the range's own bytes
pub reads_again : (s : List ℕ) (r : Range) (out room : List ℕ) → Bytes s → number_of (to_utf8 s r out).coded ≡ 0
    → from_utf8 (take (length_of (to_utf8 s r out).coded) (to_utf8 s r out).buffer) room ≡ put (part_of s r.start r.end) room
unfolding from_utf8
reads_again s r out room h = to_cases Again s r out (λ e. absurd (omega arith)) (put_cases Again text out wrote (λ e. absurd (omega arith)))
  where
    part : List ℕ
    part = part_of s r.start r.end

    text : List ℕ
    text = written part

    Again : Answer → Type 0
    Again x = number_of x.coded ≡ 0 → from_utf8 (take (length_of x.coded) x.buffer) room ≡ put part room

    wrote : Again (record { coded = Ok (length text); buffer = text ++ drop (length text) out })
    wrote e =
        ap (λ (us : List ℕ). handed (back us) room) (take_at text (drop (length text) out) (length text) refl)
        ∙ ap (λ (o : Option (List ℕ)). handed o room) (written_back part (bytes_part s r.start r.end h))
