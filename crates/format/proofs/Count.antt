-- Where a count was refused, of every format: what stands there, and what any file does that begins alike (document 02, k).
use Prim.Native.Nat.{ℕ, ◌+◌, ◌≤◌, ◌<◌}
use native.Mathlib.Omega.{arith}
use native.Mathlib.Nat.{mod-eq_of_lt}
use native.Mathlib.Decide.{dec_le}
use mathlib.Core.Bool.{Bool, true, false}
use mathlib.Core.Path.{◌≡◌, refl, ap, sym, ◌∙◌}
use mathlib.Core.List.{List}
use lib.ListN.{length, take, drop, length-take}
use lib.Seq.{take-take}
use lib.Dec.{leb}
use Rattle.format.specs.declared.Counted.{Counted}
use Rattle.format.specs.declared.Stop.TheVariants as S
use Rattle.format.specs.Text.{pick}
use Rattle.format.specs.Count.{too_many, little, word_at, as_word}
use Rattle.format.specs.Step.{Step, byte, pass, sign, text, counted, position, width, Handed, seen, fine, judged}
use Rattle.format.specs.Prog.{Prog, Refusal, wrong_length, wrong_version, nothing_inside, stop_of, ret, refuse, read, Res, ok, stopped, run}
use Rattle.format.specs.Verdict.{LIMIT, Verdict, truncated, too_long, bad_count, as_verdict, up_to, verdict}
use Rattle.format.proofs.Run.{clash, run_ret, run_refuse, read_goes, read_ends, part_take, same_seen, count_goes, count_over}
use Rattle.format.proofs.Verdict.{upto_all, verdict_short, end_of, verdict_upto}

-- In the file s the program p, from a position on, comes to a count at i, whose value v is over its limit. In every file that is alike
-- before i it comes to that count, with the same rest of the program behind it
pub record CountAt {A : Type 0} (p : Prog A) (s : List ℕ) (at : ℕ) (c : Counted) (v i : ℕ) : Type 0 where
  pub from : at ≤ i
  pub there : i + 4 ≤ length s
  pub value : v ≡ word_at s i
  pub high : too_many c v ≡ true
  pub rest : ℕ → Prog A
  pub comes : (t : List ℕ) → take i s ≡ take i t → run p t at ≡ run (read (counted c) rest) t i

-- what stands before i is the same in both
same_part : (s t : List ℕ) (at m i : ℕ) → at + m ≤ i → take i s ≡ take i t → take m (drop at s) ≡ take m (drop at t)
same_part s t at m i l e = sym (part_take i at m s l) ∙ ap (λ (u : List ℕ). take m (drop at u)) e ∙ part_take i at m t l

as_long : (s t : List ℕ) (i : ℕ) → i + 4 ≤ length s → take i s ≡ take i t → i ≤ length t
as_long s t i h e = omega (arith, h, length-take i s, length-take i t, ap length e)

-- a step before the count is read alike too
step : {A : Type 0} {p q : Prog A} {s : List ℕ} {at next : ℕ} {c : Counted} {v i : ℕ} → at ≤ next → CountAt q s next c v i
    → ((t : List ℕ) → next ≤ length t → take i s ≡ take i t → run p t at ≡ run q t next) → CountAt p s at c v i
step {s = s} {i = i} l w goes = record {
  from = omega (arith, w.from);
  there = w.there;
  value = w.value;
  high = w.high;
  rest = w.rest;
  comes = λ t e. goes t (omega (arith, w.from, as_long s t i w.there e)) e ∙ w.comes t e;
}

-- no other refusal is that of a count
not_counted : {X : Type 0} (r : Refusal) (c : Counted) (v i : ℕ) → stop_of r ≡ S.Count c v i → X
not_counted wrong_length c v i e = clash (cc)
not_counted wrong_version c v i e = clash (cc)
not_counted nothing_inside c v i e = clash (cc)

-- for a count that is over its limit reading stopped, at a position that the stop has as a word
abbrev pub Refused : {A : Type 0} → Prog A → List ℕ → ℕ → Counted → ℕ → ℕ → Type 0
Refused p s at c v word = (i : ℕ) × (word ≡ as_word i) × CountAt p s at c v i

-- ---- one read, where what comes after it is refused for a count
module _ {A : Type 0} (k : Step) (f : Handed k → Prog A) (s : List ℕ) (at : ℕ) (c : Counted) (v word : ℕ) where
  -- what comes after it comes to that count
  abbrev Later : Type 0
  Later = run (f (seen k s at)) s (at + width k) ≡ stopped (S.Count c v word) → Refused (f (seen k s at)) s (at + width k) c v word

  fine_at : at + width k ≤ length s → Later → run (read k f) s at ≡ stopped (S.Count c v word)
      → judged k at (seen k s at) ≡ fine → Refused (read k f) s at c v word
  fine_at d later e j =
      let w = later (sym (read_goes s at k f d j) ∙ e) in (
        w.0,
        w.1,
        step (omega arith) w.2 (λ t h g.
            let same = same_seen k s t at (same_part s t at (width k) w.0 w.2.from g) in
            read_goes t at k f h (sym (ap (judged k at) same) ∙ j) ∙ rw same),
      )

-- nothing but a count is refused for what was read
read_at : {A : Type 0} (k : Step) (f : Handed k → Prog A) (s : List ℕ) (at : ℕ) (c : Counted) (v word : ℕ) → at + width k ≤ length s
    → Later k f s at c v word → run (read k f) s at ≡ stopped (S.Count c v word) → Refused (read k f) s at c v word
read_at byte f s at c v word d later e = fine_at byte f s at c v word d later e refl
read_at (pass n) f s at c v word d later e = fine_at (pass n) f s at c v word d later e refl
read_at sign f s at c v word d later e = fine_at sign f s at c v word d later e refl
read_at (text n) f s at c v word d later e = fine_at (text n) f s at c v word d later e refl
read_at {A} (counted b) f s at c v word d later e = go (too_many b (word_at s at)) refl
  where
    go : (o : Bool) → too_many b (word_at s at) ≡ o → Refused (read (counted b) f) s at c v word
    go true o =
        let w : ◌≡◌ {A = Res A} (stopped (S.Count b (word_at s at) (as_word at))) (stopped (S.Count c v word)) =
        sym (count_over s at b f d o) ∙ e in
        let which : b ≡ c = cc in
        let value : word_at s at ≡ v = cc in
        let place : as_word at ≡ word = cc in (
          at,
          sym place,
          rw (← which, ← value)
              (record { from = omega arith; there = d; value = refl; high = o; rest = f; comes = λ t g. refl }),
        )
    go false o = fine_at (counted b) f s at c v word d later e (rw o)
read_at position f s at c v word d later e = fine_at position f s at c v word d later e refl

pub count_at : {A : Type 0} (p : Prog A) (s : List ℕ) (at : ℕ) (c : Counted) (v word : ℕ)
    → run p s at ≡ stopped (S.Count c v word) → Refused p s at c v word
count_at (ret x) s at c v i e = let w = run_ret s at x in clash (cc)
count_at {A} (refuse r) s at c v i e =
    let w : ◌≡◌ {A = Res A} (stopped (stop_of r)) (stopped (S.Count c v i)) = sym (run_refuse s at r) ∙ e in
    not_counted r c v i (cc)
count_at (read k f) s at c v i e = elim (dec_le (at + width k) (length s)) [
  | yes d ↦ read_at k f s at c v i d (λ g. count_at (f (seen k s at)) s (at + width k) c v i g) e
  | no d ↦ let w = read_ends s at k f (omega arith) in clash (cc)
]

-- ---- of a whole file

was_count : {A : Type 0} (o : Verdict A) (x : Res A) (c : Counted) (v i : ℕ) → (o ≡ bad_count c v i → ⊥)
    → as_verdict o x ≡ bad_count c v i → x ≡ stopped (S.Count c v i)
was_count o (ok a n) c v i d e = clash (cc)
was_count o (stopped S.Ends) c v i d e = absurd (d e)
was_count o (stopped S.Text) c v i d e = clash (cc)
was_count o (stopped S.Version) c v i d e = clash (cc)
was_count o (stopped (S.Count b w j)) c v i d e = cc
was_count o (stopped S.Empty) c v i d e = clash (cc)

end_not_count : {A : Type 0} (b : Bool) (c : Counted) (v i : ℕ) → ◌≡◌ {A = Verdict A} (pick b truncated too_long) (bad_count c v i) → ⊥
end_not_count true c v i e = clash (cc)
end_not_count false c v i e = clash (cc)

-- The file s is refused for a count at i: its four bytes there are those of the value, which is over the limit. What comes of any file
-- that is alike before i is up to the bytes that it has there: it ends within them; it is refused for them; or they are a count within
-- its limit, and then no count is refused that stands before their end
pub record CountRefused {A : Type 0} (p : Prog A) (s : List ℕ) (c : Counted) (v i : ℕ) : Type 0 where
  pub there : i + 4 ≤ length s
  pub value : v ≡ word_at s i
  pub high : too_many c v ≡ true
  pub ends : (t : List ℕ) → take i s ≡ take i t → length t < i + 4 → verdict p t ≡ truncated
  pub refuses : (t : List ℕ) → take i s ≡ take i t → i + 4 ≤ length t → too_many c (word_at t i) ≡ true
      → verdict p t ≡ bad_count c (word_at t i) i
  pub behind : (t : List ℕ) → take i s ≡ take i t → i + 4 ≤ length t → too_many c (word_at t i) ≡ false
      → (b : Counted) (w j : ℕ) → verdict p t ≡ bad_count b w j → i + 4 ≤ j

-- where it stopped within what may be read
stopped_at : {A : Type 0} (p : Prog A) (s : List ℕ) (c : Counted) (v i : ℕ)
    → verdict p s ≡ bad_count c v i → run p (up_to LIMIT s) 0 ≡ stopped (S.Count c v i)
stopped_at p s c v i e =
    was_count (end_of s) (run p (up_to LIMIT s) 0) c v i (end_not_count (leb (length s) LIMIT) c v i)
    (sym (verdict_upto p s) ∙ e)

-- within what may be read the word is the position
word_of : {i : ℕ} → i + 4 ≤ LIMIT → as_word i ≡ i
unfolding as_word
word_of l = mod-eq_of_lt (omega arith)

exact : {A : Type 0} {p : Prog A} (s : List ℕ) {at : ℕ} {c : Counted} {v word : ℕ}
    → Refused p (up_to LIMIT s) at c v word → (word + 4 ≤ LIMIT) × CountAt p (up_to LIMIT s) at c v word
unfolding up_to
exact s w =
    let l : w.0 + 4 ≤ LIMIT = omega (arith, w.2.there, length-take LIMIT s) in
    let same = w.1 ∙ word_of l in
    (rw same l, rw same w.2)

module _ {A : Type 0} (p : Prog A) (s : List ℕ) (c : Counted) (v i : ℕ) (e : verdict p s ≡ bad_count c v i) where
  stands : (i + 4 ≤ LIMIT) × CountAt p (up_to LIMIT s) 0 c v i
  stands = exact s (count_at p (up_to LIMIT s) 0 c v i (stopped_at p s c v i e))

  found : CountAt p (up_to LIMIT s) 0 c v i
  found = stands.1

  within : (i + 4 ≤ LIMIT) × (i + 4 ≤ length s)
  unfolding up_to
  within = (stands.0, omega (arith, found.there, length-take LIMIT s))

  -- another file, as far as it is read
  module _ (t : List ℕ) where
    same_word : word_at (up_to LIMIT t) i ≡ word_at t i
    unfolding up_to
    same_word = ap little (part_take LIMIT i 4 t within.0)

    enough : i + 4 ≤ length t → i + 4 ≤ length (up_to LIMIT t)
    unfolding up_to
    enough h = omega (arith, within.0, length-take LIMIT t)

    comes_too : take i s ≡ take i t → run p (up_to LIMIT t) 0 ≡ run (read (counted c) found.rest) (up_to LIMIT t) i
    unfolding up_to
    comes_too g =
        let l : i ≤ LIMIT = omega (arith, within.0) in
        found.comes (up_to LIMIT t) (take-take i LIMIT s l ∙ g ∙ sym (take-take i LIMIT t l))

  pub count_refused : CountRefused p s c v i
  count_refused =
      record {
        there = within.1;
        value = found.value ∙ same_word s;
        high = found.high;
        ends = λ t g h.
            let short : length t ≤ LIMIT = omega (arith, within.0) in
            verdict_short p t short
            ∙ rw (rw (upto_all LIMIT t short) at (comes_too t g) ∙ read_ends t i (counted c) found.rest h);
        refuses = λ t g h o.
            verdict_upto p t
            ∙ rw (
              comes_too t g ∙ count_over (up_to LIMIT t) i c found.rest (enough t h) (ap (too_many c) (same_word t) ∙ o),
              same_word t,
              word_of within.0,
            );
        behind = λ t g h o b w j z.
            let on = count_goes (up_to LIMIT t) i c found.rest (enough t h) (ap (too_many c) (same_word t) ∙ o) in
            (exact t
            (count_at (found.rest (word_at (up_to LIMIT t) i)) (up_to LIMIT t) (i + 4) b w j
            (sym (comes_too t g ∙ on) ∙ stopped_at p t b w j z))).1.from;
      }
