-- Parts of a file, and whether two have the same bytes; whether a text is entered, from the last back.
use Prim.Native.Nat.{ℕ, ◌+◌, ◌≤◌, min}
use native.Mathlib.Omega.{arith}
use native.Mathlib.Decide.{dec_le}
use native.Mathlib.Nat.{min-eq_left, min-eq_right}
use native.Mathlib.Numerals.{add-one}
use mathlib.Core.Path.{◌≡◌, refl, ap, sym, ◌∙◌}
use mathlib.Core.Bool.{Bool, true, false, not, ◌&&◌}
use mathlib.Core.List.{List, [], ◌∷◌}
use lib.Dec.{eqb}
use lib.ListN.{length, take, length-take, drop_of_length-le}
use lib.Seq.{slice, take_all, take-length}
use borrow.Author.Tests.{le-leb, lt-leb, not-true, not-false}
use Rattle.std.specs.Cmp.Lexicographic.{pointwise}
use Rattle.format.specs.declared.Range.{Range}
use Rattle.format.specs.Text.{pick}
use Rattle.bin.specs.Part.{part_of}
use Rattle.score.specs.Score.{same_bytes}
use Rattle.words.specs.Words.{entered_words}
use Rattle.into_bars.specs.Entered.{text_here, in_bar, same_at}

-- ---- a part, as far as the file goes
take_far : (s : List ℕ) (end : ℕ) → take (min end (length s)) s ≡ take end s
take_far s end = elim (dec_le end (length s)) [
  | yes d ↦ rw (min-eq_left d)
  | no d ↦
      let h : length s ≤ end = omega arith in
      rw (min-eq_right h) (take-length s ∙ sym (take_all end s h))
]

pub part_far : (s : List ℕ) (start end e : ℕ) → e ≡ min end (length s) → part_of s start e ≡ slice start end s
unfolding part_of
part_far s start end e h = rw (← take_far s end, ← h, le-leb e (length s) (omega arith)) (elim (dec_le start e) [
  | yes d ↦ rw (le-leb start e d)
  | no d ↦
      let k : length (take e s) ≤ start = omega (arith, length-take e s) in
      rw (lt-leb start e (omega arith)) (sym (drop_of_length-le (take e s) k))
])

-- ---- two parts
pub bytes_same : (a b : List ℕ) → pointwise eqb a b ≡ same_bytes a b
bytes_same [] [] = refl
bytes_same [] (y ∷ b) = refl
bytes_same (x ∷ a) [] = refl
bytes_same (x ∷ a) (y ∷ b) = ap (λ (same : Bool). eqb x y && same) (bytes_same a b)

-- ---- for a loop over texts, from the last back: one is entered among those that are left where it is among all
module _ (s t : List ℕ) (bar track : ℕ) (text : Range) (i : ℕ) where
  abbrev among : ℕ → Bool
  among k = entered_words s k (text_here s bar track text) t

  module _ {all here : Bool} (left : among (i + 1) ≡ all) (e : here ≡ in_bar t i bar track) where
    last : pick here (pick (same_at s t i text) true (among i)) false ≡ all
    last = rw e (rw add-one at left)

    pub entered_other : not here ≡ true → false ≡ all
    entered_other h = rw (not-true here h) at last

    module _ {same : Bool} (h : not here ≡ false) (k : same ≡ same_at s t i text) where
      pub entered_found : same ≡ true → true ≡ all
      entered_found d = rw (not-false here h, ← k, d) at last

      pub entered_on : same ≡ false → among i ≡ all
      entered_on d = rw (not-false here h, ← k, d) at last
