-- A word that no arm of a `match` names stands for the kind that the last arm gives.
use Prim.Native.Nat.{ℕ, zero, suc, ◌+◌, ◌-◌, ◌≤◌, ◌<◌}
use mathlib.Core.Path.{◌≡◌, refl, sym}
use mathlib.Core.List.{List, [], ◌∷◌}
use native.Mathlib.Omega.{arith}
use native.Mathlib.Decide.{dec_lt}
use borrow.Author.Tests.{lt-ltb, le-ltb}
use lib.ListN.{length, get_or, get_or-eq_default}
use Rattle.bin.specs.Signed.{signed}
use Rattle.model.specs.Kinds.{duration_code}
use Rattle.model.specs.declared.Duration.TheVariants.{Whole, Half, Quarter, Eighth, Sixteenth, ThirtySecond, SixtyFourth}

-- what a `match` knows in its last arm, where the others are n keys from a on
abbrev pub NoneOf : ℕ → ℕ → ℕ → Type 0
NoneOf a zero w = Unit {0}
NoneOf a (suc n) w = NoneOf a n w × (w ≡ a + n → ⊥)

pub above : (a n w : ℕ) → NoneOf a n w → a ≤ w → a + n ≤ w
above a zero w r h = omega arith
above a (suc n) w r h = let k : a + n ≤ w = above a n w r.0 h in let d : w ≡ a + n → ⊥ = r.1 in omega arith

module _ {A : Type 0} where
  -- past the list
  pub rest : (l : List A) (d : A) (w : ℕ) → NoneOf 0 (length l) w → d ≡ get_or l w d
  rest l d w r = sym (get_or-eq_default l d (let h : 0 + length l ≤ w = above 0 (length l) w r (omega arith) in omega arith))

  -- past the list, or at its first kind
  pub rest_first : (l : List A) (d : A) (w : ℕ) → NoneOf 1 (length l) w → d ≡ get_or (d ∷ l) w d
  rest_first l d zero r = refl
  rest_first l d (suc w) r = sym (get_or-eq_default l d (let h : 1 + length l ≤ suc w = above 1 (length l) (suc w) r (omega arith) in omega arith))

-- a code that is none of a duration's own
pub quarter : (code : ℕ) → NoneOf 1 4 code → (code ≡ 254 → ⊥) → (code ≡ 255 → ⊥) → code < 256 → Quarter ≡ duration_code (signed 128 code)
unfolding signed
quarter code r d e h = elim (dec_lt code 128) [
  | yes k ↦ rw (lt-ltb code 128 k) (rest_first (Eighth ∷ Sixteenth ∷ ThirtySecond ∷ SixtyFourth ∷ []) Quarter code r)
  | no k ↦
      let z : 2 ≤ 128 + 128 - 1 - code = omega arith in
      rw (le-ltb code 128 (omega arith)) (sym (get_or-eq_default (Half ∷ Whole ∷ []) Quarter z))
]
