-- Signs gone through one after another.
use Prim.Native.Nat.{ℕ, ◌+◌, ◌<◌}
use native.Mathlib.Numerals.{add-one}
use mathlib.Core.Path.{◌≡◌}
use mathlib.Core.List.{List, [], ◌∷◌}
use lib.ListN.{length, get_or, drop}
use lib.Seq.{drop-cons}
use Rattle.format.specs.Text.{pick}
use Rattle.model.specs.declared.Direction.{Direction}
use Rattle.model.specs.declared.Direction.TheVariants as D
use Rattle.score.specs.Bars.{Sign, stands_at, first_sign, one_if, signs_at}

-- past the last
abbrev pub none : ℕ × Direction
none = (0, D.NoDirection)

-- those that are kept, as the code has them
abbrev pub kept : List (ℕ × Direction)
kept =
    (0, D.Coda) ∷ (2, D.Segno) ∷ (4, D.Fine) ∷ (5, D.DaCapo) ∷ (6, D.DaCapoAlCoda) ∷ (8, D.DaCapoAlFine)
    ∷ (9, D.DalSegno) ∷ (10, D.DalSegnoAlCoda) ∷ (12, D.DalSegnoAlFine) ∷ (17, D.ToCoda) ∷ []

abbrev pub signs_of : List (ℕ × Direction) → List Sign
signs_of [] = []
signs_of (x ∷ xs) = record { number = x.0; direction = x.1 } ∷ signs_of xs

-- each has a number
abbrev pub Numbered : List (ℕ × Direction) → Type 0
Numbered [] = Unit {0}
Numbered (x ∷ xs) = (x.0 < 19) × Numbered xs

module _ (signs : List (ℕ × Direction)) (i : ℕ) (d : ℕ × Direction) (inside : i < length signs) where
  pub number_small : Numbered (drop i signs) → (get_or signs i d).0 < 19
  number_small h = (rw (drop-cons signs i d inside) at h).0

  pub numbers_left : Numbered (drop i signs) → Numbered (drop (i + 1) signs)
  numbers_left h = rw add-one (rw (drop-cons signs i d inside) at h).1

  module _ (numbers : List ℕ) (bar : ℕ) where
    pub first_next : first_sign numbers bar (signs_of (drop i signs))
        ≡ pick (stands_at numbers bar (get_or signs i d).0) (get_or signs i d).1 (first_sign numbers bar (signs_of (drop (i + 1) signs)))
    first_next = rw (drop-cons signs i d inside, add-one i)

    pub signs_next : signs_at numbers bar (signs_of (drop i signs))
        ≡ one_if (stands_at numbers bar (get_or signs i d).0) + signs_at numbers bar (signs_of (drop (i + 1) signs))
    signs_next = rw (drop-cons signs i d inside, add-one i)
