-- Of each row, by the rows before it.
use Prim.Native.Nat.{ℕ, zero, suc, ◌<◌}
use native.Mathlib.Omega.{arith}
use mathlib.Core.List.{List, [], ◌∷◌, ◌++◌, reverse_aux}
use lib.ListN.{length, get_or, take}
use Rattle.teacher.specs.Teacher.{SeenRow}

-- the rows before stand the latest first
module _ (P : List SeenRow → SeenRow → Type 0) where
  abbrev pub Each : List SeenRow → List SeenRow → Type 0
  Each before [] = Unit {0}
  Each before (r ∷ rs) = P before r × Each (r ∷ before) rs

  pub each_append : (before rs qs : List SeenRow) → Each before rs → Each (reverse_aux rs before) qs
      → Each before (rs ++ qs)
  each_append before [] qs f g = g
  each_append before (r ∷ rs) qs f g = (f.0, each_append (r ∷ before) rs qs f.1 g)

  pub each_at : (before rs : List SeenRow) (k : ℕ) (d : SeenRow) → Each before rs → k < length rs
      → P (reverse_aux (take k rs) before) (get_or rs k d)
  each_at before [] k d f h = absurd (omega arith)
  each_at before (r ∷ rs) zero d f h = f.0
  each_at before (r ∷ rs) (suc k) d f h = each_at (r ∷ before) rs k d f.1 (omega arith)

module _ (P Q : List SeenRow → SeenRow → Type 0)
    (so : (before : List SeenRow) (r : SeenRow) → P before r → Q before r) where
  pub each_weaker : (before rs : List SeenRow) → Each P before rs → Each Q before rs
  each_weaker before [] f = tt
  each_weaker before (r ∷ rs) f = (so before r f.0, each_weaker (r ∷ before) rs f.1)
