-- A turn of the loops over hexadecimal digits.
use Prim.Native.Nat.{ℕ, zero, suc, ◌-◌, ◌/◌, ◌%◌, ◌<◌}
use mathlib.Core.Path.{◌≡◌}
use mathlib.Core.Bool.{true}
use native.Mathlib.Omega.{arith}
use lib.Dec.{eqb}
use Rattle.format.specs.Text.{pick}
use Rattle.model.specs.Marks.{has_digit, shifted}

pub has_next : (w n d : ℕ) → 0 < n → has_digit w n d ≡ pick (eqb (d % 16) w) true (has_digit w (n - 1) (d / 16))
has_next w zero d h = absurd (omega arith)
has_next w (suc n) d h = let e : suc n - 1 ≡ n = omega arith in rw e

pub shift_next : (n d : ℕ) → 0 < n → shifted n d ≡ shifted (n - 1) (d / 16)
shift_next zero d h = absurd (omega arith)
shift_next (suc n) d h = let e : suc n - 1 ≡ n = omega arith in rw e
