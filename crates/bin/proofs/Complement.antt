-- The laws of two's complement, for every width: a number read as signed, and its two's complement.
use Prim.Native.Nat.{ℕ, ◌^◌}
use native.Mathlib.Omega.{arith}
use mathlib.Core.Path.{◌≡◌, refl, ap}
use mathlib.Core.Bool.{Bool, true, false}
use lib.Dec.{ltb}
use lib.IntN.{ℤ, pos, negsuc}
use mir.Syntax.{Width}
use mir.Val.{hbits, sel, to_z, of_z}
use mir.ValLaws.{pow-bits}
use Rattle.format.specs.Text.{pick}
use Rattle.bin.specs.Signed.{signed, unsigned}

chosen : (t : Bool) (a : ℤ) {b c : ℤ} → b ≡ c → sel t a b ≡ pick t a c
chosen true a e = refl
chosen false a e = e

-- the bits v, read as signed
pub read_signed : (w : Width) (v : ℕ) → to_z w v ≡ signed (2 ^ hbits w) v
unfolding signed
read_signed w v = chosen (ltb v (2 ^ hbits w)) (pos v) (ap negsuc (omega (arith, pow-bits w)))

-- the bits of a signed number
pub written_signed : (w : Width) (k : ℤ) → of_z w k ≡ unsigned (2 ^ hbits w) k
unfolding unsigned
written_signed w (pos n) = refl
written_signed w (negsuc n) = omega (arith, pow-bits w)
