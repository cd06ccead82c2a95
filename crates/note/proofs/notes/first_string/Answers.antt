-- The leading zeros of seven bits.
use native.Mathlib.Omega.{arith}
use Prim.Native.Nat.{◌%◌}
use lib.Count.{leading_le}
use Rattle.note.specs.Words.{first_string}
use Rattle.note.proofs.Strings.{low_enough}
use Rattle.note.proofs.notes.first_string.Goals as goal

pub overflow_sub-result : goal.overflow_sub-result
unfolding first_string
overflow_sub-result c =
    low_enough _ (omega arith)

pub overflow_cast-result : goal.overflow_cast-result
unfolding first_string
overflow_cast-result c =
    record { fits = omega (arith, leading_le 32 (c.args.mask % 128)) }
