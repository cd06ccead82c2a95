-- What is left to the first zero is as long as it was from the start.
use Prim.Native.Nat.{◌+◌}
use mathlib.Core.Path.{◌≡◌}
use lib.Seq.{slice}
use Rattle.format.specs.Text.{cut_len}
use Rattle.bin.proofs.string.cut_end.Given as goal

abbrev pub invariant-loop-i : goal.invariant-loop-i
invariant-loop-i l = l.i + cut_len (slice l.i l.end l.s) ≡ l.from + cut_len (slice l.from l.end l.s)
