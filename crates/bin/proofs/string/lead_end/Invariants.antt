-- What is left of the blanks is as long as it was from the start.
use Prim.Native.Nat.{◌+◌}
use mathlib.Core.Path.{◌≡◌}
use lib.Seq.{slice}
use Rattle.format.specs.Text.{lead_len}
use Rattle.bin.proofs.string.lead_end.Given as goal

abbrev pub invariant-loop-i : goal.invariant-loop-i
invariant-loop-i l = l.i + lead_len (slice l.i l.end l.s) ≡ l.from + lead_len (slice l.from l.end l.s)
