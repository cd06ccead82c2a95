-- Without the blanks at its end the text is as long as it was.
use Prim.Native.Nat.{◌≤◌}
use mathlib.Core.Path.{◌≡◌}
use lib.Seq.{slice}
use Rattle.format.specs.Text.{keep_len}
use Rattle.bin.proofs.string.keep_end.Given as goal

abbrev pub invariant-loop-last : goal.invariant-loop-last
invariant-loop-last l = (l.from ≤ l.last) × (keep_len (slice l.from l.last l.s) ≡ keep_len (slice l.from l.end l.s))
