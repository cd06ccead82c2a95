-- The bytes passed are counted and stored, those that are left go behind them.
use Prim.Native.Nat.{◌+◌, ◌≤◌}
use mathlib.Core.Path.{◌≡◌}
use lib.ListN.{length}
use Rattle.std.specs.Prelude.{option_map}
use Rattle.utf8.specs.Back.{back}
use Rattle.utf8.proofs.Turns.{counted_from, stored_from}
use Rattle.utf8.proofs.back.read.Given as goal

abbrev pub invariant-loop-left : goal.invariant-loop-left
invariant-loop-left l = (l.n + length l.left ≤ length l.text) × (counted_from l.n (back l.left) ≡ option_map length (back l.text))
    × (stored_from l.out l.n (back l.left) ≡ stored_from l.initial.out 0 (back l.text))

abbrev pub decreases-loop-left : goal.decreases-loop-left
decreases-loop-left l = length l.left
