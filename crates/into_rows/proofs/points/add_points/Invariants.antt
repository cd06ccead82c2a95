-- Point by point.
use Prim.Native.Nat.{◌+◌, ◌≤◌}
use mathlib.Core.Path.{◌≡◌}
use lib.ListN.{length}
use Rattle.tables.specs.Table.{stores}
use Rattle.entries.specs.Words.{point_stride, point_words}
use Rattle.curve.specs.Slots.{left_in, shown}
use Rattle.into_rows.proofs.points.add_points.Given as goal

abbrev pub invariant-loop-i : goal.invariant-loop-i
invariant-loop-i l = (goal.iterator-loop-i).can_next l.i-iterator × (goal.iterator-loop-i).is_finite l.i-iterator
    × (length l.points ≡ length l.initial.points)
    × (l.i-iterator.count + length (left_in l.i-iterator.iter) ≤ 61)
    × (stores point_words point_stride l.points (l.first + l.i-iterator.count) (left_in l.i-iterator.iter)
    ≡ stores point_words point_stride l.initial.points l.first (shown l.curve))
