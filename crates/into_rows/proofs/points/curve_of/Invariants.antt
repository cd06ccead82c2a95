-- Point by point, each put among those before it.
use Prim.Native.Nat.{◌-◌}
use mathlib.Core.Path.{◌≡◌}
use mathlib.Core.List.{[], map}
use Rattle.curve.specs.Bend.{inserts}
use Rattle.curve.specs.Slots.{shown}
use Rattle.note.specs.Points.{points_at}
use Rattle.into_rows.proofs.Curves.{point_in}
use Rattle.into_rows.proofs.points.curve_of.Given as goal

abbrev pub invariant-loop : goal.invariant-loop
invariant-loop l = inserts (shown l.curve) (map point_in (points_at l.s l.at (l.end - l.counter))) ≡ inserts [] (map point_in (points_at l.s l.initial.at l.end))
