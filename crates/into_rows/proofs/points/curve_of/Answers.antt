-- Point by point, each put among those before it.
use Prim.Native.Nat.{◌+◌, ◌-◌}
use native.Mathlib.Omega.{arith}
use native.Mathlib.Nat.{add-zero}
use mathlib.Core.Path.{◌≡◌, ap, ◌∙◌}
use Rattle.curve.specs.Bend.{with_ends, finish}
use Rattle.note.specs.Points.{points_at}
use Rattle.into_rows.proofs.Curves.{points_step, points_held}
use Rattle.into_rows.proofs.points.curve_of.Goals as goal

pub loop-init : goal.loop-init
loop-init c =
    let all : c.args.bend.count - 0 ≡ c.args.bend.count = omega arith in
    rw (c.new-curve.ensures, all)

pub loop-preserved : goal.loop-preserved
loop-preserved c =
    let l = c.loop in
    let s = c.args.s.now in
    let left = c.args.bend.count - l.counter in
    let fewer : c.args.bend.count - (l.counter + 1) ≡ left - 1 = omega arith in
    rw (
      fewer,
      c.point_after-at.ensures,
      points_held s (l.at + 9) (left - 1),
      c.add.ensures,
      c.word_after.ensures,
      c.word_after-in-loop.ensures,
      add-zero,
    )
    (rw (points_step s l.at left (omega arith)) at l.invariant)

pub returns : goal.returns
unfolding finish points_at
returns c =
    let none : c.args.bend.count - c.loop.counter ≡ 0 = omega arith in
    c.finish.ensures ∙ ap with_ends (rw none at c.loop.invariant)
