-- One field after another.
use Rattle.format.proofs.Rules.{returning, read, read_exit, later, next}
use Rattle.note.proofs.Points.{no_points, points_read, points_end}
use Rattle.note.specs.Points.{bend, points_at}
use Rattle.note.proofs.bend.read_bend.Goals as goal

pub returns-in_err-count : goal.returns-in_err-count
unfolding bend points_at
returns-in_err-count c =
    search returning depth 8

pub returns-then-count-eq0 : goal.returns-then-count-eq0
unfolding bend points_at
returns-then-count-eq0 c =
    read (later _ c.skip_at.ensures (next _ c.in_ok-count.ensures (no_points _ c.if-count-eq0.true)))

pub returns-in_err-end : goal.returns-in_err-end
unfolding bend points_at
returns-in_err-end c =
    read_exit c.branch-end.ensures c.in_err-end.is c.from_residual-in_err-end.ensures (later _ c.skip_at.ensures (next _ c.in_ok-count.ensures (points_end _ c.if-count-eq0.false c.skip_at-2.ensures c.in_err-end.was)))

pub returns : goal.returns
unfolding bend points_at
returns c =
    read (later _ c.skip_at.ensures (next _ c.in_ok-count.ensures (points_read _ c.if-count-eq0.false c.skip_at-2.ensures c.in_ok-end.was)))
