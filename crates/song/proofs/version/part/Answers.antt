-- By how far the text goes.
use Rattle.format.proofs.Text.{between}
use Rattle.song.proofs.Digits.{part_none, part_past, part_all}
use native.Mathlib.Omega.{arith}
use Rattle.song.proofs.version.part.Goals as goal

pub returns-then-end-start : goal.returns-then-end-start
returns-then-end-start c =
    part_none c.args.start c.args.end c.args.s.now c.if-end-start.true

pub returns-then-s-start : goal.returns-then-s-start
returns-then-s-start c =
    part_past c.args.start c.args.end c.args.s.now c.if-s-start.true

pub returns-then-s-end : goal.returns-then-s-end
returns-then-s-end c =
    part_all c.args.start c.args.end c.args.s.now c.if-s-end.true

pub returns : goal.returns
returns c =
    between c.args.start c.args.end _ (omega arith)
