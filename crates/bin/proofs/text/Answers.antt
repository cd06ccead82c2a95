-- By the two tests.
use borrow.Author.Tests.{le-leb, lt-leb}
use Rattle.bin.specs.Part.{part_of}
use Rattle.format.proofs.Text.{between}
use Rattle.bin.proofs.text.Goals as goal

pub returns-then-end-start : goal.returns-then-end-start
unfolding part_of
returns-then-end-start c =
    simp (lt-leb _ _ c.if-end-start.true)

pub returns-then-s-end : goal.returns-then-s-end
unfolding part_of
returns-then-s-end c =
    simp (le-leb _ _ c.if-end-start.false, lt-leb _ _ c.if-s-end.true)

pub returns : goal.returns
unfolding part_of
returns c =
    simp (le-leb _ _ c.if-end-start.false, le-leb _ _ c.if-s-end.false) (between _ _ _ c.if-end-start.false)
