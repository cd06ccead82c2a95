use borrow.Author.Tests.{lt-ltb, le-ltb}
use Rattle.model.specs.Marks.{mark_at}
use Rattle.model.proofs.marks.mark_at.Goals as goal

pub returns-then-m-k : goal.returns-then-m-k
unfolding mark_at
returns-then-m-k c =
    simp (le-ltb _ _ c.if-m-k.true)

pub returns : goal.returns
unfolding mark_at
returns c =
    rw (lt-ltb _ _ c.if-m-k.false, c.from.ensures, c.without_last-d.ensures)
