-- By the test.
use borrow.Author.Tests.{le-leb, lt-leb}
use Rattle.header.specs.Header.{passes_of}
use Rattle.header.proofs.passes_of.Goals as goal

pub returns-then-mask-ge2 : goal.returns-then-mask-ge2
unfolding passes_of
returns-then-mask-ge2 c =
    simp (le-leb 2 _ c.if-mask-ge2.true)

pub returns : goal.returns
unfolding passes_of
returns c =
    simp (lt-leb 2 _ c.if-mask-ge2.false)
