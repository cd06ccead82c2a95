-- By the test.
use borrow.Author.Tests.{le-leb, lt-leb}
use Rattle.header.specs.Header.{ending_number}
use Rattle.header.proofs.ending_number.Goals as goal

pub returns-then-v-ge500 : goal.returns-then-v-ge500
unfolding ending_number
returns-then-v-ge500 c =
    simp (le-leb _ _ c.if-v-ge500.true) c.ending_of.ensures

pub returns : goal.returns
unfolding ending_number
returns c =
    simp (lt-leb _ _ c.if-v-ge500.false)
