-- By the tests.
use borrow.Author.Tests.{le-leb, lt-leb}
use Rattle.model.specs.Kinds.{tempo_from}
use Rattle.model.proofs.kinds.tempo_from.Goals as goal

pub returns-then-number-lt1 : goal.returns-then-number-lt1
unfolding tempo_from
returns-then-number-lt1 c =
    simp (lt-leb 1 _ c.if-number-lt1.true)

pub returns-then-number-le999 : goal.returns-then-number-le999
unfolding tempo_from
returns-then-number-le999 c =
    simp (le-leb 1 _ c.if-number-lt1.false, le-leb _ 999 c.if-number-le999.true)

pub returns : goal.returns
unfolding tempo_from
returns c =
    simp (le-leb 1 _ c.if-number-lt1.false, lt-leb _ 999 c.if-number-le999.false)
