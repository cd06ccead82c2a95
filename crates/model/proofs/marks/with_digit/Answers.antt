use borrow.Author.Tests.{lt-ltb, le-ltb}
use Rattle.model.specs.Marks.{added_in, with_digit}
use Rattle.model.proofs.marks.with_digit.Goals as goal

pub returns-then-m-ge16 : goal.returns-then-m-ge16
unfolding added_in with_digit
returns-then-m-ge16 c =
    simp (le-ltb _ _ c.if-m-ge16.true)

pub returns : goal.returns
unfolding added_in with_digit
returns c =
    simp (lt-ltb _ _ c.if-m-ge16.false)
