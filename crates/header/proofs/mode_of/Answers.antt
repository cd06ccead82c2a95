-- By the test.
use borrow.Author.Tests.{eq-eqb, ne_eqb}
use Rattle.header.specs.Header.{mode_of}
use Rattle.header.proofs.mode_of.Goals as goal

pub returns-then-b-eq0 : goal.returns-then-b-eq0
unfolding mode_of
returns-then-b-eq0 c =
    simp (eq-eqb _ _ c.if-b-eq0.true)

pub returns : goal.returns
unfolding mode_of
returns c =
    simp (ne_eqb _ _ c.if-b-eq0.false)
