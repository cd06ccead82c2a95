-- Graces, or none.
use borrow.Author.Tests.{eq-eqb, ne_eqb}
use Rattle.enter.proofs.count.with_graces.Goals as goal

pub returns-then-graces-eq0 : goal.returns-then-graces-eq0
returns-then-graces-eq0 c =
    rw (eq-eqb _ _ c.if-graces-eq0.true)

pub returns : goal.returns
returns c =
    rw (ne_eqb _ _ c.if-graces-eq0.false, c.plus.ensures, c.plus-2.ensures)
