-- The kind that a word stands for; the last arm by what no other arm names.
use borrow.Author.Tests.{eq-eqb, ne_eqb}
use Rattle.model.specs.Kinds.{height_of}
use Rattle.model.proofs.kinds.height_of.Goals as goal

pub returns-then-peak-eq0 : goal.returns-then-peak-eq0
unfolding height_of
returns-then-peak-eq0 c =
    simp (eq-eqb _ _ c.if-peak-eq0.true)

pub returns : goal.returns
unfolding height_of
returns c =
    rw (ne_eqb _ _ c.if-peak-eq0.false, c.cents_of.ensures)
