-- The kind that a word stands for; the last arm by what no other arm names.
use borrow.Author.Tests.{eq-eqb, ne_eqb}
use Rattle.model.specs.Kinds.{position_of}
use Rattle.model.proofs.kinds.position_of.Goals as goal

pub returns-then-string-eq0 : goal.returns-then-string-eq0
unfolding position_of
returns-then-string-eq0 c =
    simp (eq-eqb _ _ c.if-string-eq0.true)

pub returns : goal.returns
unfolding position_of
returns c =
    rw (ne_eqb _ _ c.if-string-eq0.false, c.byte_of.ensures, c.byte_of-2.ensures)
