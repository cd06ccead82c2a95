-- The kind that a word stands for; the last arm by what no other arm names.
use borrow.Author.Tests.{eq-eqb, ne_eqb}
use Rattle.model.specs.Kinds.{tuplet_of}
use Rattle.model.proofs.kinds.tuplet_of.Goals as goal

pub returns-then-actual-eq0 : goal.returns-then-actual-eq0
unfolding tuplet_of
returns-then-actual-eq0 c =
    simp (eq-eqb _ _ c.if-actual-eq0.true)

pub returns : goal.returns
unfolding tuplet_of
returns c =
    rw (ne_eqb _ _ c.if-actual-eq0.false, c.byte_of.ensures, c.byte_of-2.ensures)
