-- The kind that a word stands for; the last arm by what no other arm names.
use borrow.Author.Tests.{eq-eqb, ne_eqb}
use Rattle.model.specs.Kinds.{passes_of}
use Rattle.model.proofs.kinds.passes_of.Goals as goal

pub returns-then-word-eq0 : goal.returns-then-word-eq0
unfolding passes_of
returns-then-word-eq0 c =
    simp (eq-eqb _ _ c.if-word-eq0.true)

pub returns : goal.returns
unfolding passes_of
returns c =
    rw (ne_eqb _ _ c.if-word-eq0.false, c.byte_of.ensures)
