-- By the tests.
use mathlib.Core.Path.{sym, ◌∙◌}
use borrow.Author.Tests.{eq-eqb, ne_eqb}
use Rattle.track.specs.Track.{clef_of}
use Rattle.track.proofs.clef_of.Goals as goal

pub returns-then-percussion : goal.returns-then-percussion
unfolding clef_of
returns-then-percussion c =
    simp c.if-percussion.true

pub returns-then-is_low : goal.returns-then-is_low
unfolding clef_of
returns-then-is_low c =
    simp (c.if-percussion.false, sym c.is_low.ensures ∙ c.if-is_low.true)

pub returns-then-field-eq12 : goal.returns-then-field-eq12
unfolding clef_of
returns-then-field-eq12 c =
    simp (c.if-percussion.false, sym c.is_low.ensures ∙ c.if-is_low.false, eq-eqb _ _ c.if-field-eq12.true)

pub returns : goal.returns
unfolding clef_of
returns c =
    simp (c.if-percussion.false, sym c.is_low.ensures ∙ c.if-is_low.false, ne_eqb _ _ c.if-field-eq12.false)
