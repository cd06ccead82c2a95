-- By whether the beat has a text.
use mathlib.Core.Path.{sym, refl}
use Rattle.enter.proofs.enter_text.Goals as goal

pub returns-then-has_text : goal.returns-then-has_text
returns-then-has_text c =
    λ v w. rw (sym (c.has_text.ensures v w), sym c.text-text.ensures, c.if-has_text.true) (c.keep_text.ensures.texts_after, c.keep_text.ensures.value)

pub returns : goal.returns
returns c =
    λ v w. rw (sym (c.has_text.ensures v w), c.if-has_text.false) (refl, refl)
