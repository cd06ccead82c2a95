-- By whether the beat has a text.
use mathlib.Core.Path.{sym}
use Rattle.enter.proofs.text_room.Goals as goal

pub returns-then-has_text : goal.returns-then-has_text
returns-then-has_text c =
    λ v w. rw (sym (c.has_text.ensures v w), c.if-has_text.true) c.plus.ensures

pub returns : goal.returns
returns c =
    λ v w. rw (sym (c.has_text.ensures v w), c.if-has_text.false)
