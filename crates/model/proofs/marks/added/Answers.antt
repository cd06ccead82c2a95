use mathlib.Core.Path.{◌∙◌}
use Rattle.model.specs.Marks.{added_in, add_mark}
use Rattle.model.proofs.marks.added.Goals as goal

pub returns-then-has_digit : goal.returns-then-has_digit
unfolding added_in add_mark
returns-then-has_digit c =
    rw (← c.digit_of-digit.ensures, ← c.has_digit.ensures, c.if-has_digit.true)

pub returns : goal.returns
unfolding added_in add_mark
returns c =
    c.with_digit.ensures ∙ rw (← c.digit_of-digit.ensures, ← c.has_digit.ensures, c.if-has_digit.false)
