-- By the hammer that waits.
use mathlib.Core.Path.{refl, sym, ◌∙◌}
use Rattle.into_rows.proofs.Picked.{picked, passed}
use Rattle.into_rows.proofs.rows.turn_hammer.Goals as goal

pub returns-in_default : goal.returns-in_default
returns-in_default c =
    λ ms ps sums. rw c.in_default.is

pub returns-then-pulls : goal.returns-then-pulls
returns-then-pulls c =
    λ ms ps sums. rw c.in-Some.is
    (picked _ (sym (c.pulls.ensures ms ps sums) ∙ c.if-pulls.true) c.set_technique.ensures)

pub returns-else-pulls : goal.returns-else-pulls
returns-else-pulls c =
    λ ms ps sums. rw c.in-Some.is
    (passed _ (sym (c.pulls.ensures ms ps sums) ∙ c.if-pulls.false) refl)
