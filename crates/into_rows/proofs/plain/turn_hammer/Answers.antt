-- By the hammer that waits.
use mathlib.Core.Path.{refl, sym, ◌∙◌}
use Rattle.into_rows.proofs.Picked.{picked, passed}
use Rattle.into_rows.proofs.Straight.{pulls_off}
use Rattle.into_rows.proofs.plain.turn_hammer.Goals as goal

pub returns-in_default : goal.returns-in_default
returns-in_default c =
    λ place board flat mark x xs sums. rw c.in_default.is

pub returns-then-company-key : goal.returns-then-company-key
returns-then-company-key c =
    λ place board flat mark x xs sums. rw c.in-Some.is
    (picked _ (sym (pulls_off place board flat mark x xs _ _ sums) ∙ c.if-company-key.true) c.set_technique.ensures)

pub returns-else-company-key : goal.returns-else-company-key
returns-else-company-key c =
    λ place board flat mark x xs sums. rw c.in-Some.is
    (passed _ (sym (pulls_off place board flat mark x xs _ _ sums) ∙ c.if-company-key.false) refl)
