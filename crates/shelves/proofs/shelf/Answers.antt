-- By how the reading ends.
use mathlib.Core.Path.{◌∙◌}
use Rattle.shelves.proofs.Ends.{ends_refused, ends_shown}
use Rattle.shelves.proofs.shelf.Goals as goal

pub returns-in-Ok : goal.returns-in-Ok
returns-in-Ok c =
    c.shown.ensures ∙ ends_shown _ c.up_to-s.ensures c.in-Ok.ensures.reads

pub returns-in-Err : goal.returns-in-Err
returns-in-Err c =
    c.refused.ensures ∙ rw c.refusal_of.ensures (ends_refused _ c.up_to-s.ensures c.in-Err.ensures.reads)
