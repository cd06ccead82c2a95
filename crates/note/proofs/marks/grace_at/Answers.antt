-- One field after another.
use Rattle.note.proofs.Filled.{grace_none, grace_some}
use Rattle.note.proofs.marks.grace_at.Goals as goal

pub returns-then-first-eq0 : goal.returns-then-first-eq0
returns-then-first-eq0 c =
    search grace_none

pub returns : goal.returns
returns c =
    search grace_some
