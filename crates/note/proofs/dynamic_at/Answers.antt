-- Given or not.
use Rattle.note.proofs.Filled.{dynamic_none, dynamic_some}
use Rattle.note.proofs.dynamic_at.Goals as goal

pub returns-then-flags-eq0 : goal.returns-then-flags-eq0
returns-then-flags-eq0 c =
    search dynamic_none

pub returns : goal.returns
returns c =
    search dynamic_some
