-- Given or not.
use Rattle.beat.proofs.Filled.{status_none, status_some}
use Rattle.beat.proofs.head.status_at.Goals as goal

pub returns-then-flags-eq0 : goal.returns-then-flags-eq0
returns-then-flags-eq0 c =
    search status_none

pub returns : goal.returns
returns c =
    search status_some
