-- Given or not.
use Rattle.beat.proofs.Filled.{tapping_none, tapping_some}
use Rattle.beat.proofs.effects.tapping_at.Goals as goal

pub returns-then-flags-eq0 : goal.returns-then-flags-eq0
returns-then-flags-eq0 c =
    search tapping_none

pub returns : goal.returns
returns c =
    search tapping_some
