-- Given or not.
use Rattle.beat.proofs.Filled.{mix_none, mix_some}
use Rattle.beat.proofs.mix.mix_at.Goals as goal

pub returns-then-flags-eq0 : goal.returns-then-flags-eq0
returns-then-flags-eq0 c =
    search mix_none

pub returns : goal.returns
returns c =
    search mix_some
