-- From a known position, its head and what stands behind it.
use Rattle.format.proofs.Rules.{still}
use Rattle.beat.proofs.Filled.{beat_read}
use Rattle.beat.proofs.read_beat.Goals as goal

pub returns-in_default : goal.returns-in_default
returns-in_default c =
    search still

pub returns : goal.returns
returns c =
    search beat_read
