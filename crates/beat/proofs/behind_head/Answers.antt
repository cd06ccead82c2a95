-- One field after another.
use Rattle.beat.proofs.Filled.{behind_read}
use Rattle.beat.proofs.behind_head.Goals as goal

pub returns : goal.returns
returns c =
    search behind_read
