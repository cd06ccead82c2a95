-- One field after another.
use Rattle.beat.proofs.Filled.{head_end_read}
use Rattle.beat.proofs.head.head_end.Goals as goal

pub returns : goal.returns
returns c =
    search head_end_read
