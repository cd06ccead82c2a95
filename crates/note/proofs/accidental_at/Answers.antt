-- One field after another.
use Rattle.format.specs.Prog.{has}
use Rattle.note.proofs.Filled.{accidental_read}
use Rattle.note.proofs.accidental_at.Goals as goal

pub returns : goal.returns
unfolding has
returns c =
    search accidental_read
