-- One field after another.
use Rattle.format.specs.Prog.{has}
use Rattle.note.proofs.Filled.{by_read}
use Rattle.note.proofs.note_by.Goals as goal

pub returns : goal.returns
unfolding has
returns c =
    search by_read
