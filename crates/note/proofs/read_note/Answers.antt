-- One field after another.
use Rattle.note.proofs.Filled.{note_read}
use Rattle.note.proofs.read_note.Goals as goal

pub returns : goal.returns
returns c =
    search note_read
