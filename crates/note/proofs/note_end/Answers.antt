-- One field after another.
use Rattle.note.proofs.Filled.{end_read}
use Rattle.note.proofs.note_end.Goals as goal

pub returns : goal.returns
returns c =
    search end_read
