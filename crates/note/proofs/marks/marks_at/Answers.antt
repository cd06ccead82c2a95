-- One field after another.
use Rattle.format.specs.Prog.{has}
use Rattle.note.proofs.Filled.{marks_read}
use Rattle.note.proofs.marks.marks_at.Goals as goal

pub returns : goal.returns
unfolding has
returns c =
    search marks_read
