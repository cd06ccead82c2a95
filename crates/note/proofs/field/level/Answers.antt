-- By its bytes.
use Rattle.format.specs.Prog.{has}
use Rattle.note.specs.Note.{read_of}
use Rattle.note.proofs.field.level.Goals as goal

pub returns : goal.returns
unfolding read_of has
returns c =
    λ v. rw (c.note_level.ensures, c.dynamic.ensures, c.byte-flags.ensures)
