-- By its byte.
use Rattle.format.specs.Prog.{has}
use Rattle.note.specs.Note.{read_of}
use Rattle.note.specs.Marks.{marks_of}
use Rattle.note.specs.Words.{marks_in, marks_by}
use Rattle.note.proofs.field.vibrato.Goals as goal

pub returns : goal.returns
unfolding has read_of marks_of marks_in marks_by
returns c =
    λ v. rw c.byte.ensures
