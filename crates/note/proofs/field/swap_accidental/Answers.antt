-- By its byte.
use Rattle.format.specs.Prog.{has}
use Rattle.note.specs.Note.{read_of}
use Rattle.note.proofs.field.swap_accidental.Goals as goal

pub returns : goal.returns
unfolding has read_of
returns c =
    λ v. rw c.byte.ensures
