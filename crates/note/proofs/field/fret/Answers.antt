-- By its byte.
use Rattle.note.specs.Note.{read_of}
use Rattle.note.proofs.field.fret.Goals as goal

pub returns : goal.returns
unfolding read_of
returns c =
    λ v. rw (c.fret_of.ensures, c.byte.ensures)
