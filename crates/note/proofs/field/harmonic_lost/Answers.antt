-- By its bytes.
use Rattle.note.specs.Note.{read_of}
use Rattle.note.specs.Marks.{marks_of}
use Rattle.note.specs.Words.{marks_in, marks_by, harmonic_in}
use Rattle.note.proofs.Stores.{has_set, has_clear}
use Rattle.note.proofs.field.harmonic_lost.Goals as goal

pub returns-then-byte-ne0 : goal.returns-then-byte-ne0
unfolding read_of marks_of marks_in marks_by harmonic_in
returns-then-byte-ne0 c =
    λ v. rw (has_set _ _ (rw c.byte.ensures at c.if-byte-ne0.true), c.byte-then-byte-ne0.ensures)

pub returns-else-byte-ne0 : goal.returns-else-byte-ne0
unfolding read_of marks_of marks_in marks_by harmonic_in
returns-else-byte-ne0 c =
    λ v. rw (has_clear _ _ (rw c.byte.ensures at c.if-byte-ne0.false), c.if-byte-ne0.false)
