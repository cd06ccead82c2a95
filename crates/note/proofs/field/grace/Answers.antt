-- By its bytes.
use Rattle.note.specs.Note.{read_of}
use Rattle.note.specs.Marks.{marks_of}
use Rattle.note.specs.Words.{marks_in, marks_by, grace_in}
use Rattle.note.proofs.Stores.{has_set, has_clear}
use Rattle.note.proofs.field.grace.Goals as goal

pub returns-then-byte-eq0 : goal.returns-then-byte-eq0
unfolding read_of marks_of marks_in marks_by grace_in
returns-then-byte-eq0 c =
    λ v. rw (has_clear _ _ (rw c.byte.ensures at c.if-byte-eq0.true))

pub returns : goal.returns
unfolding read_of marks_of marks_in marks_by grace_in
returns c =
    λ v. rw (has_set _ _ (rw c.byte.ensures at c.if-byte-eq0.false), c.grace_of.ensures, c.byte-2.ensures, c.byte-3.ensures, c.byte-4.ensures)
