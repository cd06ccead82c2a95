-- By its bytes.
use Rattle.note.specs.Note.{read_of}
use Rattle.note.specs.Words.{hands_in}
use Rattle.note.proofs.Stores.{has_set, has_clear}
use Rattle.note.proofs.field.left_hand.Goals as goal

pub returns-then-byte-eq0 : goal.returns-then-byte-eq0
unfolding read_of hands_in
returns-then-byte-eq0 c =
    λ v. rw (has_clear _ _ (rw c.byte.ensures at c.if-byte-eq0.true))

pub returns : goal.returns
unfolding read_of hands_in
returns c =
    λ v. rw (has_set _ _ (rw c.byte.ensures at c.if-byte-eq0.false), c.finger_of.ensures, c.byte-2.ensures)
