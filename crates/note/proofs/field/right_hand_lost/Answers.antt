-- By its bytes.
use Rattle.note.specs.Note.{read_of}
use Rattle.note.specs.Words.{hands_in}
use Rattle.format.specs.Sign.{not_negative}
use Rattle.note.proofs.Stores.{has_set, has_clear}
use Rattle.note.proofs.field.right_hand_lost.Goals as goal

pub returns-then-byte-ne0 : goal.returns-then-byte-ne0
unfolding read_of hands_in not_negative
returns-then-byte-ne0 c =
    λ v. rw (has_set _ _ (rw c.byte.ensures at c.if-byte-ne0.true), c.byte-then-byte-ne0.ensures)

pub returns-else-byte-ne0 : goal.returns-else-byte-ne0
unfolding read_of hands_in not_negative
returns-else-byte-ne0 c =
    λ v. rw (has_clear _ _ (rw c.byte.ensures at c.if-byte-ne0.false), c.if-byte-ne0.false)
