-- By the two tests.
use borrow.Author.Tests.{le-ltb, lt-ltb, le-leb, lt-leb}
use Rattle.format.specs.Sign.{not_negative}
use Rattle.note.specs.Note.{left_hand}
use Rattle.note.proofs.field.finger_of.Goals as goal

pub returns-then-b-ge-NEGATIVE_BYTE : goal.returns-then-b-ge-NEGATIVE_BYTE
unfolding left_hand not_negative
returns-then-b-ge-NEGATIVE_BYTE c =
    simp (le-ltb _ _ c.if-b-ge-NEGATIVE_BYTE.true)

pub returns-then-b-le4 : goal.returns-then-b-le4
unfolding left_hand not_negative
returns-then-b-le4 c =
    simp (lt-ltb _ _ c.if-b-ge-NEGATIVE_BYTE.false, le-leb _ _ c.if-b-le4.true)

pub returns : goal.returns
unfolding left_hand not_negative
returns c =
    simp (lt-ltb _ _ c.if-b-ge-NEGATIVE_BYTE.false, lt-leb _ _ c.if-b-le4.false)
