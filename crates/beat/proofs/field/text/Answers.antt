-- By its words.
use Rattle.note.proofs.Stores.{has_set, has_clear}
use Rattle.beat.specs.Words.{range_in, text_range}
use Rattle.beat.proofs.field.text.Goals as goal

pub returns-then-byte_of-eq0 : goal.returns-then-byte_of-eq0
unfolding range_in text_range
returns-then-byte_of-eq0 c =
    rw (has_clear _ _ (rw c.byte_of.ensures at c.if-byte_of-eq0.true))

pub returns : goal.returns
unfolding range_in text_range
returns c =
    rw (has_set _ _ (rw c.byte_of.ensures at c.if-byte_of-eq0.false))
