-- By its bytes.
use Rattle.note.proofs.Stores.{has_set, has_clear}
use Rattle.beat.specs.Words.{tapping_in}
use Rattle.beat.proofs.field.dive.Goals as goal

pub returns-then-byte_of-eq0 : goal.returns-then-byte_of-eq0
unfolding tapping_in
returns-then-byte_of-eq0 c =
    rw (has_clear _ _ (rw c.byte_of.ensures at c.if-byte_of-eq0.true))

pub returns : goal.returns
unfolding tapping_in
returns c =
    rw (has_set _ _ (rw c.byte_of.ensures at c.if-byte_of-eq0.false), c.byte_of-2.ensures)
