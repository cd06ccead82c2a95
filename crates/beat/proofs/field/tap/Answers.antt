-- By its bytes.
use Rattle.note.proofs.Stores.{has_set, has_clear}
use Rattle.beat.specs.Effects.{effects_of}
use Rattle.beat.specs.Words.{tapping_in, effects_in, effects_with}
use Rattle.beat.proofs.field.tap.Goals as goal

pub returns-then-byte_of-ne0 : goal.returns-then-byte_of-ne0
unfolding effects_of tapping_in effects_in effects_with
returns-then-byte_of-ne0 c =
    λ v. rw (has_set _ _ (rw c.byte_of.ensures at c.if-byte_of-ne0.true), c.byte_of-then-byte_of-ne0.ensures)

pub returns-else-byte_of-ne0 : goal.returns-else-byte_of-ne0
unfolding effects_of tapping_in effects_in effects_with
returns-else-byte_of-ne0 c =
    λ v. rw (has_clear _ _ (rw c.byte_of.ensures at c.if-byte_of-ne0.false), c.if-byte_of-ne0.false)
