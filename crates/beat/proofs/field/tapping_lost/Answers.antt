-- By its bytes.
use Rattle.note.proofs.Stores.{has_set, has_clear}
use Rattle.beat.specs.Effects.{effects_of}
use Rattle.beat.specs.Words.{tapping_in, effects_in, effects_with}
use Rattle.beat.proofs.field.tapping_lost.Goals as goal

pub returns-then-byte_of-eq0 : goal.returns-then-byte_of-eq0
unfolding effects_of tapping_in effects_in effects_with
returns-then-byte_of-eq0 c =
    λ v. rw (has_clear _ _ (rw c.byte_of.ensures at c.if-byte_of-eq0.true))

pub returns : goal.returns
unfolding effects_of tapping_in effects_in effects_with
returns c =
    λ v. rw (has_set _ _ (rw c.byte_of.ensures at c.if-byte_of-eq0.false), c.byte_of-kind.ensures)
