-- By its word.
use Rattle.model.specs.Kinds.{flag_of}
use Rattle.note.proofs.Stores.{has_set, has_clear}
use Rattle.beat.specs.Words.{mix_in, mix_by}
use Rattle.beat.proofs.field.wah_lost.Goals as goal

pub returns-then-byte_of-ne0 : goal.returns-then-byte_of-ne0
unfolding flag_of mix_in mix_by
returns-then-byte_of-ne0 c =
    rw (has_set _ _ (rw c.byte_of.ensures at c.if-byte_of-ne0.true), c.byte_of-then-byte_of-ne0.ensures)

pub returns-else-byte_of-ne0 : goal.returns-else-byte_of-ne0
unfolding flag_of mix_in mix_by
returns-else-byte_of-ne0 c =
    rw (has_clear _ _ (rw c.byte_of.ensures at c.if-byte_of-ne0.false), c.if-byte_of-ne0.false)
