-- By its number.
use Rattle.note.proofs.Stores.{has_set, has_clear}
use Rattle.beat.specs.Words.{mix_in, mix_by}
use Rattle.beat.proofs.field.tempo.Goals as goal

pub returns-then-byte_of-eq0 : goal.returns-then-byte_of-eq0
unfolding mix_in mix_by
returns-then-byte_of-eq0 c =
    rw (has_clear _ _ (rw c.byte_of.ensures at c.if-byte_of-eq0.true))

pub returns : goal.returns
unfolding mix_in mix_by
returns c =
    rw (has_set _ _ (rw c.byte_of.ensures at c.if-byte_of-eq0.false), c.tempo_from.ensures, c.number_of.ensures)
