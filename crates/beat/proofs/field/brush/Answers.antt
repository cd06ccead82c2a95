-- By its bytes.
use borrow.Author.Tests.{le-leb, lt-leb}
use Rattle.note.proofs.Stores.{has_set, has_clear}
use Rattle.beat.specs.Effects.{effects_of}
use Rattle.beat.specs.Words.{brushed, brush_in, effects_in, effects_with}
use Rattle.beat.proofs.field.brush.Goals as goal

pub returns-then-byte_of-eq0 : goal.returns-then-byte_of-eq0
unfolding effects_of brushed brush_in effects_in effects_with
returns-then-byte_of-eq0 c =
    rw (has_clear _ _ (rw c.byte_of.ensures at c.if-byte_of-eq0.true))

pub returns-then-v-ge500 : goal.returns-then-v-ge500
unfolding effects_of brushed brush_in effects_in effects_with
returns-then-v-ge500 c =
    rw (has_set _ _ (rw c.byte_of.ensures at c.if-byte_of-eq0.false), le-leb _ _ c.if-v-ge500.true, c.brush_of.ensures, c.byte_of-first.ensures, c.byte_of-second.ensures)

pub returns : goal.returns
unfolding effects_of brushed brush_in effects_in effects_with
returns c =
    rw (has_set _ _ (rw c.byte_of.ensures at c.if-byte_of-eq0.false), lt-leb _ _ c.if-v-ge500.false, c.brush_of-2.ensures, c.byte_of-first.ensures, c.byte_of-second.ensures)
