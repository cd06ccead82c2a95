-- By its bytes.
use Rattle.note.specs.Words.{dynamic_in}
use Rattle.note.proofs.Stores.{has_set, has_clear}
use Rattle.note.proofs.field.dynamic.Goals as goal

pub returns-then-byte-eq0 : goal.returns-then-byte-eq0
unfolding dynamic_in
returns-then-byte-eq0 c =
    rw (has_clear _ _ (rw c.byte.ensures at c.if-byte-eq0.true))

pub returns : goal.returns
unfolding dynamic_in
returns c =
    rw (has_set _ _ (rw c.byte.ensures at c.if-byte-eq0.false), c.byte-2.ensures)
