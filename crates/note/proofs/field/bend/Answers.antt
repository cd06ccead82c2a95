-- By its words.
use Rattle.note.specs.Words.{bend_at, bend_by}
use Rattle.note.proofs.Stores.{has_set, has_clear}
use Rattle.note.proofs.field.bend.Goals as goal

pub returns-then-byte-eq0 : goal.returns-then-byte-eq0
unfolding bend_at bend_by
returns-then-byte-eq0 c =
    rw (has_clear _ _ (rw c.byte.ensures at c.if-byte-eq0.true))

pub returns : goal.returns
unfolding bend_at bend_by
returns c =
    rw (has_set _ _ (rw c.byte.ensures at c.if-byte-eq0.false), c.start_of-o.ensures.0)
