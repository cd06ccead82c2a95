-- One field after another.
use Rattle.format.specs.Prog.{has}
use Rattle.note.proofs.Straight.{straight_flags, straight_read}
use Rattle.note.proofs.notes.plain_note.Goals as goal

pub returns : goal.returns
unfolding has
returns c =
    straight_read _ _ c.requires.2 (straight_flags _ c.requires.3) c.put.ensures c.byte.ensures c.put-2.ensures c.put_if-at.ensures c.byte-2.ensures c.put-3.ensures c.put_if-at-2.ensures c.put-4.ensures c.put-5.ensures
