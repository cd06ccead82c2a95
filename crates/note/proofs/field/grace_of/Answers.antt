-- Test by test.
use Rattle.format.specs.Prog.{has}
use Rattle.note.specs.Marks.{grace_of}
use Rattle.note.proofs.field.grace_of.Goals as goal

pub returns : goal.returns
unfolding grace_of has
returns c =
    rw c.fret_of.ensures
