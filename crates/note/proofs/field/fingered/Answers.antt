-- By its byte.
use Rattle.format.specs.Prog.{has}
use Rattle.note.specs.Words.{fingered_in}
use Rattle.note.proofs.field.fingered.Goals as goal

pub returns : goal.returns
unfolding has fingered_in
returns c =
    rw c.byte.ensures
