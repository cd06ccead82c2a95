-- By its calls.
use Rattle.note.proofs.field.byte.Goals as goal

pub returns : goal.returns
returns c =
    rw (← c.start_of.ensures.0) c.byte_of.ensures
