-- By its byte.
use Rattle.format.specs.Prog.{has}
use Rattle.beat.specs.Head.{head_of}
use Rattle.beat.specs.Words.{head_in, head_with}
use Rattle.beat.proofs.field.kept.Goals as goal

pub returns : goal.returns
unfolding has head_in head_with head_of
returns c =
    rw c.byte_of.ensures
