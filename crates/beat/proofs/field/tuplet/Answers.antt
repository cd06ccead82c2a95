-- By its number.
use Rattle.beat.specs.Head.{head_of}
use Rattle.beat.specs.Words.{head_in, head_with}
use Rattle.beat.proofs.field.tuplet.Goals as goal

pub returns : goal.returns
unfolding head_in head_with head_of
returns c =
    rw (c.tuplet_of.ensures, c.number_of.ensures)
