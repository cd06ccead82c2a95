-- By its number.
use Rattle.beat.specs.Words.{ottava_in}
use Rattle.beat.proofs.field.ottava.Goals as goal

pub returns : goal.returns
unfolding ottava_in
returns c =
    rw (c.ottava_of.ensures, c.number_of.ensures)
