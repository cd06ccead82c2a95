-- By its words.
use Rattle.beat.specs.Words.{bare_in}
use Rattle.beat.proofs.field.bare.Goals as goal

pub returns : goal.returns
unfolding bare_in
returns c =
    rw (c.number_of-ottava.ensures, c.byte_of-more.ensures, c.byte_of-effects.ensures, c.byte_of-flags.ensures)
