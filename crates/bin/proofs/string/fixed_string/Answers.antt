-- The stated length, then the rest of the field.
use Rattle.format.proofs.Rules.{returning}
use Rattle.format.specs.Fields.{fixed_string}
use Rattle.bin.proofs.string.fixed_string.Goals as goal

pub returns-in_err-stated : goal.returns-in_err-stated
unfolding fixed_string
returns-in_err-stated c =
    search returning

pub returns-then-width-n : goal.returns-then-width-n
unfolding fixed_string
returns-then-width-n c =
    search returning depth 10

pub returns-in_err-range : goal.returns-in_err-range
unfolding fixed_string
returns-in_err-range c =
    search returning fits 4000

pub returns-in_err-at : goal.returns-in_err-at
unfolding fixed_string
returns-in_err-at c =
    search returning depth 8 fits 4000

pub returns : goal.returns
unfolding fixed_string
returns c =
    search returning depth 10 fits 4000
