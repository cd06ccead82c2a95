-- One field after another.
use Rattle.format.proofs.Rules.{returning}
use Rattle.beat.specs.Mix.{three_signs}
use Rattle.beat.proofs.mix.three_signs.Goals as goal

pub returns-in_err-a : goal.returns-in_err-a
unfolding three_signs
returns-in_err-a c =
    search returning depth 8 fits 4000

pub returns-in_err-b : goal.returns-in_err-b
unfolding three_signs
returns-in_err-b c =
    search returning depth 8 fits 4000

pub returns-in_err-c : goal.returns-in_err-c
unfolding three_signs
returns-in_err-c c =
    search returning depth 8 fits 4000

pub returns : goal.returns
unfolding three_signs
returns c =
    search returning depth 8 fits 4000
