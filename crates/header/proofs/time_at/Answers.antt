-- Two bytes, where they stand.
use Rattle.format.proofs.Rules.{returning}
use Rattle.header.specs.Header.{time}
use Rattle.header.proofs.time_at.Goals as goal

pub returns-in_err-numerator : goal.returns-in_err-numerator
unfolding time
returns-in_err-numerator c =
    search returning depth 8 fits 4000

pub returns-in_err-denominator : goal.returns-in_err-denominator
unfolding time
returns-in_err-denominator c =
    search returning depth 8 fits 4000

pub returns : goal.returns
unfolding time
returns c =
    rw c.time_of.ensures (search returning depth 8 fits 4000)
