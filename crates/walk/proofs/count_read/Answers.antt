-- A beat is read, then counted.
use Rattle.format.proofs.Rules.{then, went_on, place_exit, place_broke, at_first}
use Rattle.words.proofs.Places.{done_as}
use Rattle.walk.proofs.count_read.Goals as goal

pub returns-in_err-past-clause-beat : goal.returns-in_err-past-clause-beat
returns-in_err-past-clause-beat c =
    place_exit c.branch-past.ensures c.in_err-past.is c.from_residual.ensures (at_first _ (place_broke c.read_beat.ensures c.branch-past.ensures c.in_err-past.is))

pub returns-clause-beat : goal.returns-clause-beat
returns-clause-beat c =
    then _ (went_on c.read_beat.ensures c.branch-past.ensures c.in_ok-past.is) (done_as (c.count_beat.ensures.beat c.args.v))
