-- A beat is read, then added.
use Rattle.format.proofs.Rules.{then, went_on, place_exit, place_broke, at_first}
use Rattle.words.proofs.Places.{done_as}
use Rattle.walk.proofs.one_beat.Goals as goal

pub returns-in_err-next-clause-beat : goal.returns-in_err-next-clause-beat
returns-in_err-next-clause-beat c =
    λ parts lent. place_exit c.branch-next.ensures c.in_err-next.is c.from_residual.ensures (at_first _ (place_broke c.read_beat.ensures c.branch-next.ensures c.in_err-next.is))

pub returns-clause-beat : goal.returns-clause-beat
returns-clause-beat c =
    λ parts lent. then _ (went_on c.read_beat.ensures c.branch-next.ensures c.in_ok-next.is) (done_as (c.add_beat.ensures.beat parts lent))
