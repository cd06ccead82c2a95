-- The byte, where it stands.
use Rattle.format.proofs.Rules.{returning}
use Rattle.song.specs.Info.{triplet_feel}
use Rattle.song.proofs.info.triplet_feel_at.Goals as goal

pub returns-in_err-at : goal.returns-in_err-at
unfolding triplet_feel
returns-in_err-at c =
    search returning depth 8 fits 4000

pub returns-in_err-feel : goal.returns-in_err-feel
unfolding triplet_feel
returns-in_err-feel c =
    search returning depth 8 fits 4000

pub returns-then-v-ge500 : goal.returns-then-v-ge500
unfolding triplet_feel
returns-then-v-ge500 c =
    search returning

pub returns : goal.returns
unfolding triplet_feel
returns c =
    search returning depth 8 fits 4000
