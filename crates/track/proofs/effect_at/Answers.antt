-- One field after another, where they stand.
use Rattle.format.proofs.Rules.{reading}
use Rattle.track.specs.Track.{effect}
use Rattle.track.proofs.effect_at.Goals as goal

pub returns-then-v-ge510 : goal.returns-then-v-ge510
unfolding effect
returns-then-v-ge510 c =
    search reading depth 10

pub returns : goal.returns
unfolding effect
returns c =
    search reading depth 10
