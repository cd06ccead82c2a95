-- The field, where it stands.
use Rattle.format.proofs.Rules.{reading}
use Rattle.song.specs.Setup.{equalizer}
use Rattle.song.proofs.setup.equalizer_at.Goals as goal

pub returns-then-v-lt510 : goal.returns-then-v-lt510
unfolding equalizer
returns-then-v-lt510 c =
    search reading

pub returns : goal.returns
unfolding equalizer
returns c =
    search reading
