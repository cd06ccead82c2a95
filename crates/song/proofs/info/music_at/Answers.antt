-- The credit, where it stands.
use Rattle.format.proofs.Rules.{returning}
use Rattle.song.specs.Info.{music}
use Rattle.song.proofs.info.music_at.Goals as goal

pub returns-then-v-ge500 : goal.returns-then-v-ge500
unfolding music
returns-then-v-ge500 c =
    search returning

pub returns : goal.returns
unfolding music
returns c =
    search returning
