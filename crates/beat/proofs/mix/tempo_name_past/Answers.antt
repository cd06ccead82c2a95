-- One field after another.
use Rattle.format.proofs.Rules.{reading}
use Rattle.beat.specs.Mix.{tempo_name}
use Rattle.beat.proofs.mix.tempo_name_past.Goals as goal

pub returns-then-v-ge500 : goal.returns-then-v-ge500
unfolding tempo_name
returns-then-v-ge500 c =
    search reading

pub returns : goal.returns
unfolding tempo_name
returns c =
    search reading
