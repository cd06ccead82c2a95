-- One field after another.
use Rattle.format.proofs.Rules.{reading}
use Rattle.beat.specs.Mix.{mix_strings}
use Rattle.beat.proofs.mix.mix_strings_past.Goals as goal

pub returns-then-v-lt510 : goal.returns-then-v-lt510
unfolding mix_strings
returns-then-v-lt510 c =
    search reading

pub returns : goal.returns
unfolding mix_strings
returns c =
    search reading
