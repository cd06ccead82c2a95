-- One field after another.
use Rattle.format.proofs.Rules.{reading}
use Rattle.beat.specs.Mix.{three_durations, duration}
use Rattle.beat.proofs.mix.three_durations.Goals as goal

pub returns : goal.returns
unfolding three_durations duration
returns c =
    search reading
