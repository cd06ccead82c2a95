-- One field after another.
use Rattle.format.proofs.Rules.{reading}
use Rattle.beat.specs.Mix.{tempo_end, duration}
use Rattle.beat.proofs.mix.tempo_end.Goals as goal

pub returns : goal.returns
unfolding tempo_end duration
returns c =
    search reading
