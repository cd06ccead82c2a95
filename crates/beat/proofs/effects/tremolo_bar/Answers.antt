-- One field after another.
use Rattle.format.proofs.Rules.{reading}
use Rattle.beat.specs.Effects.{tremolo_bar}
use Rattle.beat.proofs.effects.tremolo_bar.Goals as goal

pub returns-then-more-ne0 : goal.returns-then-more-ne0
unfolding tremolo_bar
returns-then-more-ne0 c =
    search reading

pub returns : goal.returns
unfolding tremolo_bar
returns c =
    search reading
