-- Any of the seven.
use mathlib.Core.Path.{refl}
use Rattle.beat.specs.Mix.{any_given}
use Rattle.beat.proofs.mix.any_given.Goals as goal

pub returns : goal.returns
unfolding any_given
returns c =
    refl
