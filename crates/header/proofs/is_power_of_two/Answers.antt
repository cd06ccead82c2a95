-- By definition.
use mathlib.Core.Path.{refl}
use Rattle.header.specs.Header.{power_of_two}
use Rattle.header.proofs.is_power_of_two.Goals as goal

pub returns : goal.returns
unfolding power_of_two
returns c =
    refl
