-- By definition.
use mathlib.Core.Path.{refl}
use Rattle.format.specs.Prog.{has}
use Rattle.header.proofs.has.Goals as goal

pub returns : goal.returns
unfolding has
returns c =
    refl
