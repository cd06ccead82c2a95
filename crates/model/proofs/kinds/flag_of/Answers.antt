-- The kind that a word stands for; the last arm by what no other arm names.
use Rattle.model.specs.Kinds.{flag_of}
use mathlib.Core.Path.{refl}
use Rattle.model.proofs.kinds.flag_of.Goals as goal

pub returns : goal.returns
unfolding flag_of
returns c =
    refl
