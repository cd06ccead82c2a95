-- Both words are 0.
use mathlib.Core.Path.{refl}
use Rattle.model.specs.Marks.{added_in}
use Rattle.model.proofs.marks.none_added.Goals as goal

pub returns : goal.returns
unfolding added_in
returns c =
    refl
