-- Test by test.
use mathlib.Core.Path.{refl}
use Rattle.format.specs.Prog.{has}
use Rattle.note.specs.Marks.{slide_flag}
use Rattle.note.proofs.field.slide_flag.Goals as goal

pub returns : goal.returns
unfolding slide_flag has
returns c =
    refl
