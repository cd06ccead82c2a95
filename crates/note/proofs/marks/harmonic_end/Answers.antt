-- By version and kind.
use native.Mathlib.Omega.{arith}
use Rattle.format.proofs.Padded.{padding}
use Rattle.note.specs.Marks.{harmonic_end}
use Rattle.note.proofs.marks.harmonic_end.Goals as goal

pub returns-then-v-lt500 : goal.returns-then-v-lt500
unfolding harmonic_end
returns-then-v-lt500 c =
    ((λ s. search padding), omega arith)

pub returns-then-kind-eq2 : goal.returns-then-kind-eq2
unfolding harmonic_end
returns-then-kind-eq2 c =
    ((λ s. search padding), omega arith)

pub returns-then-kind-eq3 : goal.returns-then-kind-eq3
unfolding harmonic_end
returns-then-kind-eq3 c =
    ((λ s. search padding), omega arith)

pub returns : goal.returns
unfolding harmonic_end
returns c =
    ((λ s. search padding), omega arith)
