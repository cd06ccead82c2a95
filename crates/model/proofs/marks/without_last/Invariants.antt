use mathlib.Core.Path.{◌≡◌}
use Rattle.model.specs.Marks.{shifted}
use Rattle.model.proofs.marks.without_last.Given as goal

abbrev pub invariant-loop-left : goal.invariant-loop-left
invariant-loop-left l = shifted l.left l.d ≡ shifted l.n l.digits

abbrev pub decreases-loop-left : goal.decreases-loop-left
decreases-loop-left l = l.left
