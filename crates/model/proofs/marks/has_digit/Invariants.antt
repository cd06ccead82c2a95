use mathlib.Core.Path.{◌≡◌}
use Rattle.model.specs.Marks.{has_digit}
use Rattle.model.proofs.marks.has_digit.Given as goal

abbrev pub invariant-loop-n : goal.invariant-loop-n
invariant-loop-n l = has_digit l.digit l.n l.d ≡ has_digit l.digit l.count l.digits

abbrev pub decreases-loop-n : goal.decreases-loop-n
decreases-loop-n l = l.n
