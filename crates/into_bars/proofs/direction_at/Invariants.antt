-- Sign by sign.
use mathlib.Core.Path.{◌≡◌}
use lib.ListN.{drop}
use Rattle.score.specs.Bars.{kept_signs, first_sign}
use Rattle.into_bars.proofs.Signs.{signs_of, Numbered}
use Rattle.into_bars.proofs.direction_at.Given as goal

abbrev pub invariant-loop-n : goal.invariant-loop-n
invariant-loop-n l = Numbered (drop l.n-index l.n-items)
    × (first_sign l.numbers l.bar (signs_of (drop l.n-index l.n-items)) ≡ first_sign l.numbers l.bar kept_signs)
