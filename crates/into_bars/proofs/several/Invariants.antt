-- Sign by sign.
use Prim.Native.Nat.{◌+◌, ◌≤◌}
use mathlib.Core.Path.{◌≡◌}
use lib.ListN.{drop}
use Rattle.score.specs.Bars.{kept_signs, signs_at}
use Rattle.into_bars.proofs.Signs.{signs_of, Numbered}
use Rattle.into_bars.proofs.several.Given as goal

abbrev pub invariant-loop-n : goal.invariant-loop-n
invariant-loop-n l = Numbered (drop l.n-index l.n-items) × (l.signs ≤ l.n-index)
    × (l.signs + signs_at l.numbers l.bar (signs_of (drop l.n-index l.n-items)) ≡ signs_at l.numbers l.bar kept_signs)
