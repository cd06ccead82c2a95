use mathlib.Core.Path.{◌≡◌, refl}
use native.Mathlib.Omega.{arith}
use Rattle.model.proofs.Digits.{shift_next}
use Rattle.model.proofs.marks.without_last.Goals as goal

pub loop-left-init : goal.loop-left-init
loop-left-init c =
    refl

pub loop-left-preserved : goal.loop-left-preserved
loop-left-preserved c =
    rw (shift_next c.loop-left.left c.loop-left.d (omega arith)) at c.loop-left.invariant

pub returns : goal.returns
returns c =
    let e : c.loop-left.left ≡ 0 = omega arith in rw e at c.loop-left.invariant
