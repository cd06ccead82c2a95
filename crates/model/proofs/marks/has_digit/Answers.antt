use mathlib.Core.Path.{◌≡◌, refl}
use native.Mathlib.Omega.{arith}
use borrow.Author.Tests.{eq-eqb, ne_eqb}
use Rattle.model.proofs.Digits.{has_next}
use Rattle.model.proofs.marks.has_digit.Goals as goal

pub loop-n-init : goal.loop-n-init
loop-n-init c =
    refl

pub returns-then-d-digit : goal.returns-then-d-digit
returns-then-d-digit c =
    rw (has_next c.args.digit c.loop-n.n c.loop-n.d (omega arith), eq-eqb _ _ c.if-d-digit.true) at c.loop-n.invariant

pub loop-n-preserved : goal.loop-n-preserved
loop-n-preserved c =
    rw (has_next c.args.digit c.loop-n.n c.loop-n.d (omega arith), ne_eqb _ _ c.if-d-digit.false) at c.loop-n.invariant

pub returns : goal.returns
returns c =
    let e : c.loop-n.n ≡ 0 = omega arith in rw e at c.loop-n.invariant
