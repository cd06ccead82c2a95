-- Sign by sign.
use native.Mathlib.Omega.{arith}
use mathlib.Core.Path.{◌≡◌, ap}
use lib.Dec.{ltb}
use lib.ListN.{drop_of_length-le}
use Rattle.score.specs.Bars.{kept_signs, signs_at, several}
use Rattle.into_bars.proofs.Signs.{none, kept, number_small, numbers_left, signs_next}
use Rattle.into_bars.proofs.several.Goals as goal
use Rattle.into_bars.proofs.several.Goals.{then-stands_at, else-stands_at}

pub stands_at-requires : goal.stands_at-requires
stands_at-requires c =
    number_small kept c.loop-n.n-index none (omega arith) c.loop-n.invariant.0

pub loop-n-preserved : goal.loop-n-preserved
loop-n-preserved c =
    let l = c.loop-n in
    let next = signs_next kept l.n-index none (omega arith) c.args.numbers c.args.bar in
    let left = numbers_left kept l.n-index none (omega arith) l.invariant.0 in
    elim c.if-stands_at.branch [
      | then-stands_at w ↦
          let one = rw (← c.stands_at.ensures, w.if-stands_at.true) at next in
          (left, omega (arith, w.signs-is), omega (arith, w.signs-is, one, l.invariant.2))
      | else-stands_at w ↦
          let no = rw (← c.stands_at.ensures, w.if-stands_at.false) at next in
          (left, omega (arith, w.signs-is), omega (arith, w.signs-is, no, l.invariant.2))
    ]

pub returns : goal.returns
unfolding several
returns c =
    let l = c.loop-n in
    let end = drop_of_length-le kept {i = l.n-index} (omega arith) in
    let all : l.signs ≡ signs_at c.args.numbers c.args.bar kept_signs = omega (arith, rw end at l.invariant.2) in
    ap (ltb 1) all
