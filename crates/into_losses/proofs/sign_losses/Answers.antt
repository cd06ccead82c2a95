-- One sign after another.
use native.Mathlib.Omega.{arith}
use mathlib.Core.Path.{sym, ◌∙◌}
use Rattle.model.specs.declared.Loss.TheVariants.{UnsupportedDirection}
use Rattle.score.specs.Bars.{other_signs}
use Rattle.into_losses.proofs.Counting.{number_small, numbers_left, signs_next, signs_end}
use Rattle.into_losses.proofs.sign_losses.Goals as goal

pub bounds-directions-n : goal.bounds-directions-n
bounds-directions-n c =
    number_small other_signs c.loop-n.n-index (omega arith) c.loop-n.invariant.0

pub loop-n-preserved : goal.loop-n-preserved
loop-n-preserved c =
    let l = c.loop-n in (
      numbers_left other_signs l.n-index (omega arith) l.invariant.0,
      rw c.lose_if.ensures
          (sym (signs_next other_signs l.n-index (omega arith) c.args.directions l.losses UnsupportedDirection) ∙ l.invariant.1),
    )

pub returns : goal.returns
returns c =
    let l = c.loop-n in
    sym (signs_end other_signs l.n-index c.args.directions l.losses UnsupportedDirection (omega arith)) ∙ l.invariant.1
