-- Sign by sign.
use native.Mathlib.Omega.{arith}
use mathlib.Core.Path.{sym, ◌∙◌}
use Rattle.score.specs.Bars.{direction_at}
use Rattle.into_bars.proofs.Signs.{none, kept, number_small, numbers_left, first_next}
use Rattle.into_bars.proofs.direction_at.Goals as goal

pub stands_at-requires : goal.stands_at-requires
stands_at-requires c =
    number_small kept c.loop-n.n-index none (omega arith) c.loop-n.invariant.0

pub returns-then-stands_at : goal.returns-then-stands_at
unfolding direction_at
returns-then-stands_at c =
    rw (← c.stands_at.ensures, c.if-stands_at.true) at
    (sym (first_next kept c.loop-n.n-index none (omega arith) c.args.numbers c.args.bar) ∙ c.loop-n.invariant.1)

pub loop-n-preserved : goal.loop-n-preserved
loop-n-preserved c = (
  numbers_left kept c.loop-n.n-index none (omega arith) c.loop-n.invariant.0,
  rw (← c.stands_at.ensures, c.if-stands_at.false) at
      (sym (first_next kept c.loop-n.n-index none (omega arith) c.args.numbers c.args.bar) ∙ c.loop-n.invariant.1),
)
