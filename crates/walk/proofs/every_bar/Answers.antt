-- Turn by turn.
use native.Mathlib.Omega.{arith}
use Rattle.format.proofs.Rules.{turn_on, turns_done, turns_still}
use Rattle.walk.proofs.Walks.{still_same}
use Rattle.walk.proofs.every_bar.Goals as goal

pub one_bar-at-requires : goal.one_bar-at-requires
one_bar-at-requires g c =
    omega (arith, c.loop-bar.invariant.0.words)

pub returns-in_default-clause-bars : goal.returns-in_default-clause-bars
returns-in_default-clause-bars g c =
    turns_still (turn_on _ _ _ _ c.loop-bar.invariant.1 c.loop-bar-test.true c.one_bar-at.ensures.bar) c.in_default.is

pub returns-in_default-clause-lent : goal.returns-in_default-clause-lent
returns-in_default-clause-lent g c =
    still_same c.loop-bar.invariant.0 c.one_bar-at.ensures.lent

pub loop-bar-preserved : goal.loop-bar-preserved
loop-bar-preserved g c =
    (still_same c.loop-bar.invariant.0 c.one_bar-at.ensures.lent, turn_on _ _ _ _ c.loop-bar.invariant.1 c.loop-bar-test.true c.one_bar-at.ensures.bar)

pub returns-clause-bars : goal.returns-clause-bars
returns-clause-bars g c =
    turns_done _ _ _ _ c.loop-bar.invariant.1 (omega (arith, c.loop-bar-test.false))
