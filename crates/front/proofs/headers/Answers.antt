-- Turn by turn.
use borrow.Author.Rules.{rules}
use native.Mathlib.Omega.{arith}
use Rattle.format.proofs.Rules.{turn_on, turns_done, turns_still}
use Rattle.front.proofs.headers.Goals as goal

pub returns-in_default : goal.returns-in_default
returns-in_default c =
    turns_still (turn_on _ _ _ _ c.loop-bar.invariant.1 c.loop-bar-test.true c.one_header-at.ensures) c.in_default.is

pub loop-bar-preserved : goal.loop-bar-preserved
loop-bar-preserved c =
    (search rules, turn_on _ _ _ _ c.loop-bar.invariant.1 c.loop-bar-test.true c.one_header-at.ensures)

pub returns : goal.returns
returns c =
    turns_done _ _ _ _ c.loop-bar.invariant.1 (omega (arith, c.loop-bar-test.false))
