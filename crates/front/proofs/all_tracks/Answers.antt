-- Turn by turn.
use borrow.Author.Rules.{rules}
use native.Mathlib.Omega.{arith}
use Rattle.format.proofs.Rules.{turn_on, turns_done, turns_still}
use Rattle.front.proofs.all_tracks.Goals as goal

pub returns-in_default : goal.returns-in_default
returns-in_default c =
    turns_still (turn_on _ _ _ _ c.loop-number.invariant.2 c.loop-number-test.true c.one_track-at.ensures) c.in_default.is

pub loop-number-preserved : goal.loop-number-preserved
loop-number-preserved c =
    (search rules, search rules, turn_on _ _ _ _ c.loop-number.invariant.2 c.loop-number-test.true c.one_track-at.ensures)

pub returns : goal.returns
returns c =
    turns_done _ _ _ _ c.loop-number.invariant.2 (omega (arith, c.loop-number-test.false))
