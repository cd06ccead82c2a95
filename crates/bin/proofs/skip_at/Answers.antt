-- n bytes are passed over, where there are as many.
use native.Mathlib.Omega.{arith}
use Rattle.format.proofs.Rules.{returning}
use Rattle.format.proofs.Leaves.{skip_goes, skip_ends}
use Rattle.bin.proofs.skip_at.Goals as goal

pub returns-then-s-at : goal.returns-then-s-at
returns-then-s-at c =
    skip_ends c.in_ok-at.was _ (omega arith)

pub returns-then-s-at-2 : goal.returns-then-s-at-2
returns-then-s-at-2 c =
    skip_ends c.in_ok-at.was _ (omega arith)

pub returns : goal.returns
returns c =
    skip_goes c.in_ok-at.was _ (omega arith)
