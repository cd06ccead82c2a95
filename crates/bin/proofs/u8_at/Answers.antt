-- A byte, where there is one.
use Rattle.format.proofs.Rules.{returning}
use Rattle.format.proofs.Leaves.{u8_goes, u8_ends}
use Rattle.bin.proofs.u8_at.Goals as goal

pub returns-in_err-at : goal.returns-in_err-at
returns-in_err-at c =
    search returning

pub returns-then-s-at : goal.returns-then-s-at
returns-then-s-at c =
    u8_ends c.in_ok-at.was c.if-s-at.true

pub returns : goal.returns
returns c =
    u8_goes c.in_ok-at.was c.if-s-at.false
