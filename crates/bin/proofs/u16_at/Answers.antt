-- Two bytes, where there are two.
use native.Mathlib.Omega.{arith}
use Rattle.format.proofs.Rules.{returning}
use Rattle.format.proofs.Leaves.{u16_goes, u16_ends}
use Rattle.bin.proofs.u16_at.Goals as goal

pub returns-in_err-at : goal.returns-in_err-at
returns-in_err-at c =
    search returning

pub returns-then-left-lt2 : goal.returns-then-left-lt2
returns-then-left-lt2 c =
    u16_ends c.in_ok-at.was (omega arith)

pub returns : goal.returns
returns c =
    u16_goes c.in_ok-at.was (omega arith) c.little16.ensures
