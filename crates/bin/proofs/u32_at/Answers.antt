-- Four bytes, where there are four.
use native.Mathlib.Omega.{arith}
use Rattle.format.proofs.Rules.{returning}
use Rattle.format.proofs.Leaves.{u32_goes, u32_ends}
use Rattle.bin.proofs.u32_at.Goals as goal

pub returns-in_err-at : goal.returns-in_err-at
returns-in_err-at c =
    search returning

pub returns-then-left-lt4 : goal.returns-then-left-lt4
returns-then-left-lt4 c =
    u32_ends c.in_ok-at.was (omega arith)

pub returns : goal.returns
returns c =
    u32_goes c.in_ok-at.was (omega arith) c.little32.ensures
