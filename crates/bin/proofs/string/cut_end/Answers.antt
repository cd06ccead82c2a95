-- What is left to the first zero is as long as it was from the start.
use borrow.Author.Rules.{rules}
use native.Mathlib.Omega.{arith}
use Rattle.format.proofs.Text.{cut_found, cut_on, cut_out}
use Rattle.bin.proofs.string.cut_end.Goals as goal

pub returns-then-s-i-eq0 : goal.returns-then-s-i-eq0
returns-then-s-i-eq0 c =
    (search rules, search rules, search (cut_found, arith))

pub loop-i-preserved : goal.loop-i-preserved
loop-i-preserved c =
    search (cut_on, arith)

pub returns : goal.returns
returns c =
    let h = cut_out _ _ _ _ c.loop-i.invariant (omega arith) c.loop-i-test.false in (search rules, search rules, omega (arith, h))
