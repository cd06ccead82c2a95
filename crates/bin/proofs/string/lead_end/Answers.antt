-- What is left of the blanks is as long as it was from the start.
use borrow.Author.Rules.{rules}
use native.Mathlib.Omega.{arith}
use Rattle.format.proofs.Text.{lead_found, lead_on, lead_out}
use Rattle.format.proofs.Rules.{said}
use Rattle.bin.proofs.string.lead_end.Goals as goal

pub returns-then-not-is_blank : goal.returns-then-not-is_blank
returns-then-not-is_blank c =
    (search rules, search rules, search (lead_found, said, arith))

pub loop-i-preserved : goal.loop-i-preserved
loop-i-preserved c =
    search (lead_on, said, arith)

pub returns : goal.returns
returns c =
    let h = lead_out _ _ _ _ c.loop-i.invariant (omega arith) c.loop-i-test.false in (search rules, search rules, omega (arith, h))
