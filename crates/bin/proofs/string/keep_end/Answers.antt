-- Without the blanks at its end the text is as long as it was.
use borrow.Author.Rules.{rules}
use native.Mathlib.Omega.{arith}
use Rattle.format.proofs.Text.{keep_found, keep_on, keep_out}
use Rattle.format.proofs.Rules.{said}
use Rattle.bin.proofs.string.keep_end.Goals as goal

pub returns-then-not-is_blank : goal.returns-then-not-is_blank
returns-then-not-is_blank c =
    (search rules, search rules, search (keep_found, said, arith))

pub loop-last-preserved : goal.loop-last-preserved
loop-last-preserved c =
    (search rules, search (keep_on, said, arith))

pub returns : goal.returns
returns c =
    let h = keep_out _ _ _ _ c.loop-last.invariant.1 (omega arith) c.loop-last-test.false in (search rules, search rules, omega (arith, h))
