-- By the version.
use borrow.Author.Rules.{rules}
use native.Mathlib.Omega.{arith}
use Rattle.format.specs.Prog.{has}
use Rattle.beat.proofs.Filled.{tail_none, tail_some}
use Rattle.beat.proofs.tail.tail_of.Goals as goal

pub returns-then-v-lt500 : goal.returns-then-v-lt500
unfolding has
returns-then-v-lt500 c =
    record { reads = search tail_none; near = omega arith }

pub returns : goal.returns
unfolding has
returns c =
    record { reads = search (tail_some, rules); near = omega (arith, c.pass_if.ensures.near) }
