-- By the test; there are at most eight trailing zeros.
use native.Mathlib.Omega.{arith}
use borrow.Author.Tests.{eq-eqb, ne_eqb}
use lib.Count.{trailing_le}
use Rattle.header.specs.Header.{ending_of}
use Rattle.header.proofs.ending_of.Goals as goal

pub returns-then-mask-eq0 : goal.returns-then-mask-eq0
unfolding ending_of
returns-then-mask-eq0 c =
    simp (eq-eqb _ _ c.if-mask-eq0.true)

pub overflow_cast-result : goal.overflow_cast-result
unfolding ending_of
overflow_cast-result c =
    record { fits = omega (arith, trailing_le 8 c.args.mask) }

pub overflow_add-result : goal.overflow_add-result
unfolding ending_of
overflow_add-result c =
    record { fits = omega (arith, trailing_le 8 c.args.mask) }

pub returns : goal.returns
unfolding ending_of
returns c =
    simp (ne_eqb _ _ c.if-mask-eq0.false)
