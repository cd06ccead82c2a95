-- By the tests.
use native.Mathlib.Omega.{arith}
use borrow.Author.Tests.{ne_eqb, le-leb, lt-leb}
use Rattle.beat.specs.Head.{tuplet_of}
use Rattle.beat.proofs.field.tuplet_of.Goals as goal

pub returns-in-3 : goal.returns-in-3
unfolding tuplet_of
returns-in-3 c =
    rw c.in-3.is

pub returns-in-5-to-7 : goal.returns-in-5-to-7
unfolding tuplet_of
returns-in-5-to-7 c =
    let n = c.args.actual in simp (ne_eqb n 3 (omega arith), le-leb 5 n (omega arith), le-leb n 7 (omega arith))

pub returns-in-9-to-13 : goal.returns-in-9-to-13
unfolding tuplet_of
returns-in-9-to-13 c =
    let n = c.args.actual in simp (ne_eqb n 3 (omega arith), le-leb 5 n (omega arith), lt-leb n 7 (omega arith), le-leb 9 n (omega arith), le-leb n 13 (omega arith))

pub returns-in_default : goal.returns-in_default
unfolding tuplet_of
returns-in_default c =
    let n = c.args.actual in simp (ne_eqb n 3 c.in_default.in_default-own.rest.1, lt-leb 5 n (omega arith), lt-leb 9 n (omega arith))

pub returns-in_default-2 : goal.returns-in_default-2
unfolding tuplet_of
returns-in_default-2 c =
    let n = c.args.actual in simp (ne_eqb n 3 c.in_default.in_default-own.rest.1, le-leb 5 n (omega arith), lt-leb n 7 (omega arith), lt-leb 9 n (omega arith))

pub returns-in_default-3 : goal.returns-in_default-3
unfolding tuplet_of
returns-in_default-3 c =
    let n = c.args.actual in simp (ne_eqb n 3 c.in_default.in_default-own.rest.1, le-leb 5 n (omega arith), lt-leb n 7 (omega arith), le-leb 9 n (omega arith), lt-leb n 13 (omega arith))
