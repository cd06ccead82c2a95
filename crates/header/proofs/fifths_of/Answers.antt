-- By the tests.
use borrow.Author.Rules.{sfits_of}
use native.Mathlib.Omega.{arith}
use mir.Syntax.{w8}
use mir.Facts.{to_z-of_z}
use mir.ValLaws.{to_z_pos}
use borrow.Author.Tests.{le-leb, lt-leb, lt-ltb, le-ltb}
use Rattle.bin.specs.Signed.{signed}
use Rattle.header.specs.Header.{fifths_of}
use Rattle.header.proofs.fifths_of.Goals as goal

pub returns-then-b-le7 : goal.returns-then-b-le7
unfolding fifths_of signed
returns-then-b-le7 c =
    rw (to_z_pos w8 c.args.b (omega arith)) (simp (lt-ltb c.args.b 128 (omega arith), le-leb _ _ c.if-b-le7.true))

pub returns-then-b-lt128 : goal.returns-then-b-lt128
unfolding fifths_of signed
returns-then-b-lt128 c =
    simp (lt-ltb _ _ c.if-b-lt128.true, lt-leb _ _ c.if-b-le7.false)

pub returns-then-b-lt249 : goal.returns-then-b-lt249
unfolding fifths_of signed
returns-then-b-lt249 c =
    simp (le-ltb _ _ c.if-b-lt128.false, lt-leb _ _ c.if-b-lt249.true)

pub returns : goal.returns
unfolding fifths_of signed
returns c =
    rw (to_z-of_z (sfits_of {w = w8} c.to_i8.type_inv), c.to_i8.ensures) (simp (le-ltb _ _ c.if-b-lt128.false, le-leb _ _ c.if-b-lt249.false))
