-- By the bits, in their order.
use borrow.Author.Tests.{eq-eqb, ne_eqb}
use Rattle.format.specs.Prog.{has}
use Rattle.beat.specs.Tail.{ottava_of}
use Rattle.beat.proofs.field.ottava_of.Goals as goal

pub returns-then-flags-ne0 : goal.returns-then-flags-ne0
unfolding ottava_of has
returns-then-flags-ne0 c =
    simp (ne_eqb _ 0 c.if-flags-ne0.true)

pub returns-then-flags-ne0-2 : goal.returns-then-flags-ne0-2
unfolding ottava_of has
returns-then-flags-ne0-2 c =
    simp (eq-eqb _ 0 c.if-flags-ne0.false, ne_eqb _ 0 c.if-flags-ne0-2.true)

pub returns-then-flags-ne0-3 : goal.returns-then-flags-ne0-3
unfolding ottava_of has
returns-then-flags-ne0-3 c =
    simp (eq-eqb _ 0 c.if-flags-ne0.false, eq-eqb _ 0 c.if-flags-ne0-2.false, ne_eqb _ 0 c.if-flags-ne0-3.true)

pub returns-then-flags-ne0-4 : goal.returns-then-flags-ne0-4
unfolding ottava_of has
returns-then-flags-ne0-4 c =
    simp (eq-eqb _ 0 c.if-flags-ne0.false, eq-eqb _ 0 c.if-flags-ne0-2.false, eq-eqb _ 0 c.if-flags-ne0-3.false, ne_eqb _ 0 c.if-flags-ne0-4.true)

pub returns : goal.returns
unfolding ottava_of has
returns c =
    simp (eq-eqb _ 0 c.if-flags-ne0.false, eq-eqb _ 0 c.if-flags-ne0-2.false, eq-eqb _ 0 c.if-flags-ne0-3.false, eq-eqb _ 0 c.if-flags-ne0-4.false)
