-- By the two tests.
use borrow.Author.Tests.{lt-ltb, le-ltb}
use Rattle.beat.specs.Effects.{brush_of}
use Rattle.beat.proofs.field.brush_of.Goals as goal

pub returns-then-up-gt0 : goal.returns-then-up-gt0
unfolding brush_of
returns-then-up-gt0 c =
    simp (lt-ltb _ _ c.if-up-gt0.true)

pub returns-then-down-gt0 : goal.returns-then-down-gt0
unfolding brush_of
returns-then-down-gt0 c =
    simp (le-ltb _ _ c.if-up-gt0.false, lt-ltb _ _ c.if-down-gt0.true)

pub returns : goal.returns
unfolding brush_of
returns c =
    simp (le-ltb _ _ c.if-up-gt0.false, le-ltb _ _ c.if-down-gt0.false)
