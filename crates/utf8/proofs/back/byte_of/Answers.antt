-- What is left of the index gives the byte that all of it gives.
use mathlib.Core.Path.{refl}
use Rattle.utf8.specs.Characters.{index}
use Rattle.utf8.proofs.Front.{placed_here, placed_on, placed_nowhere, byte_low, byte_placed}
use borrow.Author.Rules.{rules}
use Rattle.utf8.proofs.back.byte_of.Goals as goal

pub returns-then-code-lt256 : goal.returns-then-code-lt256
unfolding index
returns-then-code-lt256 c =
    λ b h e. byte_low _ b c.if-code-lt256.true h e

pub loop-i-init : goal.loop-i-init
unfolding index
loop-i-init c =
    (search rules, refl)

pub returns-then-i-code : goal.returns-then-i-code
unfolding index
returns-then-i-code c =
    λ b h e. byte_placed _ _ b c.loop-i.invariant.0 (placed_here _ _ c.loop-i.invariant.1 c.loop-i-test.true c.if-i-code.true) h e

pub loop-i-preserved : goal.loop-i-preserved
unfolding index
loop-i-preserved c =
    (search rules, placed_on _ _ c.loop-i.invariant.1 c.loop-i-test.true c.if-i-code.false)

pub returns : goal.returns
unfolding index
returns c =
    λ b h e. byte_placed _ _ b c.loop-i.invariant.0 (placed_nowhere _ _ c.loop-i.invariant.1 c.loop-i-test.false) h e
