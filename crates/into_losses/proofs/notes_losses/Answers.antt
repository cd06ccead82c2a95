-- String by string.
use mathlib.Core.Path.{sym, ◌∙◌}
use Rattle.note.proofs.Over.{over_taken, over_none}
use Rattle.into_losses.proofs.Counting.{strings_losses}
use native.Mathlib.Omega.{arith}
use Rattle.into_losses.proofs.notes_losses.Goals as goal

pub loop-string-init : goal.loop-string-init
loop-string-init c =
    rw (c.into_iter-string-iterator.ensures.into_iter_gives, c.of-string-items.ensures)

pub loop-string-preserved : goal.loop-string-preserved
loop-string-preserved c =
    let l = c.loop-string in
    rw c.note_losses.ensures (l.invariant ∙ over_taken _ _ l.string-iterator.small c.in-Some.ensures.steps)

pub returns : goal.returns
returns c =
    λ s. let a = c.args in
    let l = c.loop-string in
    sym (sym (strings_losses s a.v a.strings a.notes.now a.losses.now (omega arith)) ∙ l.invariant ∙ rw c.in-None.ensures.steps (over_none _ _))
