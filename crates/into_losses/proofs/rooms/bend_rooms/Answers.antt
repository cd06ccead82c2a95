-- String by string.
use mathlib.Core.Path.{sym, ◌∙◌}
use Rattle.note.specs.Words.{byte_in}
use Rattle.note.proofs.Over.{over_taken, over_none}
use Rattle.beat.specs.Words.{STRINGS}
use Rattle.into_losses.proofs.Sums.{byte_below, strings_rooms}
use Rattle.into_losses.proofs.rooms.bend_rooms.Goals as goal

pub loop-string-init : goal.loop-string-init
loop-string-init c =
    λ s. rw (c.into_iter-string-iterator.ensures.into_iter_gives, c.of-string-items.ensures, c.strings.ensures)

pub loop-string-preserved : goal.loop-string-preserved
loop-string-preserved c =
    let l = c.loop-string in
    λ s. rw (c.plus-rooms.ensures, c.bend_room.ensures s, c.bend.ensures)
    (l.invariant s ∙ over_taken _ _ l.string-iterator.small c.in-Some.ensures.steps)

pub returns : goal.returns
returns c =
    λ s v. let a = c.args in
    let l = c.loop-string in
    sym (sym (strings_rooms s v (byte_in a.b.now STRINGS) a.notes.now (byte_below a.b.now STRINGS)) ∙ l.invariant s ∙ rw c.in-None.ensures.steps (over_none _ _))
