-- String by string.
use borrow.Author.Rules.{rules}
use native.Mathlib.Omega.{arith}
use Rattle.note.proofs.Turns.{going_starts, going_ends, going_on, going_stops}
use Rattle.note.proofs.notes.read_notes.Goals as goal

pub loop-i-init : goal.loop-i-init
loop-i-init c =
    rw (c.into_iter-i-iterator.ensures.into_iter_gives, c.of-i-items.ensures) (going_starts _ _ _ _ _ c.if-s-from.false (search rules))

pub next_note-next-requires : goal.next_note-next-requires
next_note-next-requires c =
    (c.loop-i.invariant.within, omega (arith, c.start_of.ensures.1))

pub returns-in_default : goal.returns-in_default
returns-in_default c =
    let taken = c.in-Some.ensures.steps in
    going_stops c.loop-i.invariant taken.some (rw (c.start_of.ensures.0, taken.first) at c.next_note-next.ensures) c.in_default.is

pub loop-i-preserved : goal.loop-i-preserved
loop-i-preserved c =
    let taken = c.in-Some.ensures.steps in
    rw (taken.others, taken.first) (going_on c.loop-i.invariant taken.some (rw (c.start_of.ensures.0, taken.first) at c.next_note-next.ensures) c.in-Ok.is)

pub returns : goal.returns
returns c =
    going_ends c.loop-i.invariant c.in-None.ensures.steps
