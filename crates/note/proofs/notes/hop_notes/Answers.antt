-- Note after note.
use native.Mathlib.Omega.{arith}
use mathlib.Core.Path.{sym, ◌∙◌}
use Rattle.note.proofs.Hop.{hops_not, hopping_starts, hopping_within, hopping_ends, hopping_not, hopping_on}
use Rattle.note.proofs.notes.hop_notes.Goals as goal

pub returns-then-s-from : goal.returns-then-s-from
returns-then-s-from c =
    hops_not (omega arith)

pub returns-then-s-from-lt-SEVEN_NOTES : goal.returns-then-s-from-lt-SEVEN_NOTES
returns-then-s-from-lt-SEVEN_NOTES c =
    hops_not (omega arith)

pub loop-init : goal.loop-init
loop-init c =
    hopping_starts _ _ _ _ (omega arith) (omega arith)

pub hop_note-requires : goal.hop_note-requires
hop_note-requires c =
    let h = hopping_within c.loop.invariant c.loop-test.true in (omega (arith, h, c.well_formed.0.1), omega (arith, h))

pub returns-in_err-at : goal.returns-in_err-at
returns-in_err-at c =
    rw c.from_residual.ensures (hopping_not c.loop.invariant c.loop-test.true (sym c.in_err-at.was ∙ c.hop_note.ensures))

pub loop-preserved : goal.loop-preserved
loop-preserved c =
    hopping_on c.loop.invariant c.loop-test.true (sym c.in_ok-at.was ∙ c.hop_note.ensures)

pub returns : goal.returns
returns c =
    hopping_ends c.loop.invariant (omega (arith, c.loop-test.false))
