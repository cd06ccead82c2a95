-- One field after another.
use borrow.Author.Rules.{rules}
use Rattle.format.proofs.Rules.{stop_is}
use Rattle.beat.proofs.Filled.{near_arrived, notes_stop, notes_cut, notes_on_lem}
use Rattle.beat.proofs.beat_notes.Goals as goal

pub returns-in_err-mask : goal.returns-in_err-mask
returns-in_err-mask c =
    notes_stop _ _ c.in_err-mask.ensures (stop_is c.from_residual.ensures)

pub returns-in_default : goal.returns-in_default
returns-in_default c =
    let g = c.in_ok-mask.ensures in search notes_cut

pub tail_at-end-requires : goal.tail_at-end-requires
tail_at-end-requires c =
    search (near_arrived, rules)

pub returns : goal.returns
returns c =
    let g = c.in_ok-mask.ensures in search notes_on_lem
