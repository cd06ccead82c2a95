-- One field after another.
use borrow.Author.Rules.{rules}
use Rattle.format.proofs.Rules.{fails, stop_is}
use Rattle.beat.specs.Head.{head}
use Rattle.beat.proofs.Filled.{near_byte, stores_stop, head_read}
use Rattle.beat.proofs.head.head_at.Goals as goal

pub returns-in_err-flags : goal.returns-in_err-flags
unfolding head
returns-in_err-flags c =
    stores_stop (fails _ c.in_err-flags.ensures) (stop_is c.from_residual.ensures)

pub head_end-requires : goal.head_end-requires
head_end-requires c =
    let g = c.in_ok-flags.ensures in search (near_byte, rules)

pub returns : goal.returns
returns c =
    let g = c.in_ok-flags.ensures in search head_read
