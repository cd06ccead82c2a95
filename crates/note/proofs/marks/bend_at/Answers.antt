-- A bend is stored, or none.
use borrow.Author.Rules.{rules}
use Rattle.format.proofs.Rules.{stop_is}
use Rattle.note.proofs.Filled.{bend_none, bend_some, bend_stop}
use Rattle.note.proofs.marks.bend_at.Goals as goal

pub returns-then-first-eq0 : goal.returns-then-first-eq0
returns-then-first-eq0 c =
    search bend_none

pub returns-in_err-bend : goal.returns-in_err-bend
returns-in_err-bend c =
    bend_stop _ _ c.if-first-eq0.false c.reached-from.ensures c.in_err-bend.ensures (stop_is c.from_residual.ensures)

pub returns : goal.returns
returns c =
    let g = c.in_ok-bend.ensures in search (bend_some, rules)
