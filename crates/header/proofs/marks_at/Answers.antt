-- One field after another.
use Rattle.format.proofs.Rules.{read, read_exit, next, fails, ended}
use Rattle.header.specs.Header.{repeat_count, header_marks}
use Rattle.header.proofs.marks_at.Goals as goal

pub returns-in_err-times : goal.returns-in_err-times
unfolding repeat_count header_marks
returns-in_err-times c =
    read_exit c.branch-times.ensures c.in_err-times.is c.from_residual.ensures (fails _ c.in_err-times.ensures)

pub returns-in_err-ending : goal.returns-in_err-ending
unfolding repeat_count header_marks
returns-in_err-ending c =
    read_exit c.branch-ending.ensures c.in_err-ending.is c.from_residual-in_err-ending.ensures (next _ c.in_ok-times.ensures (fails _ c.in_err-ending.ensures))

pub returns-in_err-marker : goal.returns-in_err-marker
unfolding repeat_count header_marks
returns-in_err-marker c =
    read_exit c.branch-marker.ensures c.in_err-marker.is c.from_residual-in_err-marker.ensures (next _ c.in_ok-times.ensures (next _ c.in_ok-ending.ensures (fails _ c.in_err-marker.ensures)))

pub returns-in_err-key : goal.returns-in_err-key
unfolding repeat_count header_marks
returns-in_err-key c =
    read_exit c.branch-key.ensures c.in_err-key.is c.from_residual-in_err-key.ensures (next _ c.in_ok-times.ensures (next _ c.in_ok-ending.ensures (next _ c.in_ok-marker.ensures (fails _ c.in_err-key.ensures))))

pub returns : goal.returns
unfolding repeat_count header_marks
returns c =
    read (next _ c.in_ok-times.ensures (next _ c.in_ok-ending.ensures (next _ c.in_ok-marker.ensures (next _ c.in_ok-key.ensures ended))))
