-- One part after another.
use Rattle.format.proofs.Rules.{read, read_exit, next, fails, ended}
use Rattle.header.specs.Header.{header}
use Rattle.header.proofs.header_at.Goals as goal

pub returns-in_err-flags : goal.returns-in_err-flags
unfolding header
returns-in_err-flags c =
    read_exit c.branch-flags.ensures c.in_err-flags.is c.from_residual.ensures (fails _ c.in_err-flags.ensures)

pub returns-in_err-time : goal.returns-in_err-time
unfolding header
returns-in_err-time c =
    read_exit c.branch-time.ensures c.in_err-time.is c.from_residual-in_err-time.ensures (next _ c.in_ok-flags.ensures (fails _ c.in_err-time.ensures))

pub returns-in_err-marks : goal.returns-in_err-marks
unfolding header
returns-in_err-marks c =
    read_exit c.branch-marks.ensures c.in_err-marks.is c.from_residual-in_err-marks.ensures (next _ c.in_ok-flags.ensures (next _ c.in_ok-time.ensures (fails _ c.in_err-marks.ensures)))

pub returns-in_err-tail : goal.returns-in_err-tail
unfolding header
returns-in_err-tail c =
    read_exit c.branch-tail.ensures c.in_err-tail.is c.from_residual-in_err-tail.ensures (next _ c.in_ok-flags.ensures (next _ c.in_ok-time.ensures (next _ c.in_ok-marks.ensures (fails _ c.in_err-tail.ensures))))

pub returns : goal.returns
unfolding header
returns c =
    rw c.header_of.ensures (read (next _ c.in_ok-flags.ensures (next _ c.in_ok-time.ensures (next _ c.in_ok-marks.ensures (next _ c.in_ok-tail.ensures ended)))))
