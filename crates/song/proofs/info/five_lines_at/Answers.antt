-- One line after another.
use Rattle.format.proofs.Rules.{read, read_exit, next, fails, ended}
use Rattle.song.specs.Info.{five_lines}
use Rattle.song.proofs.info.five_lines_at.Goals as goal

pub returns-in_err-a : goal.returns-in_err-a
unfolding five_lines
returns-in_err-a c =
    read_exit c.branch-a.ensures c.in_err-a.is c.from_residual.ensures (fails _ c.in_err-a.ensures)

pub returns-in_err-b : goal.returns-in_err-b
unfolding five_lines
returns-in_err-b c =
    read_exit c.branch-b.ensures c.in_err-b.is c.from_residual-in_err-b.ensures (next _ c.in_ok-a.ensures (fails _ c.in_err-b.ensures))

pub returns-in_err-c : goal.returns-in_err-c
unfolding five_lines
returns-in_err-c c =
    read_exit c.branch-c.ensures c.in_err-c.is c.from_residual-in_err-c.ensures (next _ c.in_ok-a.ensures (next _ c.in_ok-b.ensures (fails _ c.in_err-c.ensures)))

pub returns-in_err-d : goal.returns-in_err-d
unfolding five_lines
returns-in_err-d c =
    read_exit c.branch-d.ensures c.in_err-d.is c.from_residual-in_err-d.ensures (next _ c.in_ok-a.ensures (next _ c.in_ok-b.ensures (next _ c.in_ok-c.ensures (fails _ c.in_err-d.ensures))))

pub returns-in_err-e : goal.returns-in_err-e
unfolding five_lines
returns-in_err-e c =
    read_exit c.branch-e.ensures c.in_err-e.is c.from_residual-in_err-e.ensures (next _ c.in_ok-a.ensures (next _ c.in_ok-b.ensures (next _ c.in_ok-c.ensures (next _ c.in_ok-d.ensures (fails _ c.in_err-e.ensures)))))

pub returns : goal.returns
unfolding five_lines
returns c =
    read (next _ c.in_ok-a.ensures (next _ c.in_ok-b.ensures (next _ c.in_ok-c.ensures (next _ c.in_ok-d.ensures (next _ c.in_ok-e.ensures ended)))))
