-- The byte, and its sign alone goes on.
use Rattle.format.specs.Sign.{not_negative}
use Rattle.format.proofs.Rules.{read, read_exit, next, fails, ended}
use Rattle.format.proofs.Leaves.{sign_comes}
use Rattle.beat.proofs.mix.sign_at.Goals as goal

pub returns-in_err-b : goal.returns-in_err-b
returns-in_err-b c =
    read_exit c.branch-b.ensures c.in_err-b.is c.from_residual.ensures (sign_comes (fails _ c.in_err-b.ensures))

pub returns : goal.returns
unfolding not_negative
returns c =
    read (sign_comes (next _ c.in_ok-b.ensures ended))
