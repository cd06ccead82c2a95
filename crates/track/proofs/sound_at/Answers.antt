-- One field after another.
use native.Mathlib.Omega.{arith}
use Rattle.std.proofs.lemmas.Result.{IfOk-from_err}
use Rattle.format.proofs.Rules.{returning, coming, read_exit, next, later}
use Rattle.track.specs.Track.{sound, numbered}
use Rattle.track.proofs.sound_at.Goals as goal

pub returns-in_err-port : goal.returns-in_err-port
unfolding sound
returns-in_err-port c =
    record { reads = search returning depth 10 fits 8000; port_bound = IfOk-from_err _ _ c.from_residual.ensures.0 }

pub returns-in_err-channel : goal.returns-in_err-channel
unfolding sound
returns-in_err-channel c =
    record { reads = search returning depth 10 fits 8000; port_bound = IfOk-from_err _ _ c.from_residual-in_err-channel.ensures.0 }

pub returns-in_err-capo : goal.returns-in_err-capo
unfolding sound
returns-in_err-capo c =
    record { reads = search returning depth 10 fits 8000; port_bound = IfOk-from_err _ _ c.from_residual-in_err-capo.ensures.0 }

pub returns-in_err-at : goal.returns-in_err-at
unfolding sound
returns-in_err-at c =
    record { reads = read_exit c.branch-at.ensures c.in_err-at.is c.from_residual-in_err-at.ensures (next _ c.in_ok-port.ensures (next _ c.in_ok-channel.ensures (later _ c.skip_at.ensures (next _ c.in_ok-capo.ensures (search coming))))); port_bound = IfOk-from_err _ _ c.from_residual-in_err-at.ensures.0 }

pub returns : goal.returns
unfolding sound numbered
returns c =
    record { reads = rw (c.capo_of.ensures, c.numbered-2.ensures, c.numbered.ensures) (search returning depth 10 fits 8000); port_bound = (omega (arith, c.numbered.ensures), omega (arith, c.numbered-2.ensures)) }
