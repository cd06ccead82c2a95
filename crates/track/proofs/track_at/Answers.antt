-- One part after another.
use Rattle.format.proofs.Rules.{read, read_exit, next, fails, ended}
use Rattle.track.specs.Track.{track}
use Rattle.track.proofs.track_at.Goals as goal

pub returns-in_err-flags : goal.returns-in_err-flags
unfolding track
returns-in_err-flags c =
    read_exit c.branch-flags.ensures c.in_err-flags.is c.from_residual.ensures (fails _ c.in_err-flags.ensures)

pub returns-in_err-name : goal.returns-in_err-name
unfolding track
returns-in_err-name c =
    read_exit c.branch-name.ensures c.in_err-name.is c.from_residual-in_err-name.ensures (next _ c.in_ok-flags.ensures (fails _ c.in_err-name.ensures))

pub returns-in_err-strings : goal.returns-in_err-strings
unfolding track
returns-in_err-strings c =
    read_exit c.branch-strings.ensures c.in_err-strings.is c.from_residual-in_err-strings.ensures (next _ c.in_ok-flags.ensures (next _ c.in_ok-name.ensures (fails _ c.in_err-strings.ensures.reads)))

pub returns-in_err-sound : goal.returns-in_err-sound
unfolding track
returns-in_err-sound c =
    read_exit c.branch-sound.ensures c.in_err-sound.is c.from_residual-in_err-sound.ensures (next _ c.in_ok-flags.ensures (next _ c.in_ok-name.ensures (next _ c.in_ok-strings.ensures.reads (fails _ c.in_err-sound.ensures.reads))))

pub returns-in_err-staff : goal.returns-in_err-staff
unfolding track
returns-in_err-staff c =
    read_exit c.branch-staff.ensures c.in_err-staff.is c.from_residual-in_err-staff.ensures (next _ c.in_ok-flags.ensures (next _ c.in_ok-name.ensures (next _ c.in_ok-strings.ensures.reads (next _ c.in_ok-sound.ensures.reads (fails _ c.in_err-staff.ensures)))))

pub track_of-requires : goal.track_of-requires
unfolding track
track_of-requires c =
    (c.in_ok-strings.ensures.count_bound, c.in_ok-sound.ensures.port_bound.0, c.in_ok-sound.ensures.port_bound.1)

pub returns : goal.returns
unfolding track
returns c =
    rw c.track_of.ensures (read (next _ c.in_ok-flags.ensures (next _ c.in_ok-name.ensures (next _ c.in_ok-strings.ensures.reads (next _ c.in_ok-sound.ensures.reads (next _ c.in_ok-staff.ensures ended))))))
