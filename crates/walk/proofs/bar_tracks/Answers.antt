-- Turn by turn.
use native.Mathlib.Omega.{arith}
use Rattle.format.proofs.Rules.{turn_on, turns_done, turns_still}
use Rattle.walk.proofs.Walks.{still_same}
use Rattle.walk.proofs.bar_tracks.Goals as goal

pub bar_track-at-requires : goal.bar_track-at-requires
bar_track-at-requires g c =
    omega (arith, c.loop-track.invariant.0.words)

pub returns-in_default-clause-tracks : goal.returns-in_default-clause-tracks
returns-in_default-clause-tracks g c =
    turns_still (turn_on _ _ _ _ c.loop-track.invariant.1 c.loop-track-test.true c.bar_track-at.ensures.voices) c.in_default.is

pub returns-in_default-clause-lent : goal.returns-in_default-clause-lent
returns-in_default-clause-lent g c =
    still_same c.loop-track.invariant.0 c.bar_track-at.ensures.lent

pub loop-track-preserved : goal.loop-track-preserved
loop-track-preserved g c =
    (still_same c.loop-track.invariant.0 c.bar_track-at.ensures.lent, turn_on _ _ _ _ c.loop-track.invariant.1 c.loop-track-test.true c.bar_track-at.ensures.voices)

pub returns-clause-tracks : goal.returns-clause-tracks
returns-clause-tracks g c =
    turns_done _ _ _ _ c.loop-track.invariant.1 (omega (arith, c.loop-track-test.false))
