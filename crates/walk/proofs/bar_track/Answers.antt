-- A number of voices, then the voices.
use mathlib.Core.Path.{refl}
use Rattle.format.proofs.Rules.{then, took, place_exit, fails}
use Rattle.score.specs.File.{bar_track}
use Rattle.walk.proofs.bar_track.Goals as goal

pub returns-in_err-n-clause-voices : goal.returns-in_err-n-clause-voices
unfolding bar_track
returns-in_err-n-clause-voices g c =
    place_exit c.branch-n.ensures c.in_err-n.is c.from_residual.ensures (fails _ c.in_err-n.ensures)

pub returns-clause-voices : goal.returns-clause-voices
unfolding bar_track
returns-clause-voices g c =
    then _ (took c.in_ok-n.ensures refl) c.voices.ensures.voices
