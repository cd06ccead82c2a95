-- A count of beats, then the beats.
use mathlib.Core.Path.{refl}
use Rattle.format.proofs.Rules.{then, took, place_exit, fails}
use Rattle.score.specs.File.{voice}
use Rattle.walk.proofs.Walks.{same_page}
use Rattle.walk.proofs.one_voice.Goals as goal

pub returns-in_err-n-clause-voice : goal.returns-in_err-n-clause-voice
unfolding voice
returns-in_err-n-clause-voice g c =
    place_exit c.branch-n.ensures c.in_err-n.is c.from_residual.ensures (fails _ c.in_err-n.ensures)

pub returns-clause-voice : goal.returns-clause-voice
unfolding voice
returns-clause-voice g c =
    then _ (took c.in_ok-n.ensures refl) c.beats.ensures.beats
