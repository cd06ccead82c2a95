-- A track is read, then added.
use mathlib.Core.Path.{refl}
use Rattle.format.proofs.Rules.{then, took, place_exit, fails}
use Rattle.words.proofs.Places.{done_as}
use Rattle.front.proofs.one_track.Goals as goal

pub returns-in_err-track : goal.returns-in_err-track
returns-in_err-track c =
    place_exit c.branch-track.ensures c.in_err-track.is c.from_residual.ensures (fails _ c.in_err-track.ensures)

pub returns : goal.returns
returns c =
    then _ (took c.in_ok-track.ensures refl) (done_as c.add_track.ensures)
