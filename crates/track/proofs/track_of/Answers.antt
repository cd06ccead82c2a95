-- Each part by its function.
use Rattle.track.specs.Track.{track_of}
use Rattle.track.proofs.track_of.Goals as goal

pub returns : goal.returns
unfolding track_of
returns c =
    rw (c.program_of.ensures, c.clef_of.ensures, c.tablature_of.ensures, c.has-percussion.ensures)
