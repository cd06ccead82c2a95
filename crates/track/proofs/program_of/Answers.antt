-- By the test.
use Rattle.track.specs.Track.{channel_program}
use Rattle.track.proofs.program_of.Goals as goal

pub returns-then-percussion : goal.returns-then-percussion
unfolding channel_program
returns-then-percussion c =
    simp c.if-percussion.true

pub returns : goal.returns
unfolding channel_program
returns c =
    simp c.if-percussion.false
