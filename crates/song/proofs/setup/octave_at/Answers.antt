-- The field, where it stands.
use Rattle.format.proofs.Rules.{reading}
use Rattle.song.specs.Setup.{octave}
use Rattle.song.proofs.setup.octave_at.Goals as goal

pub returns-then-v-ge400 : goal.returns-then-v-ge400
unfolding octave
returns-then-v-ge400 c =
    search reading

pub returns : goal.returns
unfolding octave
returns c =
    search reading
