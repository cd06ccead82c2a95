-- Field by field.
use Rattle.score.specs.Reading.{song_of}
use Rattle.reader.proofs.answer.song_of.Goals as goal

pub returns : goal.returns
unfolding song_of
returns c =
    rw c.tempo_of.ensures
