-- Part by part.
use mathlib.Core.Path.{◌∙◌}
use Rattle.reader.proofs.answer.answer_of.Goals as goal

pub returns : goal.returns
returns c =
    c.read_answer.ensures ∙ rw (c.rooms_of.ensures, c.entries_of.ensures, c.losses_of-losses.ensures, c.song_of-song.ensures, c.tempo_of-first.ensures, c.load.ensures)
