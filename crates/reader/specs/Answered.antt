-- The answer of a pass that filled the tables.
use Rattle.std.specs.Prelude.{ℕ, List, [], get_or}
use Rattle.model.specs.declared.Answer.{Answer}
use Rattle.model.specs.Answers.{read_answer, losses_of}
use Rattle.model.specs.Kinds.{tempo_of}
use Rattle.entries.specs.Words.{tempo_at}
use Rattle.score.specs.declared.Tally.{Tally}
use Rattle.score.specs.Reading as Reading
use Rattle.words.specs.Left.{needed_by, entries_by}
use Rattle.front.specs.declared.SongRead.{SongRead}
use Rattle.front.specs.Front.{song_of}

abbrev pub tables : (bars tracks rows members points texts : List ℕ) → Reading.Tables
tables bars tracks rows members points texts =
    record { bars = bars; tracks = tracks; rows = rows; members = members; points = points; texts = texts }

-- the tempo of bar 0 stands in the table
abbrev pub answered : SongRead → Tally → ℕ → List ℕ → Answer
answered song tally used bars =
    read_answer (Reading.song_of (song_of song []) (tempo_of (get_or bars tempo_at 0)) used)
    (entries_by song.counts tally) (needed_by song.counts tally) (losses_of tally.losses)
