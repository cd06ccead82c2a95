-- The states that headers and tracks are added to, of a reader's slices and values.
use Rattle.std.specs.Prelude.{ℕ, false, List, [], None}
use Rattle.model.specs.Answers.{no_lyrics}
use Rattle.song.specs.Info.{no_info}
use Rattle.header.specs.Header.{no_counts}
use Rattle.score.specs.declared.Before.{Before}
use Rattle.score.specs.File.{Opening}
use Rattle.score.specs.Page.{Heads, Staves}
use Rattle.words.specs.Words.{Words}

abbrev pub heads_of : List ℕ → Before → List ℕ → Heads Words
heads_of bars before losses = record { bars = bars; before = before; losses = losses }

abbrev pub staves_of : List ℕ → List ℕ → List ℕ → Staves Words
staves_of tracks parts losses = record { tracks = tracks; parts = parts; losses = losses }

-- a song of which only the directions are known
abbrev pub directing : List ℕ → Opening
directing numbers =
    record {
      version = 0;
      info = no_info;
      swing = false;
      lyrics = no_lyrics;
      tempo = None;
      programs = [];
      directions = numbers;
      counts = no_counts;
    }
