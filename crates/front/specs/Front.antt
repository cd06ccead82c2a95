-- What stands before the beats: the song, the headers and the tracks.
use Rattle.std.specs.Prelude.{ℕ, List, []}
use Rattle.model.specs.declared.Time.{Time}
use Rattle.format.specs.Prog.{Prog, ret, bind}
use Rattle.header.specs.Header.{header}
use Rattle.track.specs.Track.{track}
use Rattle.score.specs.declared.Before.{Before}
use Rattle.score.specs.File.{Opening, Timed}
use Rattle.score.specs.Page.{Heads, Staves, add_header, add_track}
use Rattle.front.specs.declared.SongRead.{SongRead}
use Rattle.words.specs.Words.{Words, words}
use Rattle.words.specs.Heads.{heads_of, directing}

-- the channel table stands beside what was read
abbrev pub song_of : SongRead → List (List ℕ) → Opening
song_of r programs =
    record {
      version = r.version;
      info = r.info;
      swing = r.swing;
      lyrics = r.lyrics;
      tempo = r.tempo;
      programs = programs;
      directions = r.directions;
      counts = r.counts;
    }

abbrev pub timed_of : Time → List ℕ → Before → List ℕ → Timed (Heads Words)
timed_of time bars before losses = record { time = time; state = heads_of bars before losses }

abbrev pub header_step : (v : ℕ) (numbers : List ℕ) → ℕ → Timed (Heads Words) → Prog (Timed (Heads Words))
header_step v numbers b w =
    bind (header v w.time) (λ h. ret (record { time = h.time; state = add_header (words []) (directing numbers) b w.time h w.state }))

abbrev pub track_step : (v : ℕ) (programs : List (List ℕ)) → ℕ → Staves Words → Prog (Staves Words)
track_step v programs t u = bind (track v programs) (λ x. ret (add_track (words []) t x u))
