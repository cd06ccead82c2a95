-- What reading a file into lent tables answers, and what it leaves in them.
use Rattle.std.specs.Prelude.{ℕ, ◌/◌, Bool, ◌&&◌, List, leb, get_or, length, Option}
use Rattle.bin.specs.Signed.{signed}
use Rattle.format.specs.Text.{pick}
use Rattle.format.specs.Verdict.{Verdict, whole, truncated, too_long, bad_version, bad_count, empty, verdict}
use Rattle.tables.specs.Table.{over, words}
use Rattle.model.specs.declared.Answer.{Answer}
use Rattle.model.specs.declared.Outcome.TheVariants as O
use Rattle.model.specs.declared.Sizes.{Sizes}
use Rattle.model.specs.declared.Song.{Song}
use Rattle.model.specs.declared.Text.{Text}
use Rattle.model.specs.Answers.{read_answer, refusal, no_room_answer, losses_of}
use Rattle.entries.specs.Words.{bar_stride, bar_words, track_stride, track_words, row_stride, row_words, member_stride, member_words, point_stride, point_words, text_stride, text_words}
use Rattle.score.specs.File as F
use Rattle.score.specs.File.{Whole}
use Rattle.score.specs.Bars.{no_bar}
use Rattle.score.specs.Page.{TextIs, Staves, Walk}
use Rattle.score.specs.Score.{Lists, first_tempo, scored}

-- the words of the six lent tables
pub record Tables : Type 0 where
  pub bars : List ℕ
  pub tracks : List ℕ
  pub rows : List ℕ
  pub members : List ℕ
  pub points : List ℕ
  pub texts : List ℕ

pub record Result : Type 0 where
  pub answer : Answer
  pub tables : Tables

-- a file that was read to its end
abbrev pub Score : Type 0
Score = Whole (Staves Lists) (Walk Lists)

-- the song's tempo is that of bar 0 if it has one, else the file's
unfoldable pub song_of : F.Opening → Option ℕ → ℕ → Song
song_of g first used =
    record {
      used = used;
      version = g.version;
      title = g.info.title;
      subtitle = g.info.subtitle;
      composer = g.info.composer;
      lyricist = g.info.lyricist;
      copyright = g.info.copyright;
      lyrics = g.lyrics;
      tempo = first_tempo first g.tempo;
    }

-- ---- rooms needed: bars, tracks, rows and members exactly; points over every note read with a non-empty bend, its points plus 2; texts
-- the non-empty texts of kept beats, repeats included
abbrev pub needed : Score → Sizes
needed x =
    record {
      bars = length x.bars.bars;
      tracks = length x.tracks.tracks;
      rows = length x.bars.rows;
      members = length x.bars.members;
      points = x.bars.tally.point_room;
      texts = x.bars.tally.text_room;
    }

-- entries kept
abbrev pub entries : Score → Sizes
entries x =
    record {
      bars = length x.bars.bars;
      tracks = length x.tracks.tracks;
      rows = length x.bars.rows;
      members = length x.bars.members;
      points = length x.bars.points;
      texts = length x.bars.texts;
    }

-- room is the number of whole entries
abbrev pub enough : Sizes → Tables → Bool
enough n t =
    leb n.bars (length t.bars / bar_stride) && leb n.tracks (length t.tracks / track_stride)
    && leb n.rows (length t.rows / row_stride) && leb n.members (length t.members / member_stride)
    && leb n.points (length t.points / point_stride) && leb n.texts (length t.texts / text_stride)

abbrev pub text_entry : TextIs → Text
text_entry t = record { bar = t.bar; track = t.track; range = t.text.range }

-- ---- the tables after a file was read: its entries from the start on, and what was there after them
unfoldable pub filled : Tables → Score → Tables
filled t x =
    record {
      bars = over t.bars (words bar_words x.bars.bars);
      tracks = over t.tracks (words track_words x.tracks.tracks);
      rows = over t.rows (words row_words x.bars.rows);
      members = over t.members (words member_words x.bars.members);
      points = over t.points (words point_words x.bars.points);
      texts = over t.texts (words (λ e. text_words (text_entry e)) x.bars.texts);
    }

abbrev pub file_answer : Score → ℕ → Answer
file_answer x used =
    read_answer (song_of x.song (get_or x.bars.bars 0 no_bar).tempo used) (entries x) (needed x) (losses_of x.bars.tally.losses)

-- a refusal changes no table; "no room" is given only for a file that would otherwise be read
abbrev pub refused : Answer → Tables → Result
refused a t = record { answer = a; tables = t }

abbrev pub result_of : Tables → Verdict Score → Result
result_of t (whole x used) = pick (enough (needed x) t) (record { answer = file_answer x used; tables = filled t x }) (refused (no_room_answer (needed x)) t)
result_of t truncated = refused (refusal O.Truncated) t
result_of t too_long = refused (refusal O.TooLong) t
result_of t bad_version = refused (refusal O.Version) t
result_of t (bad_count which value offset) = refused (refusal (O.Count which (signed 2147483648 value) offset)) t
result_of t empty = refused (refusal O.Empty) t

unfoldable pub reading : List ℕ → Tables → Result
reading s t = result_of t (verdict scored s)
