-- A pass that only counts: of each beat the rows and members that it makes and the rooms that it needs. No table is changed, and
-- nothing is remembered of a track but what it is played on.
use Rattle.std.specs.Prelude.{ℕ, ◌+◌, ◌*◌, Bool, List, [], ◌∷◌, eqb, None, Option, Some}
use Rattle.format.specs.Text.{pick}
use Rattle.note.specs.Note.{NoteIs}
use Rattle.beat.specs.Beat.{BeatIs}
use Rattle.score.specs.declared.KeptCounts.{KeptCounts}
use Rattle.score.specs.declared.Tally.{Tally}
use Rattle.score.specs.File.{Adding}
use Rattle.score.specs.Sounding.{sounds_on}
use Rattle.score.specs.Page.{Walk, bend_rooms, has_text}
use Rattle.words.specs.Words.{Words, part_stride, board_from, word_plus}
use Rattle.note.specs.declared.marks.Grace.{Grace}

-- ---- how many notes sound

-- a note for itself, or for the grace before it
abbrev pub one_note : NoteIs → ℕ
one_note n = 1

abbrev pub one_grace : Option Grace → ℕ
one_grace None = 0
one_grace (Some g) = 1

abbrev pub grace_of : NoteIs → ℕ
grace_of n = one_grace n.read.effects.grace

-- over the notes from string i on that sound on a track of so many strings
abbrev pub heard : (NoteIs → ℕ) → (bits strings i : ℕ) → List NoteIs → ℕ
heard each bits strings i [] = 0
heard each bits strings i (n ∷ ns) =
    pick (sounds_on strings bits i) (each n) 0 + heard each bits strings (i + 1) ns

-- ---- what is counted of a beat

-- a row for the graces, if there are any, and one for the notes
abbrev pub graced : (graces : ℕ) → KeptCounts → KeptCounts
graced graces k =
    record {
      rows = pick (eqb graces 0) k.rows (word_plus k.rows 1);
      members = pick (eqb graces 0) k.members (word_plus k.members graces);
      points = k.points;
    }

abbrev pub kept_with : (notes graces : ℕ) → KeptCounts → KeptCounts
kept_with notes graces k =
    record {
      rows = word_plus (graced graces k).rows 1;
      members = word_plus (graced graces k).members notes;
      points = k.points;
    }

abbrev pub strings_on : (track : ℕ) → List ℕ → ℕ
strings_on track parts = (board_from (track * part_stride) parts).strings.count

abbrev pub kept_of : (strings : ℕ) → BeatIs → KeptCounts → KeptCounts
kept_of strings b k =
    pick b.head.kept
    (kept_with (heard one_note b.strings strings 0 b.notes) (heard grace_of b.strings strings 0 b.notes) k)
    k

unfoldable pub count_tally : (strings : ℕ) → BeatIs → Tally → Tally
count_tally strings b tally =
    record {
      kept = kept_of strings b tally.kept;
      texts = tally.texts;
      text_room = pick (has_text b) (word_plus tally.text_room 1) tally.text_room;
      point_room = word_plus tally.point_room (bend_rooms b.strings 0 b.notes);
      flat = tally.flat;
      losses = tally.losses;
    }

unfoldable pub count_beat : (track : ℕ) → BeatIs → Walk Words → Walk Words
count_beat track b w =
    record {
      bars = w.bars;
      rows = w.rows;
      members = w.members;
      points = w.points;
      texts = w.texts;
      parts = w.parts;
      tally = count_tally (strings_on track w.parts) b w.tally;
    }

-- ---- a whole file, each beat counted or added
abbrev pub passing : {H T : Type 0} → (counting : Bool) → Adding H T (Walk Words) → Adding H T (Walk Words)
passing counting add =
    record {
      headers = add.headers;
      add_header = add.add_header;
      tracks = add.tracks;
      add_track = add.add_track;
      bars = add.bars;
      enter_bar = add.enter_bar;
      add_beat = λ bar track voice b w. pick counting (count_beat track b w) (add.add_beat bar track voice b w);
    }
