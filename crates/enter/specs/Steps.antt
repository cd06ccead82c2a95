-- A beat entered, in two parts: what its notes give, and the rest.
use Rattle.std.specs.Prelude.{ℕ, List, Bool}
use Rattle.model.specs.declared.RowPlace.{RowPlace}
use Rattle.beat.specs.Beat.{BeatIs}
use Rattle.score.specs.declared.Fretboard.{Fretboard}
use Rattle.score.specs.declared.KeptCounts.{KeptCounts}
use Rattle.score.specs.declared.Voice.{Voice}
use Rattle.score.specs.Sounding.{Sounding, sounding}
use Rattle.score.specs.Members.{Keyed, in_order}
use Rattle.score.specs.Page.{TextIs, Rowing, keep_beat, running_after, has_text, keep_text, texts_after, bend_rooms}
use Rattle.score.specs.declared.Tally.{Tally}
use Rattle.format.specs.Text.{pick}
use Rattle.draft.specs.Chord.{heard_by}
use Rattle.words.specs.Words.{Words, words, word_plus}
use Rattle.words.specs.Meant.{rowing_of}

pub record Sounded : Type 0 where
  pub rows : List ℕ
  pub members : List ℕ
  pub points : List ℕ
  pub parts : List ℕ
  pub kept : KeptCounts
  pub chord : List Keyed

abbrev pub sounded_of : (rows members points parts : List ℕ) → KeptCounts → List Keyed → Sounded
sounded_of rows members points parts kept chord =
    record { rows = rows; members = members; points = points; parts = parts; kept = kept; chord = chord }

module _ (s : List ℕ) (place : RowPlace) (flat : Bool) (b : BeatIs) (kept : KeptCounts) (rows members points parts : List ℕ) where
  abbrev pub board : Fretboard
  board = (words s).board_at place.track parts

  abbrev pub memory : Voice
  memory = (words s).voice_at place.track place.voice parts

  abbrev pub running : ℕ
  running = (words s).running_at place.track parts

  abbrev pub heard : List Sounding
  heard = sounding board memory.frets b

  abbrev pub chord : List Keyed
  chord = in_order board heard

  abbrev pub rowing : Rowing Words
  rowing = keep_beat (words s) place board flat running b chord (rowing_of rows members points kept (heard_by board memory b))

  unfoldable pub sounded : Sounded
  sounded =
      record {
        rows = rowing.rows;
        members = rowing.members;
        points = rowing.points;
        parts = (words s).put_running place.track (running_after (words s) running b chord) ((words s).put_voice place.track place.voice rowing.voice parts);
        kept = rowing.kept;
        chord = chord;
      }

-- ---- the rest
module _ (s : List ℕ) (place : RowPlace) (b : BeatIs) (count : ℕ) (texts : List ℕ) where
  abbrev pub own : TextIs
  own = record { bar = place.bar; track = place.track; text = b.text }

  abbrev pub texts_with : List ℕ
  texts_with = pick (has_text b) (keep_text (words s) count own texts) texts

  abbrev pub count_with : ℕ
  count_with = pick (has_text b) (texts_after (words s) count own texts) count

abbrev pub text_room : List ℕ → BeatIs → ℕ → ℕ
text_room s b room = pick (has_text b) (word_plus room 1) room

-- what is counted once the notes, the text and the losses of a beat are
abbrev pub tallied : KeptCounts → (texts : ℕ) → (losses : List ℕ) → Tally → Tally
tallied kept texts losses t =
    record {
      kept = kept;
      texts = texts;
      text_room = t.text_room;
      point_room = t.point_room;
      flat = t.flat;
      losses = losses;
    }

-- and its rooms
unfoldable pub with_rooms : List ℕ → BeatIs → Tally → Tally
with_rooms s b t =
    record {
      kept = t.kept;
      texts = t.texts;
      text_room = text_room s b t.text_room;
      point_room = word_plus t.point_room (bend_rooms b.strings 0 b.notes);
      flat = t.flat;
      losses = t.losses;
    }
