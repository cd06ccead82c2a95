-- A plain note, and what a beat of plain notes comes to: one row without marks, and nothing else.
use Rattle.std.specs.Prelude.{◌≡◌, Bool, true, false, [], ◌∷◌, ℕ, None}
use Rattle.model.specs.declared.RowPlace.{RowPlace}
use Rattle.curve.specs.Level.{chord_of, level_after}
use Rattle.note.specs.declared.LeftHand.TheVariants.{NoFinger}
use Rattle.note.specs.Marks.{no_marks}
use Rattle.note.specs.Note.{NoteIs}
use Rattle.beat.specs.Beat.{BeatIs}
use Rattle.score.specs.declared.Fretboard.{Fretboard}
use Rattle.score.specs.Sounding.{Memory, sounding}
use Rattle.score.specs.Members.{in_order}
use Rattle.score.specs.Rows.{rows_of, levels}
use Rattle.score.specs.Losses.{reading_losses, building_losses}
use Rattle.score.specs.Page.{bend_rooms, has_text}
use Rattle.into_rows.specs.Plain.{plain_row}

-- no accents, effects, bend and fingers
pub record PlainNote (n : NoteIs) : Type 0 where
  pub heavy : n.read.heavy_accent ≡ false
  pub light : n.read.accent ≡ false
  pub marks : n.read.effects ≡ no_marks
  pub bend : n.bend ≡ []
  pub left : n.read.left_hand ≡ NoFinger
  pub right : n.read.right_hand_lost ≡ false

pub record PlainBeat (b : BeatIs) : Type 0 where
  pub kept : b.head.kept ≡ true
  pub lost : reading_losses b ≡ []
  pub built : (board : Fretboard) (memory : Memory) → building_losses b (in_order board (sounding board memory b)) ≡ []
  pub text : has_text b ≡ false
  pub tempo : b.mix.tempo ≡ None
  pub rooms : bend_rooms b.strings 0 b.notes ≡ 0
  pub rows : (place : RowPlace) (board : Fretboard) (flat : Bool) (running : ℕ) (memory : Memory) →
      rows_of place board flat running b (in_order board (sounding board memory b))
      ≡ plain_row place board flat (level_after running (chord_of (levels (in_order board (sounding board memory b))))).mark b (in_order board (sounding board memory b)) ∷ []
