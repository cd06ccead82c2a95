-- Losses: each report adds one. Those of reading a beat count whether it is kept or not, those of building a row only where it is.
use Rattle.std.specs.Prelude.{ℕ, zero, suc, ◌+◌, List, [], ◌∷◌, ◌++◌, Bool, true, false, not, ◌&&◌}
use Rattle.model.specs.declared.Loss.{Loss}
use Rattle.model.specs.declared.Loss.TheVariants as L
use Rattle.header.specs.declared.Header.{Header}
use Rattle.track.specs.declared.TrackHeader.{TrackHeader}
use Rattle.format.specs.Prog.{has}
use Rattle.note.specs.declared.LeftHand.{LeftHand}
use Rattle.note.specs.declared.LeftHand.TheVariants as H
use Rattle.beat.specs.declared.effects.BeatEffects.{BeatEffects}
use Rattle.beat.specs.declared.mix.Mix.{Mix}
use Rattle.note.specs.declared.NoteRead.{NoteRead}
use Rattle.note.specs.Note.{NoteIs}
use Rattle.note.specs.Notes.{string_bit}
use Rattle.beat.specs.Beat.{BeatIs}
use Rattle.format.specs.Text.{pick}
use Rattle.score.specs.Members.{Keyed, Graced, graces}

abbrev pub report_if : Bool → Loss → List Loss
report_if true l = l ∷ []
report_if false l = []

abbrev pub reported : ℕ → Loss → List Loss
reported zero l = []
reported (suc n) l = l ∷ reported n l

unfoldable pub header_losses : Header → List Loss
header_losses h = report_if h.repeat_lost L.RepeatCount ++ report_if h.swing_lost L.TripletFeel

unfoldable pub track_losses : TrackHeader → List Loss
track_losses t = report_if t.percussion L.DrumKit

-- ---- of reading a beat
abbrev pub effect_losses : BeatEffects → List Loss
effect_losses e =
    report_if e.swell_lost L.UnsupportedVolumeSwell ++ report_if e.rasgueado_lost L.UnsupportedRasgueado
    ++ report_if e.tapping_lost L.UnsupportedTapping ++ report_if e.whammy_lost L.UnsupportedWhammy

abbrev pub mix_losses : Mix → List Loss
mix_losses m = report_if m.wah_lost L.UnsupportedWah ++ report_if m.change_lost L.UnsupportedMixChange

abbrev pub note_losses : NoteRead → List Loss
note_losses n =
    report_if n.right_hand_lost L.UnsupportedRightHandFingering ++ report_if n.effects.slide.lost L.UnsupportedSlideType
    ++ report_if n.effects.harmonic_lost L.HarmonicType

-- a note that is read, also on a string that the track does not have
abbrev pub notes_losses : ℕ → ℕ → List NoteIs → List Loss
notes_losses strings i [] = []
notes_losses strings i (n ∷ ns) =
    pick (has strings (string_bit i)) (note_losses n.read) [] ++ notes_losses strings (i + 1) ns

unfoldable pub reading_losses : BeatIs → List Loss
reading_losses b =
    report_if (has b.head.flags 0x02) L.UnsupportedChordDiagram ++ effect_losses b.effects ++ mix_losses b.mix
    ++ notes_losses b.strings 0 b.notes

-- ---- of building its row
abbrev pub is_beyond : LeftHand → Bool
is_beyond H.NoFinger = false
is_beyond (H.Finger n) = false
is_beyond H.Beyond = true

abbrev pub built_losses : NoteRead → List Loss
built_losses n =
    report_if (n.effects.palm_mute && n.effects.let_ring) L.LetRingWithPalmMute
    ++ report_if (is_beyond n.left_hand) L.UnsupportedFingering

abbrev pub member_losses : List Keyed → List Loss
member_losses [] = []
member_losses (x ∷ xs) = built_losses x.sound.note.read ++ member_losses xs

abbrev pub grace_losses : List Graced → List Loss
grace_losses [] = []
grace_losses (g ∷ gs) = report_if g.grace.on_beat L.OnBeatGrace ++ grace_losses gs

abbrev pub is_rest : List Keyed → Bool
is_rest [] = true
is_rest (x ∷ xs) = false

unfoldable pub building_losses : BeatIs → List Keyed → List Loss
building_losses b xs =
    member_losses xs ++ grace_losses (graces xs) ++ report_if (not (is_rest xs) && b.effects.artificial_harmonic) L.HarmonicType
