-- The answer of a reading: for every case document 01's number and values. Fields that a refusal doesn't name are 0 or absent.
use Rattle.std.specs.Prelude.{ℕ, List, [], ◌∷◌, ℤ, pos, get_or, replicate, None}
use Rattle.format.specs.declared.Range.{Range}
use Rattle.format.specs.Count.{count_number}
use Rattle.model.specs.declared.Outcome.{Outcome}
use Rattle.model.specs.declared.Outcome.TheVariants.{Read, Truncated, Version, Count, Empty, TooLong, NoRoom}
use Rattle.model.specs.declared.LyricLine.{LyricLine}
use Rattle.model.specs.declared.Lyrics.{Lyrics}
use Rattle.model.specs.declared.Song.{Song}
use Rattle.model.specs.declared.Sizes.{Sizes}
use Rattle.model.specs.declared.Losses.{Losses}
use Rattle.model.specs.declared.Answer.{Answer}
use Rattle.model.specs.declared.Loss.{Loss}
use Rattle.model.specs.declared.Loss.TheVariants.{DrumKit, HarmonicType, LetRingWithPalmMute, OnBeatGrace, RepeatCount, TripletFeel, UnsupportedChordDiagram, UnsupportedDirection, UnsupportedFingering, UnsupportedMixChange, UnsupportedRasgueado, UnsupportedRightHandFingering, UnsupportedSlideType, UnsupportedTapping, UnsupportedVolumeSwell, UnsupportedWah, UnsupportedWhammy}

-- document 01's number of an outcome; of outcome 3 also the count's, from 1 on, its value, and the offset of its four bytes in the file
-- (document 02, k)
pub record Numbers : Type 0 where
  pub number : ℕ
  pub which : ℕ
  pub value : ℤ
  pub offset : ℕ

abbrev pub just_number : ℕ → Numbers
just_number n = record { number = n; which = 0; value = pos 0; offset = 0 }

-- the seven outcomes
abbrev pub numbers_of : Outcome → Numbers
numbers_of Read = just_number 0
numbers_of Truncated = just_number 1
numbers_of Version = just_number 2
numbers_of (Count k v at) = record { number = 3; which = count_number k; value = v; offset = at }
numbers_of Empty = just_number 4
numbers_of TooLong = just_number 5
numbers_of NoRoom = just_number 6

-- ---- 0 or absent

abbrev pub no_range : Range
no_range = record { start = 0; end = 0 }

abbrev pub no_sizes : Sizes
no_sizes = record { bars = 0; tracks = 0; rows = 0; members = 0; points = 0; texts = 0 }

abbrev pub no_line : LyricLine
no_line = record { start = 0; text = no_range }

abbrev pub no_lyrics : Lyrics
no_lyrics = record { track = None; lines = replicate 5 no_line }

unfoldable pub no_song : Song
no_song = record {
  used = 0;
  version = 0;
  title = no_range;
  subtitle = no_range;
  composer = no_range;
  lyricist = no_range;
  copyright = no_range;
  lyrics = no_lyrics;
  tempo = None;
}

-- ---- losses: seventeen counts in byte order of their codes

abbrev pub loss_number : Loss → ℕ
loss_number DrumKit = 0
loss_number HarmonicType = 1
loss_number LetRingWithPalmMute = 2
loss_number OnBeatGrace = 3
loss_number RepeatCount = 4
loss_number TripletFeel = 5
loss_number UnsupportedChordDiagram = 6
loss_number UnsupportedDirection = 7
loss_number UnsupportedFingering = 8
loss_number UnsupportedMixChange = 9
loss_number UnsupportedRasgueado = 10
loss_number UnsupportedRightHandFingering = 11
loss_number UnsupportedSlideType = 12
loss_number UnsupportedTapping = 13
loss_number UnsupportedVolumeSwell = 14
loss_number UnsupportedWah = 15
loss_number UnsupportedWhammy = 16

unfoldable pub losses_of : List ℕ → Losses
losses_of l = record {
  drum_kit = get_or l 0 0;
  harmonic_type = get_or l 1 0;
  let_ring_with_palm_mute = get_or l 2 0;
  on_beat_grace = get_or l 3 0;
  repeat_count = get_or l 4 0;
  triplet_feel = get_or l 5 0;
  unsupported_chord_diagram = get_or l 6 0;
  unsupported_direction = get_or l 7 0;
  unsupported_fingering = get_or l 8 0;
  unsupported_mix_change = get_or l 9 0;
  unsupported_rasgueado = get_or l 10 0;
  unsupported_right_hand_fingering = get_or l 11 0;
  unsupported_slide_type = get_or l 12 0;
  unsupported_tapping = get_or l 13 0;
  unsupported_volume_swell = get_or l 14 0;
  unsupported_wah = get_or l 15 0;
  unsupported_whammy = get_or l 16 0;
}

unfoldable pub loss_words : Losses → List ℕ
loss_words x =
    x.drum_kit ∷ x.harmonic_type ∷ x.let_ring_with_palm_mute
    ∷ x.on_beat_grace ∷ x.repeat_count ∷ x.triplet_feel
    ∷ x.unsupported_chord_diagram ∷ x.unsupported_direction ∷ x.unsupported_fingering
    ∷ x.unsupported_mix_change ∷ x.unsupported_rasgueado ∷ x.unsupported_right_hand_fingering
    ∷ x.unsupported_slide_type ∷ x.unsupported_tapping ∷ x.unsupported_volume_swell
    ∷ x.unsupported_wah ∷ x.unsupported_whammy ∷ []

unfoldable pub no_losses : Losses
no_losses = losses_of []

-- ---- the answers

-- outcome 0: bytes used and all that was read, counts, rooms, losses
abbrev pub read_answer : Song → Sizes → Sizes → Losses → Answer
read_answer s c r l = record { outcome = Read; song = s; counts = c; rooms = r; losses = l }

-- a refusal names no more than its own values
abbrev pub refusal : Outcome → Answer
refusal o = record { outcome = o; song = no_song; counts = no_sizes; rooms = no_sizes; losses = no_losses }

-- outcome 6: the rooms needed
abbrev pub no_room_answer : Sizes → Answer
no_room_answer r = record { outcome = NoRoom; song = no_song; counts = no_sizes; rooms = r; losses = no_losses }
