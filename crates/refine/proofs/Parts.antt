-- The parts that fit their words: every part that a reading can give is one of them. Its words are then 42.
use Rattle.std.specs.Prelude.{None, Option, Some}
use Prim.Native.Nat.{ℕ, zero, suc, ◌<◌}
use mathlib.Core.Path.{◌≡◌, refl}
use native.Mathlib.Omega.{arith}
use lib.ListN.{length, length-append, length-map}
use Rattle.track.specs.declared.TrackHeader.{TrackHeader}
use Rattle.score.specs.declared.Fretboard.{Fretboard}
use Rattle.score.specs.declared.Hammer.{Hammer}
use Rattle.score.specs.declared.OttavaRun.{OttavaRun}
use Rattle.score.specs.declared.Part.{Part}
use Rattle.score.specs.declared.Voice.{Voice}
use Rattle.score.specs.Sounding.{nothing}
use Rattle.score.specs.Page.{part_of, no_voice}
use Rattle.score.specs.Score.{voice_of, with_voice, with_running}
use Rattle.words.specs.Words.{part_stride, hammer_words, run_words, voice_words, board_words, part_words}
use Rattle.refine.proofs.All.{All, all_replicate}

abbrev pub Byte : ℕ → Type 0
Byte n = n < 256

abbrev pub LastFits : Option ℕ → Type 0
LastFits None = Unit {0}
LastFits (Some f) = f < 256

abbrev pub HammerFits : Option Hammer → Type 0
HammerFits None = Unit {0}
HammerFits (Some w) = w.key < 256

pub record VoiceFits (v : Voice) : Type 0 where
  pub strings : length v.frets ≡ 7
  pub frets : All LastFits v.frets
  pub hammer : HammerFits v.hammer

pub record BoardFits (b : Fretboard) : Type 0 where
  pub count : b.strings.count < 256
  pub strings : length b.strings.tunings ≡ 7
  pub tunings : All Byte b.strings.tunings
  pub capo : b.capo < 256

pub record PartFits (p : Part) : Type 0 where
  pub board : BoardFits p.board
  pub running : p.running < 256
  pub first : VoiceFits p.first
  pub second : VoiceFits p.second

-- ---- at first, and after a change

no_voice_fits : VoiceFits no_voice
no_voice_fits = record { strings = refl; frets = all_replicate LastFits 7 nothing tt; hammer = tt }

pub part_of_fits : (t : TrackHeader) → BoardFits (part_of t).board → PartFits (part_of t)
part_of_fits t f = record { board = f; running = omega arith; first = no_voice_fits; second = no_voice_fits }

pub voice_of_fits : (n : ℕ) (p : Part) → PartFits p → VoiceFits (voice_of n p)
voice_of_fits zero p f = f.first
voice_of_fits (suc n) p f = f.second

pub with_voice_fits : (n : ℕ) (v : Voice) (p : Part) → VoiceFits v → PartFits p → PartFits (with_voice n v p)
with_voice_fits zero v p q f = record { board = f.board; running = f.running; first = q; second = f.second }
with_voice_fits (suc n) v p q f = record { board = f.board; running = f.running; first = f.first; second = q }

pub with_running_fits : (n : ℕ) (p : Part) → n < 256 → PartFits p → PartFits (with_running n p)
with_running_fits n p q f = record { board = f.board; running = q; first = f.first; second = f.second }

-- ---- how many words

hammer_length : (h : Option Hammer) → length (hammer_words h) ≡ 3
hammer_length None = refl
hammer_length (Some w) = refl

run_length : (r : Option OttavaRun) → length (run_words r) ≡ 3
run_length None = refl
run_length (Some o) = refl

pub voice_length : (v : Voice) → VoiceFits v → length (voice_words v) ≡ 15
unfolding voice_words
voice_length v f = simp (length-append, length-map, hammer_length, run_length, f.strings)

pub board_length : (b : Fretboard) → BoardFits b → length (board_words b) ≡ 11
unfolding board_words
board_length b f = simp (length-append, f.strings)

pub part_length : (p : Part) → PartFits p → length (part_words p) ≡ part_stride
unfolding part_words
part_length p f =
    let a = voice_length p.first f.first in
    let b = voice_length p.second f.second in
    simp (length-append, board_length p.board f.board, a, b)
