-- A voice as fifteen words that are lent: what the words say, and a voice with one thing changed.
use Rattle.std.specs.Prelude.{ℕ, List, map, Option}
use Rattle.model.specs.declared.Span.{Span}
use Rattle.score.specs.declared.Hammer.{Hammer}
use Rattle.score.specs.declared.OttavaRun.{OttavaRun}
use Rattle.score.specs.declared.Voice.{Voice}
use Rattle.words.specs.declared.voice.VoiceWords.{VoiceWords}
use Rattle.words.specs.Words.{recalled, voice_from}

abbrev pub voice_in : VoiceWords → Voice
voice_in w = voice_from 0 w.words

-- the frets of a voice, by their words
abbrev pub frets_in : List ℕ → List (Option ℕ)
frets_in w = map recalled w

-- as `with_frets` of Page
abbrev pub with_hammer : Voice → Option Hammer → Voice
with_hammer v hammer = record { frets = v.frets; hammer = hammer; last = v.last; run = v.run }

abbrev pub with_last : Voice → Span → Voice
with_last v last = record { frets = v.frets; hammer = v.hammer; last = last; run = v.run }

abbrev pub with_run : Voice → Option OttavaRun → Voice
with_run v run = record { frets = v.frets; hammer = v.hammer; last = v.last; run = run }
