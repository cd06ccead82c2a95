-- The change of a voice's memory by one note.
use Rattle.std.specs.Prelude.{ℕ, set, Some}
use Rattle.words.specs.Words.{fret_word}
use Rattle.memory.specs.declared.VoiceState.{VoiceState}

-- document 01: "for each string, no fret or the last fret; reading a note changes that memory where it stands". Past the seventh
-- string a set changes nothing
abbrev pub changed : VoiceState → ℕ → ℕ → VoiceState
changed state string fret = record { frets = set state.frets string (fret_word (Some fret)) }
