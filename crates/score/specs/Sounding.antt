-- Notes: which of a beat's notes sound, at which fret, and what their voice remembers.
use Rattle.std.specs.Prelude.{ℕ, zero, suc, ◌+◌, List, [], ◌∷◌, Bool, ◌&&◌, get_or, replicate, set, ltb, None, Option, Some}
use Rattle.format.specs.Text.{pick}
use Rattle.note.specs.declared.NoteRead.{NoteRead}
use Rattle.format.specs.Prog.{has}
use Rattle.note.specs.Note.{NoteIs, no_note}
use Rattle.note.specs.Notes.{string_bit}
use Rattle.beat.specs.Beat.{BeatIs}
use Rattle.score.specs.declared.Fretboard.{Fretboard}

-- for each string of a voice, no fret or the last fret
abbrev pub Memory : Type 0
Memory = List (Option ℕ)

abbrev pub nothing : Option ℕ
nothing = None

abbrev pub no_memory : Memory
no_memory = replicate 7 nothing

-- a tie takes the remembered fret; without one it keeps the read fret
abbrev pub fret_of : Option ℕ → NoteRead → ℕ
fret_of None n = n.fret
fret_of (Some f) n = pick n.tie f n.fret

-- a note that sounds: its string in file order, and its fret
pub record Sounding : Type 0 where
  pub string : ℕ
  pub fret : ℕ
  pub note : NoteIs

-- note i is that of string i, bit 6 - i; a string past the track's strings is read and dropped
abbrev pub sounds_on : (strings bits i : ℕ) → Bool
sounds_on strings bits i = has bits (string_bit i) && ltb i strings

abbrev pub sounds : Fretboard → BeatIs → ℕ → Bool
sounds board beat i = sounds_on board.strings.count beat.strings i

abbrev pub note_at : BeatIs → ℕ → NoteIs
note_at beat i = get_or beat.notes i no_note

abbrev pub sounding_at : Memory → BeatIs → ℕ → Sounding
sounding_at memory beat i =
    record { string = i; fret = fret_of (get_or memory i nothing) (note_at beat i).read; note = note_at beat i }

-- the notes from string i on, k of them: a note on a string changes the memory of that string alone, so each sees the memory
-- that the beat began with
abbrev pub sounding_from : ℕ → ℕ → Fretboard → Memory → BeatIs → List Sounding
sounding_from zero i board memory beat = []
sounding_from (suc k) i board memory beat =
    pick (sounds board beat i)
    (sounding_at memory beat i ∷ sounding_from k (i + 1) board memory beat)
    (sounding_from k (i + 1) board memory beat)

unfoldable pub sounding : Fretboard → Memory → BeatIs → List Sounding
sounding board memory beat = sounding_from 7 0 board memory beat

-- reading a note changes that memory where it stands, kept beat or not
abbrev pub remember : Memory → List Sounding → Memory
remember memory [] = memory
remember memory (x ∷ xs) = remember (set memory x.string (Some x.fret)) xs
