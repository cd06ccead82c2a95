-- The running dynamic.
use Rattle.std.specs.Prelude.{ℕ, Bool, true, ◌&&◌, ◌||◌, List, [], ◌∷◌, eqb, None, Option, Some}
use Rattle.format.specs.Text.{pick}
use Rattle.curve.specs.Held.{held, byte_half}
use Rattle.curve.specs.declared.level.NoteLevel.{NoteLevel}
use Rattle.curve.specs.declared.level.ChordLevel.{ChordLevel}
use Rattle.curve.specs.declared.level.LevelAfter.{LevelAfter}

-- "starting at 6"
abbrev pub forte : ℕ
forte = 6

-- docs/RULES.md 14: the dynamic byte is held to 1..8
abbrev pub held_level : Option ℕ → Option ℕ
held_level None = None
held_level (Some byte) = Some (held byte_half 1 8 byte)

-- "A ghost, accented or heavily accented note is emphasised and gives no dynamic."
unfoldable pub note_level : (ghost accent heavy : Bool) (stored : Option ℕ) → NoteLevel
note_level ghost accent heavy stored = record {
  emphasised = ghost || accent || heavy;
  given = pick (ghost || accent || heavy) None (held_level stored);
}

-- the later of two, where it is given
abbrev pub later : Option ℕ → Option ℕ → Option ℕ
later l None = l
later l (Some n) = Some n

-- "The last member in order that gives one counts"
abbrev pub last_given : List NoteLevel → Option ℕ
last_given [] = None
last_given (m ∷ ms) = later m.given (last_given ms)

abbrev pub all_emphasised : List NoteLevel → Bool
all_emphasised [] = true
all_emphasised (m ∷ ms) = m.emphasised && all_emphasised ms

-- a chord of these members, in order
unfoldable pub chord_of : List NoteLevel → ChordLevel
chord_of ms = record { emphasised = all_emphasised ms; given = last_given ms }

abbrev pub level_or : Option ℕ → ℕ → ℕ
level_or None n = n
level_or (Some level) n = level

-- "with none, 6, or the running value if all members are emphasised." A rest has no members, so it keeps the running value.
unfoldable pub chord_level : (running : ℕ) → ChordLevel → ℕ
chord_level running chord = level_or chord.given (pick chord.emphasised running forte)

-- "A mark is written only at a change."
unfoldable pub level_after : (running : ℕ) → ChordLevel → LevelAfter
level_after running chord = record {
  running = chord_level running chord;
  mark = pick (eqb (chord_level running chord) running) None (Some (chord_level running chord));
}
