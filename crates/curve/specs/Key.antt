-- Keys of notes and of graces.
use Rattle.std.specs.Prelude.{ℕ, ◌+◌, ◌-◌, min, Bool, eqb}
use Rattle.format.specs.Text.{pick}

-- docs/RULES.md 15: percussion keys 27→42, 28→60, 32→31, any other the fret itself
unfoldable pub percussion_key : (fret : ℕ) → ℕ
percussion_key fret = pick (eqb fret 27) 42 (pick (eqb fret 28) 60 (pick (eqb fret 32) 31 fret))

-- the key from fret, tuning and capo, held to 0..127 (docs/RULES.md 14)
abbrev pub string_key : (fret tuning capo : ℕ) → ℕ
string_key fret tuning capo = min (fret + tuning + capo) 127

-- docs/RULES.md 15: a percussion track's keys are without tuning and capo
abbrev pub note_key : (percussion : Bool) (fret tuning capo : ℕ) → ℕ
note_key percussion fret tuning capo = pick percussion (percussion_key fret) (string_key fret tuning capo)

-- "A grace's offset is taken from the fret read", and is added to its note's key; held to 0..127. A difference of numbers stops at 0.
abbrev pub grace_key : (key fret grace : ℕ) → ℕ
grace_key key fret grace = min (key + grace - fret) 127
