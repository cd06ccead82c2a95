-- Slices with the values that go with them, as states of the definitions.
use Rattle.std.specs.Prelude.{ℕ, List}
use Rattle.score.specs.declared.KeptCounts.{KeptCounts}
use Rattle.score.specs.declared.Voice.{Voice}
use Rattle.score.specs.declared.Tally.{Tally}
use Rattle.score.specs.Page.{Rowing, Walk}
use Rattle.words.specs.Words.{Words}

-- the tables that a row is entered in, with what is remembered
abbrev pub rowing_of : (rows members points : List ℕ) → KeptCounts → Voice → Rowing Words
rowing_of rows members points kept voice =
    record { rows = rows; members = members; points = points; kept = kept; voice = voice }

-- the tables that beats are entered in, with what is counted
abbrev pub walk_of : (bars rows members points texts parts : List ℕ) → Tally → Walk Words
walk_of bars rows members points texts parts tally =
    record { bars = bars; rows = rows; members = members; points = points; texts = texts; parts = parts; tally = tally }
