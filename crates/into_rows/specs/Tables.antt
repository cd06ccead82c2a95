-- The lent tables of rows as a state of the definitions.
use Rattle.words.specs.declared.voice.VoiceWords.{VoiceWords}
use Rattle.std.specs.Prelude.{ℕ, ◌≡◌, List}
use Rattle.score.specs.Page.{Rowing}
use Rattle.words.specs.Words.{Words}
use Rattle.into_rows.specs.declared.keep.RowTables.{RowTables}
use Rattle.into_rows.specs.Entry.{rowing_in}

-- with the words of a voice
abbrev pub rowed_in : RowTables → VoiceWords → Rowing Words
rowed_in t voice = rowing_in t.rows.now t.members.now t.points.now t.kept voice

-- they are still those that were lent
pub record SameTables (x y : RowTables) : Type 0 where
  pub rows : y.rows.ghost_name ≡ x.rows.ghost_name
  pub members : y.members.ghost_name ≡ x.members.ghost_name
  pub points : y.points.ghost_name ≡ x.points.ghost_name
