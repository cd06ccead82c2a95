-- What is lent to a reading, and to a pass.
use Rattle.std.specs.Prelude.{ℕ, ◌≡◌, List}
use Rattle.words.specs.Lent.{Lent, lent_of}
use Rattle.enter.specs.declared.Page.{Page}
use Rattle.score.specs.Reading as Reading
use Rattle.reader.specs.declared.Tables.{Tables}
use Rattle.reader.specs.Answered.{tables}

abbrev pub lent_by : (tracks : List ℕ) → Page → Lent
lent_by tracks p = lent_of p.bars.now tracks p.rows.now p.members.now p.points.now p.texts.now p.parts.now

abbrev pub tables_of : Tables → Reading.Tables
tables_of t = tables t.bars.now t.tracks.now t.rows.now t.members.now t.points.now t.texts.now

-- they are still those that were lent
pub record SameTables (x y : Tables) : Type 0 where
  pub bars : y.bars.ghost_name ≡ x.bars.ghost_name
  pub tracks : y.tracks.ghost_name ≡ x.tracks.ghost_name
  pub rows : y.rows.ghost_name ≡ x.rows.ghost_name
  pub members : y.members.ghost_name ≡ x.members.ghost_name
  pub points : y.points.ghost_name ≡ x.points.ghost_name
  pub texts : y.texts.ghost_name ≡ x.texts.ghost_name
