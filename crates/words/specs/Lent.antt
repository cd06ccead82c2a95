-- The slices that a reading is lent, as words: the six tables, and the reader's own for what is remembered of each track.
use Rattle.std.specs.Prelude.{ℕ, List}
use Rattle.score.specs.Page as Page
use Rattle.score.specs.Page.{Kind}
use Rattle.words.specs.Words.{Words}

pub record Lent : Type 0 where
  pub bars : List ℕ
  pub tracks : List ℕ
  pub rows : List ℕ
  pub members : List ℕ
  pub points : List ℕ
  pub texts : List ℕ
  pub parts : List ℕ

abbrev pub lent_of : (bars tracks rows members points texts parts : List ℕ) → Lent
lent_of bars tracks rows members points texts parts =
    record { bars = bars; tracks = tracks; rows = rows; members = members; points = points; texts = texts; parts = parts }

abbrev pub lent : Lent → (k : Kind) → Words k
lent t Page.bars = t.bars
lent t Page.tracks = t.tracks
lent t Page.rows = t.rows
lent t Page.members = t.members
lent t Page.points = t.points
lent t Page.texts = t.texts
lent t Page.parts = t.parts
