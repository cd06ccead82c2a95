-- A lent page as a state of the definitions.
use Rattle.std.specs.Prelude.{ℕ, ◌≡◌, List, length}
use Rattle.score.specs.Page.{Walk}
use Rattle.words.specs.Words.{Words}
use Rattle.words.specs.Meant.{walk_of}
use Rattle.enter.specs.declared.Page.{Page}

-- with other words of what is remembered of each track
abbrev pub over : (parts : List ℕ) → Page → Walk Words
over parts p = walk_of p.bars.now p.rows.now p.members.now p.points.now p.texts.now parts p.tally

abbrev pub walked : Page → Walk Words
walked p = over p.parts.now p

-- its tables are still those that were lent, and the words of the tracks as many
pub record SamePage (x y : Page) : Type 0 where
  pub bars : y.bars.ghost_name ≡ x.bars.ghost_name
  pub rows : y.rows.ghost_name ≡ x.rows.ghost_name
  pub members : y.members.ghost_name ≡ x.members.ghost_name
  pub points : y.points.ghost_name ≡ x.points.ghost_name
  pub texts : y.texts.ghost_name ≡ x.texts.ghost_name
  pub parts : y.parts.ghost_name ≡ x.parts.ghost_name
  pub words : length y.parts.now ≡ length x.parts.now
