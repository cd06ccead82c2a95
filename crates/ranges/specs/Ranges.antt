-- Where the bytes of rows stand in the file (document 02, f), said of the finished rows.
use Rattle.std.specs.Prelude.{ℕ, ◌+◌, ◌≤◌, ◌<◌, ◌⊎◌, ◌≡◌, Bool, true, false, List, [], ◌∷◌, ◌++◌, Option}
use Rattle.format.specs.Prog.{ok, run}
use Rattle.model.specs.declared.OttavaMarks.{OttavaMarks}
use Rattle.model.specs.declared.Row.{Row}
use Rattle.model.specs.declared.RowKind.TheVariants.{Grace, Beat}
use Rattle.model.specs.declared.Technique.TheVariants.{NoTechnique}
use Rattle.entries.specs.Changed.{with_technique, with_ottava_end}
use Rattle.beat.specs.Beat as B
use Rattle.beat.specs.Beat.{BeatIs}
use Rattle.score.specs.declared.Fretboard.{Fretboard}
use Rattle.score.specs.declared.KeptCounts.{KeptCounts}
use Rattle.score.specs.Sounding.{sounding}
use Rattle.score.specs.Members.{in_order}
use Rattle.score.specs.Rows.{RowIs, rows_of}
use Rattle.score.specs.Page.{row_entry}

-- ---- which beat a row is of

-- a row without what its neighbours may change: whether a hammer turns pull-off, and whether its ottava ends there
abbrev pub alone : Row → Row
alone r = with_technique NoTechnique (with_ottava_end false r)

-- a row is one of those that a beat gives, on some fretboard, by some memory of frets, key and dynamic
pub record RowOf (b : BeatIs) (r : Row) : Type 0 where
  pub board : Fretboard
  pub frets : List (Option ℕ)
  pub flat : Bool
  pub running : ℕ
  pub before : List RowIs
  pub row : RowIs
  pub after : List RowIs
  pub among : rows_of r.place board flat running b (in_order board (sounding board frets b)) ≡ before ++ (row ∷ after)
  pub marks : OttavaMarks
  pub kept : KeptCounts
  pub is : alone r ≡ alone (row_entry row marks kept)

-- "Every row carries the start and end of its beat in the file": read in a file s of version v from the start of the range on, the
-- row's own beat ends where the range ends
pub record Shows (s : List ℕ) (v : ℕ) (r : Row) : Type 0 where
  pub beat : BeatIs
  pub read : run (B.beat v) s r.beat.start ≡ ok beat r.beat.end
  pub kept : beat.head.kept ≡ true
  pub row_of : RowOf beat r

-- a range of a byte at least, within the bytes used
pub record Within (used : ℕ) (r : Row) : Type 0 where
  pub starts : r.beat.start < r.beat.end
  pub ends : r.beat.end ≤ used

-- ---- rows that follow one another

-- "a grace row carries those of its beat": it stands directly before its beat's own row
pub record GraceOf (r q : Row) : Type 0 where
  pub grace : r.kind ≡ Grace
  pub beat : q.kind ≡ Beat
  pub place : r.place ≡ q.place
  pub range : r.beat ≡ q.beat

-- the bytes of a row end before those of another start
abbrev pub Before : Row → Row → Type 0
Before r q = r.beat.end ≤ q.beat.start

-- "beat ranges of different beats do not overlap and rise in row order": of two rows that follow one another
abbrev pub Follows : Row → Row → Type 0
Follows r q = GraceOf r q ⊎ Before r q

abbrev pub RisingFrom : Row → List Row → Type 0
RisingFrom r [] = Unit {0}
RisingFrom r (q ∷ rs) = Follows r q × RisingFrom q rs

abbrev pub Rising : List Row → Type 0
Rising [] = Unit {0}
Rising (r ∷ rs) = RisingFrom r rs

-- so of any two, row i before row j: row i is the grace directly before row j, or its bytes end before those of row j start
abbrev pub Apart : (i j : ℕ) → Row → Row → Type 0
Apart i j r q = ((j ≡ i + 1) × GraceOf r q) ⊎ Before r q
