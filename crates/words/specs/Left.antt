-- What a pass over a file leaves beside the tables: the rooms that it needs and the entries kept, as they are counted on the way, and why
-- it stopped.
use Rattle.std.specs.Prelude.{ℕ, Bool, List}
use Rattle.bin.specs.Signed.{signed}
use Rattle.format.specs.declared.Stop.{Stop}
use Rattle.format.specs.declared.Stop.TheVariants as S
use Rattle.format.specs.Text.{pick}
use Rattle.model.specs.declared.Outcome.{Outcome}
use Rattle.model.specs.declared.Outcome.TheVariants as O
use Rattle.model.specs.declared.Sizes.{Sizes}
use Rattle.header.specs.declared.Counts.{Counts}
use Rattle.score.specs.declared.Tally.{Tally}
use Rattle.score.specs.Reading.{Tables}
use Rattle.words.specs.Lent.{Lent}

abbrev pub sizes : (bars tracks rows members points texts : ℕ) → Sizes
sizes a b c d e f = record { bars = a; tracks = b; rows = c; members = d; points = e; texts = f }

-- the six numbers of `needed`
abbrev pub needed_by : Counts → Tally → Sizes
needed_by c w = sizes c.bars c.tracks w.kept.rows w.kept.members w.point_room w.text_room

-- and of `entries`
abbrev pub entries_by : Counts → Tally → Sizes
entries_by c w = sizes c.bars c.tracks w.kept.rows w.kept.members w.kept.points w.texts

-- why reading stopped, for the answer: where the bytes of a longer file end, it is the limit that was met
abbrev pub stop_answer : (longer : Bool) → Stop → Outcome
stop_answer longer S.Ends = pick longer O.TooLong O.Truncated
stop_answer longer S.Text = O.Truncated
stop_answer longer S.Version = O.Version
stop_answer longer (S.Count which value offset) = O.Count which (signed 2147483648 value) offset
stop_answer longer S.Empty = O.Empty

-- the caller's tables, and parts of the reader's own
abbrev pub lent_with : Tables → List ℕ → Lent
lent_with t own =
    record {
      bars = t.bars;
      tracks = t.tracks;
      rows = t.rows;
      members = t.members;
      points = t.points;
      texts = t.texts;
      parts = own;
    }
