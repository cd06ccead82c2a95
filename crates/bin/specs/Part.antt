-- Handing out a text.
use Rattle.std.specs.Prelude.{ℕ, List, [], length, leb}
use Rattle.std.proofs.Math.Seq.{slice}
use Rattle.format.specs.Text.{pick}

-- one thing for a range that fits, another for one with start after end, or end past the input
abbrev pub when_within : {X : Type 0} → List ℕ → ℕ → ℕ → X → X → X
when_within s start end fits not = pick (leb start end) (pick (leb end (length s)) fits not) not

-- that part of the input itself; a range that does not fit gives an empty part
unfoldable pub part_of : List ℕ → ℕ → ℕ → List ℕ
part_of s start end = when_within s start end (slice start end s) []
