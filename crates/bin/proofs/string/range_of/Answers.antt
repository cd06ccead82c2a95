-- An empty text has no place.
use borrow.Author.Rules.{rules}
use native.Mathlib.Omega.{arith}
use Rattle.format.proofs.Text.{range_none, range_some}
use Rattle.bin.proofs.string.range_of.Goals as goal

pub returns-then-start-stop : goal.returns-then-start-stop
returns-then-start-stop c =
    range_none _ _ (search rules)

pub returns : goal.returns
returns c =
    range_some _ _ (omega arith)
