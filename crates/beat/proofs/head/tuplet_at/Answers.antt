-- Given or not.
use borrow.Author.Rules.{rules}
use Rattle.beat.proofs.Filled.{tuplet_none, tuplet_some}
use Rattle.beat.proofs.head.tuplet_at.Goals as goal

pub returns-then-flags-eq0 : goal.returns-then-flags-eq0
returns-then-flags-eq0 c =
    search tuplet_none

pub returns : goal.returns
returns c =
    search (tuplet_some, rules)
