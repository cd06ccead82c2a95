-- Read, and its flags stored.
use borrow.Author.Rules.{rules}
use Rattle.beat.proofs.Filled.{tail_read}
use Rattle.beat.proofs.tail.tail_at.Goals as goal

pub returns : goal.returns
returns c =
    search (tail_read, rules)
