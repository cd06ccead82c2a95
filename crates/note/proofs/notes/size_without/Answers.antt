-- By the version.
use borrow.Author.Tests.{le-leb, lt-leb}
use Rattle.note.specs.Hop.{size_without}
use Rattle.note.proofs.notes.size_without.Goals as goal

pub returns-then-v-ge500 : goal.returns-then-v-ge500
unfolding size_without
returns-then-v-ge500 c =
    rw (le-leb _ _ c.if-v-ge500.true)

pub returns : goal.returns
unfolding size_without
returns c =
    rw (lt-leb _ _ c.if-v-ge500.false)
