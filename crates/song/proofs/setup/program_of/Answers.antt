-- By the test.
use borrow.Author.Tests.{le-leb, lt-leb}
use Rattle.song.specs.Setup.{program_of}
use Rattle.song.proofs.setup.program_of.Goals as goal

pub returns-then-v-le127 : goal.returns-then-v-le127
unfolding program_of
returns-then-v-le127 c =
    simp (le-leb _ 127 c.if-v-le127.true)

pub returns : goal.returns
unfolding program_of
returns c =
    simp (lt-leb _ 127 c.if-v-le127.false)
