-- By the test.
use borrow.Author.Tests.{le-leb, lt-leb}
use Rattle.song.specs.Setup.{bar_number}
use Rattle.song.proofs.setup.bar_number.Goals as goal

pub returns-then-v-ge32768 : goal.returns-then-v-ge32768
unfolding bar_number
returns-then-v-ge32768 c =
    simp (le-leb 32768 _ c.if-v-ge32768.true)

pub returns : goal.returns
unfolding bar_number
returns c =
    simp (lt-leb 32768 _ c.if-v-ge32768.false)
