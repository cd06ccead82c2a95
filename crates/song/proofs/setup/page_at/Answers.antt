-- One field after another, where they stand.
use Rattle.format.proofs.Rules.{reading}
use Rattle.song.specs.Setup.{page}
use Rattle.song.proofs.setup.page_at.Goals as goal

pub returns-then-v-ge500 : goal.returns-then-v-ge500
unfolding page
returns-then-v-ge500 c =
    search reading depth 10

pub returns : goal.returns
unfolding page
returns c =
    search reading depth 10
