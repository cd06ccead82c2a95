-- The bar numbers, where they stand.
use Rattle.format.proofs.Rules.{returning}
use Rattle.song.specs.Setup.{no_directions, directions}
use Rattle.song.proofs.setup.directions_at.Goals as goal

pub returns-in_err-at : goal.returns-in_err-at
unfolding no_directions directions
returns-in_err-at c =
    search returning depth 8 fits 4000

pub returns-in_err-bars : goal.returns-in_err-bars
unfolding no_directions directions
returns-in_err-bars c =
    search returning depth 8 fits 4000

pub returns-in_err-at-2 : goal.returns-in_err-at-2
unfolding no_directions directions
returns-in_err-at-2 c =
    search returning depth 8 fits 4000

pub returns-then-v-lt500 : goal.returns-then-v-lt500
unfolding no_directions directions
returns-then-v-lt500 c =
    search returning

pub returns : goal.returns
unfolding no_directions directions
returns c =
    search returning depth 8 fits 4000
