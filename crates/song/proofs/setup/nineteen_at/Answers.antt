-- What is left of the bar numbers.
use borrow.Author.Rules.{rules}
use lib.ListN.{length-set}
use Rattle.format.proofs.Rules.{turning, looping}
use Rattle.song.specs.Setup.{no_directions, next_direction, nineteen}
use Rattle.song.proofs.setup.nineteen_at.Goals as goal

pub loop-i-init : goal.loop-i-init
unfolding no_directions next_direction nineteen
loop-i-init c =
    (search rules, search rules, search turning)

pub returns-in_err-bar : goal.returns-in_err-bar
unfolding no_directions next_direction nineteen
returns-in_err-bar c =
    search looping

pub loop-i-preserved : goal.loop-i-preserved
unfolding no_directions next_direction nineteen
loop-i-preserved c =
    (search rules, search (rules, length-set), rw c.bar_number.ensures (search looping))

pub returns : goal.returns
unfolding no_directions next_direction nineteen
returns c =
    search looping
