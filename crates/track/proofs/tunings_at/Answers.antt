-- What is left of the tunings.
use borrow.Author.Rules.{rules}
use lib.ListN.{length-set}
use Rattle.format.proofs.Rules.{turning, looping}
use Rattle.track.specs.Track.{no_tunings, next_tuning, tunings}
use Rattle.track.proofs.tunings_at.Goals as goal

pub loop-i-init : goal.loop-i-init
unfolding no_tunings next_tuning tunings
loop-i-init c =
    (search rules, search rules, search turning)

pub returns-in_err-word : goal.returns-in_err-word
unfolding no_tunings next_tuning tunings
returns-in_err-word c =
    search looping

pub loop-i-preserved : goal.loop-i-preserved
unfolding no_tunings next_tuning tunings
loop-i-preserved c =
    (search rules, search (rules, length-set), rw c.tuning_of.ensures (search looping))

pub returns : goal.returns
unfolding no_tunings next_tuning tunings
returns c =
    search looping
