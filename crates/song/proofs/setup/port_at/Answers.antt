-- What is left of the channels.
use borrow.Author.Rules.{rules}
use lib.ListN.{length-set}
use Rattle.format.proofs.Rules.{turning, looping}
use Rattle.song.specs.Setup.{no_port, next_channel, port}
use Rattle.song.proofs.setup.port_at.Goals as goal

pub loop-i-init : goal.loop-i-init
unfolding no_port next_channel port
loop-i-init c =
    (search rules, search rules, search turning)

pub returns-in_err-program : goal.returns-in_err-program
unfolding no_port next_channel port
returns-in_err-program c =
    search looping

pub loop-i-preserved : goal.loop-i-preserved
unfolding no_port next_channel port
loop-i-preserved c =
    (search rules, search (rules, length-set), search looping)

pub returns : goal.returns
unfolding no_port next_channel port
returns c =
    search looping
