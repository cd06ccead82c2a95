-- What is left of the ports.
use borrow.Author.Rules.{rules}
use lib.ListN.{length-set}
use Rattle.format.proofs.Rules.{turning, looping}
use Rattle.song.specs.Setup.{no_port, no_ports, next_port, channel_table}
use Rattle.song.proofs.setup.channel_table_at.Goals as goal

pub returns-in_err-at : goal.returns-in_err-at
unfolding no_port no_ports next_port channel_table
returns-in_err-at c =
    search looping

pub loop-i-init : goal.loop-i-init
unfolding no_port no_ports next_port channel_table
loop-i-init c =
    (search rules, search rules, search turning)

pub returns-in_err-row : goal.returns-in_err-row
unfolding no_port no_ports next_port channel_table
returns-in_err-row c =
    search looping

pub loop-i-preserved : goal.loop-i-preserved
unfolding no_port no_ports next_port channel_table
loop-i-preserved c =
    (search rules, search (rules, length-set), search looping)

pub returns : goal.returns
unfolding no_port no_ports next_port channel_table
returns c =
    search looping
