-- A number, and what is passed over.
use Rattle.format.proofs.Rules.{returning}
use Rattle.song.specs.Setup.{channel}
use Rattle.song.proofs.setup.channel_at.Goals as goal

pub returns-in_err-program : goal.returns-in_err-program
unfolding channel
returns-in_err-program c =
    search returning depth 8 fits 4000

pub returns-in_err-at : goal.returns-in_err-at
unfolding channel
returns-in_err-at c =
    search returning depth 8 fits 4000

pub returns : goal.returns
unfolding channel
returns c =
    rw c.program_of.ensures (search returning depth 8 fits 4000)
