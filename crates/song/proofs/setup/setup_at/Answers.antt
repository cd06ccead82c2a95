-- One part after another.
use Rattle.format.proofs.Rules.{returning}
use Rattle.song.specs.Setup.{setup}
use Rattle.song.proofs.setup.setup_at.Goals as goal

pub returns : goal.returns
unfolding setup
returns c =
    search returning depth 8 fits 4000
