-- One field after another.
use Rattle.format.proofs.Rules.{returning}
use Rattle.song.specs.Setup.{tempo}
use Rattle.song.proofs.setup.tempo_at.Goals as goal

pub returns-in_err-tempo : goal.returns-in_err-tempo
unfolding tempo
returns-in_err-tempo c =
    search returning depth 8 fits 4000

pub returns-in_err-at : goal.returns-in_err-at
unfolding tempo
returns-in_err-at c =
    search returning depth 8 fits 4000

pub returns : goal.returns
unfolding tempo
returns c =
    rw c.tempo_from.ensures (search returning depth 8 fits 4000)
