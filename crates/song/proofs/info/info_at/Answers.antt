-- One part after another.
use Rattle.format.proofs.Rules.{returning}
use Rattle.song.specs.Info.{info}
use Rattle.song.proofs.info.info_at.Goals as goal

pub returns-in_err-names : goal.returns-in_err-names
unfolding info
returns-in_err-names c =
    search returning depth 8 fits 4000

pub returns-in_err-info : goal.returns-in_err-info
unfolding info
returns-in_err-info c =
    search returning depth 8 fits 4000

pub returns-in_err-at : goal.returns-in_err-at
unfolding info
returns-in_err-at c =
    search returning depth 8 fits 4000

pub returns : goal.returns
unfolding info
returns c =
    search returning depth 8 fits 4000
