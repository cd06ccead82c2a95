-- One text after another.
use Rattle.format.proofs.Rules.{returning}
use Rattle.song.specs.Info.{names}
use Rattle.song.proofs.info.names_at.Goals as goal

pub returns-in_err-title : goal.returns-in_err-title
unfolding names
returns-in_err-title c =
    search returning depth 8 fits 4000

pub returns-in_err-subtitle : goal.returns-in_err-subtitle
unfolding names
returns-in_err-subtitle c =
    search returning depth 8 fits 4000

pub returns-in_err-artist : goal.returns-in_err-artist
unfolding names
returns-in_err-artist c =
    search returning depth 8 fits 4000

pub returns-in_err-at : goal.returns-in_err-at
unfolding names
returns-in_err-at c =
    search returning depth 8 fits 4000

pub returns : goal.returns
unfolding names
returns c =
    search returning depth 8 fits 4000
