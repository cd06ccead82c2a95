-- One field after another.
use Rattle.format.proofs.Rules.{returning}
use Rattle.note.specs.Points.{whammy}
use Rattle.note.proofs.bend.skip_bend.Goals as goal

pub returns-in_err-count : goal.returns-in_err-count
unfolding whammy
returns-in_err-count c =
    search returning depth 8 fits 4000

pub returns : goal.returns
unfolding whammy
returns c =
    search returning depth 8 fits 4000
