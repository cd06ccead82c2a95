-- By the version.
use Rattle.format.proofs.Rules.{returning}
use Rattle.score.specs.File.{voices}
use Rattle.walk.proofs.voices_at.Goals as goal

pub returns-in_err-from : goal.returns-in_err-from
unfolding voices
returns-in_err-from c =
    search returning depth 8 fits 4000

pub returns-then-v-lt500 : goal.returns-then-v-lt500
unfolding voices
returns-then-v-lt500 c =
    search returning depth 8 fits 4000

pub returns-in_err-at : goal.returns-in_err-at
unfolding voices
returns-in_err-at c =
    search returning depth 8 fits 4000

pub returns : goal.returns
unfolding voices
returns c =
    search returning depth 8 fits 4000
