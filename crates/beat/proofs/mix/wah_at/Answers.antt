-- A byte, where there is one.
use Rattle.format.specs.Sign.{not_negative}
use Rattle.format.proofs.Rules.{returning}
use Rattle.beat.specs.Mix.{wah}
use Rattle.beat.proofs.mix.wah_at.Goals as goal

pub returns-in_err-at : goal.returns-in_err-at
unfolding wah not_negative
returns-in_err-at c =
    search returning depth 8 fits 4000

pub returns-then-v-lt500 : goal.returns-then-v-lt500
unfolding wah not_negative
returns-then-v-lt500 c =
    search returning depth 8 fits 4000

pub returns-in_err-b : goal.returns-in_err-b
unfolding wah not_negative
returns-in_err-b c = search returning depth 8 fits 4000

pub returns : goal.returns
unfolding wah not_negative
returns c = search returning depth 8 fits 4000
