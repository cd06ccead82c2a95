-- One field after another, where they stand.
use Rattle.format.proofs.Rules.{returning}
use Rattle.header.specs.Header.{header_tail}
use Rattle.header.proofs.tail_at.Goals as goal

pub returns-then-v-lt500 : goal.returns-then-v-lt500
unfolding header_tail
returns-then-v-lt500 c =
    search returning depth 10 fits 4000

pub returns-in_err-mask : goal.returns-in_err-mask
unfolding header_tail
returns-in_err-mask c =
    search returning depth 10 fits 4000

pub returns-in_err-swing : goal.returns-in_err-swing
unfolding header_tail
returns-in_err-swing c =
    search returning depth 10 fits 4000

pub returns-in_err-at : goal.returns-in_err-at
unfolding header_tail
returns-in_err-at c =
    search returning depth 10 fits 4000

pub returns : goal.returns
unfolding header_tail
returns c =
    search returning depth 10 fits 4000
