-- A number of four bytes, then judged; it stands at the place from which it is read.
use Rattle.format.specs.Count.{as_word}
use Rattle.format.proofs.Rules.{returning, read_exit}
use Rattle.format.proofs.Leaves.{over_negative, over_limit, not_over, count_read, count_refused, count_cut}
use Rattle.bin.proofs.count_at.Goals as goal

pub returns-in_err-offset : goal.returns-in_err-offset
returns-in_err-offset c =
    search returning

pub returns-in_err-v : goal.returns-in_err-v
returns-in_err-v c =
    read_exit c.branch-v.ensures c.in_err-v.is c.from_residual-in_err-v.ensures (count_cut _ c.in_ok-offset.was c.in_err-v.ensures)

pub returns-then-v-ge-NEGATIVE : goal.returns-then-v-ge-NEGATIVE
unfolding as_word
returns-then-v-ge-NEGATIVE c =
    count_refused _ c.in_ok-offset.was c.in_ok-v.ensures (over_negative _ _ c.if-v-ge-NEGATIVE.true)

pub returns-then-limit_of-v : goal.returns-then-limit_of-v
unfolding as_word
returns-then-limit_of-v c =
    let h = rw c.limit_of.ensures at c.if-limit_of-v.true in count_refused _ c.in_ok-offset.was c.in_ok-v.ensures (over_limit _ _ h)

pub returns : goal.returns
returns c =
    let h = rw c.limit_of.ensures at c.if-limit_of-v.false in count_read _ c.in_ok-offset.was c.in_ok-v.ensures (not_over _ _ c.if-v-ge-NEGATIVE.false h)
