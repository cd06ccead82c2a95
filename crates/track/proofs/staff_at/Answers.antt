-- One field after another, where they stand.
use Rattle.format.proofs.Rules.{returning, coming, read_exit, next, later, come_le}
use Rattle.track.specs.Track.{staff}
use Rattle.track.proofs.staff_at.Goals as goal

pub returns-then-v-lt500 : goal.returns-then-v-lt500
unfolding staff
returns-then-v-lt500 c =
    search returning depth 10 fits 8000

pub returns-in_err-flags : goal.returns-in_err-flags
unfolding staff
returns-in_err-flags c =
    search returning depth 10 fits 8000

pub returns-in_err-clef : goal.returns-in_err-clef
unfolding staff
returns-in_err-clef c =
    search returning depth 10 fits 8000

pub returns-in_err-at : goal.returns-in_err-at
unfolding staff
returns-in_err-at c =
    read_exit c.branch-at.ensures c.in_err-at.is c.from_residual-in_err-at.ensures (come_le _ _ _ _ c.if-v-lt500.false (next _ c.in_ok-flags.ensures (later _ c.skip_at.ensures (next _ c.in_ok-clef.ensures (later _ c.skip_at-2.ensures (search coming))))))

pub returns : goal.returns
unfolding staff
returns c =
    search returning depth 10 fits 8000
