-- Two counts, and then the tests.
use Rattle.format.proofs.Rules.{returning}
use Rattle.header.specs.Header.{not_empty, counts}
use Rattle.header.proofs.counts_at.Goals as goal

pub returns-in_err-bars : goal.returns-in_err-bars
unfolding not_empty counts
returns-in_err-bars c =
    search returning depth 8 fits 4000

pub returns-in_err-tracks : goal.returns-in_err-tracks
unfolding not_empty counts
returns-in_err-tracks c =
    search returning depth 8 fits 4000

pub returns-then-bars-eq0 : goal.returns-then-bars-eq0
unfolding not_empty counts
returns-then-bars-eq0 c =
    search returning depth 8 fits 4000

pub returns-then-tracks-eq0 : goal.returns-then-tracks-eq0
unfolding not_empty counts
returns-then-tracks-eq0 c =
    search returning depth 8 fits 4000

pub returns : goal.returns
unfolding not_empty counts
returns c =
    search returning depth 8 fits 4000
