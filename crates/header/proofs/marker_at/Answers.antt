-- The marker, where it stands.
use Rattle.format.proofs.Rules.{returning}
use Rattle.format.proofs.Text.{no_words}
use Rattle.header.specs.Header.{marker}
use Rattle.header.proofs.marker_at.Goals as goal

pub returns-then-flags-eq0 : goal.returns-then-flags-eq0
unfolding marker
returns-then-flags-eq0 c =
    search (returning, no_words)

pub returns-in_err-name : goal.returns-in_err-name
unfolding marker
returns-in_err-name c =
    search returning depth 8 fits 4000

pub returns-in_err-at : goal.returns-in_err-at
unfolding marker
returns-in_err-at c =
    search returning depth 8 fits 4000

pub returns : goal.returns
unfolding marker
returns c =
    search returning depth 8 fits 4000
