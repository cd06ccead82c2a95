-- Beam grouping, where it stands.
use Rattle.format.proofs.Rules.{returning}
use Rattle.header.specs.Header.{beams}
use Rattle.header.proofs.beams_at.Goals as goal

pub returns-then-flags-eq0 : goal.returns-then-flags-eq0
unfolding beams
returns-then-flags-eq0 c =
    search returning

pub returns : goal.returns
unfolding beams
returns c =
    search returning
