-- The byte, where it stands.
use Rattle.format.proofs.Rules.{returning}
use Rattle.header.proofs.byte_where.Goals as goal

pub returns-then-flags-mask-eq0 : goal.returns-then-flags-mask-eq0
returns-then-flags-mask-eq0 c =
    search returning

pub returns : goal.returns
returns c =
    search returning
