-- The ending byte, where it stands.
use Rattle.format.proofs.Rules.{returning}
use Rattle.header.specs.Header.{ending_byte}
use Rattle.header.proofs.ending_at.Goals as goal

pub returns-then-v-ge500 : goal.returns-then-v-ge500
unfolding ending_byte
returns-then-v-ge500 c =
    search returning

pub returns : goal.returns
unfolding ending_byte
returns c =
    search returning
