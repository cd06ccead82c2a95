-- The test of a length, then its bytes.
use Rattle.format.proofs.Rules.{returning}
use Rattle.format.specs.Fields.{string_past}
use Rattle.bin.proofs.string.string_past.Goals as goal

pub returns-in_err-at : goal.returns-in_err-at
unfolding string_past
returns-in_err-at c =
    search returning

pub returns-then-n-le-MAX_STRING : goal.returns-then-n-le-MAX_STRING
unfolding string_past
returns-then-n-le-MAX_STRING c =
    search returning

pub returns : goal.returns
unfolding string_past
returns c =
    search returning
