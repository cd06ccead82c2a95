-- The test of a length, then the text.
use Rattle.format.proofs.Rules.{returning}
use Rattle.format.specs.Fields.{string_of}
use Rattle.bin.proofs.string.string_at.Goals as goal

pub returns-in_err-at : goal.returns-in_err-at
unfolding string_of
returns-in_err-at c =
    search returning

pub returns-then-n-le-MAX_STRING : goal.returns-then-n-le-MAX_STRING
unfolding string_of
returns-then-n-le-MAX_STRING c =
    search returning

pub returns : goal.returns
unfolding string_of
returns c =
    search returning
