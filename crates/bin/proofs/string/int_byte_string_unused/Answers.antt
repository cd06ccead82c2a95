-- One field after another.
use Rattle.format.proofs.Rules.{returning}
use Rattle.format.specs.Fields.{int_byte_string_unused}
use Rattle.bin.proofs.string.int_byte_string_unused.Goals as goal

pub returns-in_err-n : goal.returns-in_err-n
unfolding int_byte_string_unused
returns-in_err-n c =
    search returning

pub returns : goal.returns
unfolding int_byte_string_unused
returns c =
    search returning depth 8
