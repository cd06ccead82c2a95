-- One field after another.
use Rattle.format.proofs.Rules.{returning}
use Rattle.format.specs.Fields.{int_byte_string_past}
use Rattle.bin.proofs.string.int_byte_string_past.Goals as goal

pub returns-in_err-size : goal.returns-in_err-size
unfolding int_byte_string_past
returns-in_err-size c =
    search returning

pub returns : goal.returns
unfolding int_byte_string_past
returns c =
    search (returning, ← c.less_one.ensures) depth 8
