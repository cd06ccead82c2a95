-- One field after another.
use Rattle.format.proofs.Rules.{returning}
use Rattle.format.specs.Fields.{int_string}
use Rattle.bin.proofs.string.int_string.Goals as goal

pub returns-in_err-n : goal.returns-in_err-n
unfolding int_string
returns-in_err-n c =
    search returning

pub returns : goal.returns
unfolding int_string
returns c =
    search returning depth 8
