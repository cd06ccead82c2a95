-- What is left of the digits is as long as it was from the start.
use Rattle.format.proofs.Rules.{said}
use Rattle.song.proofs.Digits.{end_found, end_on, end_out}
use Rattle.song.proofs.version.digits_end.Goals as goal

pub returns-then-not-is_digit : goal.returns-then-not-is_digit
returns-then-not-is_digit c =
    search (end_found, said)

pub loop-i-preserved : goal.loop-i-preserved
loop-i-preserved c =
    search (end_on, said)

pub returns : goal.returns
returns c =
    search end_out
