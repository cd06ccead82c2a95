-- By the three cases.
use mathlib.Core.Path.{sym}
use Rattle.utf8.proofs.Front.{encoded_one, encoded_two, encoded_three}
use Rattle.utf8.proofs.characters.encoded_of.Goals as goal

pub returns-then-code-lt128 : goal.returns-then-code-lt128
returns-then-code-lt128 c =
    sym (encoded_one _ c.if-code-lt128.true)

pub returns-then-code-lt2048 : goal.returns-then-code-lt2048
returns-then-code-lt2048 c =
    sym (encoded_two _ c.if-code-lt128.false c.if-code-lt2048.true)

pub returns : goal.returns
returns c =
    sym (encoded_three _ c.if-code-lt2048.false)
