-- By the test.
use mathlib.Core.Path.{sym}
use Rattle.format.proofs.Padded.{place_there, place_gone}
use Rattle.bin.proofs.ahead.reached.Goals as goal

pub returns-then-s-at : goal.returns-then-s-at
returns-then-s-at c =
    sym (place_gone _ _ c.if-s-at.true)

pub returns : goal.returns
returns c =
    sym (place_there _ _ c.if-s-at.false)
