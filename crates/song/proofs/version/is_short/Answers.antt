-- By the two tests.
use native.Mathlib.Omega.{arith}
use Rattle.song.proofs.Digits.{short_none, short_some}
use Rattle.song.proofs.version.is_short.Goals as goal

pub returns-then-digits_end-from : goal.returns-then-digits_end-from
returns-then-digits_end-from c =
    short_none _ (omega (arith, c.digits_end.ensures))

pub returns : goal.returns
returns c =
    short_some _ _ (λ z. c.if-digits_end-from.false (omega (arith, c.digits_end.ensures))) c.digits_value.ensures
