-- By what stands at the point and around it.
use native.Mathlib.Omega.{arith}
use Rattle.format.proofs.Rules.{said_no, said_yes}
use Rattle.song.proofs.Digits.{not_short, no_byte, no_point, no_minor, readable}
use Rattle.song.proofs.version.number_at.Goals as goal

pub returns-then-not-is_short : goal.returns-then-not-is_short
returns-then-not-is_short c =
    not_short _ (said_no _ c.is_short.ensures c.if-not-is_short.true-raw)

pub returns-then-t-point : goal.returns-then-t-point
returns-then-t-point c =
    no_byte _ _ _ c.digits_end-point.ensures (said_yes _ c.is_short.ensures c.if-not-is_short.false-raw) c.if-t-point.true

pub returns-then-t-point-ne46 : goal.returns-then-t-point-ne46
returns-then-t-point-ne46 c =
    no_point _ _ _ c.digits_end-point.ensures (said_yes _ c.is_short.ensures c.if-not-is_short.false-raw) c.if-t-point-ne46.true

pub returns-then-not-is_short-2 : goal.returns-then-not-is_short-2
returns-then-not-is_short-2 c =
    no_minor _ _ _ c.digits_end-point.ensures (said_yes _ c.is_short.ensures c.if-not-is_short.false-raw) c.if-t-point-ne46.false (said_no _ c.is_short-2.ensures c.if-not-is_short-2.true-raw)

pub overflow_mul-result : goal.overflow_mul-result
overflow_mul-result c =
    omega (arith, c.digits_value.ensures)

pub overflow_add-result : goal.overflow_add-result
overflow_add-result c =
    omega (arith, c.digits_value.ensures, c.digits_value-2.ensures)

pub returns : goal.returns
returns c =
    readable _ _ _ c.digits_end-point.ensures (said_yes _ c.is_short.ensures c.if-not-is_short.false-raw) _ _ c.if-t-point-ne46.false (said_yes _ c.is_short-2.ensures c.if-not-is_short-2.false-raw) c.digits_value.ensures c.digits_value-2.ensures
