-- What is left of the digits makes the number that all of them make.
use borrow.Author.Rules.{rules}
use native.Mathlib.Omega.{arith}
use Rattle.format.proofs.Rules.{said, said_yes}
use Rattle.song.proofs.Digits.{digit_low, digit_high, value_found, value_on, value_over, value_out}
use Rattle.song.proofs.version.digits_value.Goals as goal

pub returns-then-not-is_digit : goal.returns-then-not-is_digit
returns-then-not-is_digit c =
    search (value_found, said)

pub overflow_sub-n : goal.overflow_sub-n
overflow_sub-n c =
    search (digit_low, said)

pub overflow_cast-n : goal.overflow_cast-n
overflow_cast-n c =
    record { fits = omega (arith, digit_high _ (said_yes _ c.is_digit.ensures c.if-not-is_digit.false-raw)) }

pub overflow_add-n : goal.overflow_add-n
overflow_add-n c =
    record { fits = omega (arith, digit_high _ (said_yes _ c.is_digit.ensures c.if-not-is_digit.false-raw)) }

pub returns-then-n-gt-MOST : goal.returns-then-n-gt-MOST
returns-then-n-gt-MOST c =
    search (value_over, said)

pub loop-i-preserved : goal.loop-i-preserved
loop-i-preserved c =
    (search rules, search (value_on, said))

pub returns : goal.returns
returns c =
    search value_out
