-- All of them, or none.
use mathlib.Core.Path.{refl}
use native.Mathlib.Omega.{arith}
use Rattle.bin.proofs.Numbers.{four_short, four_there}
use Rattle.bin.proofs.ahead.four_bytes.Goals as goal

pub returns-then-left-lt4 : goal.returns-then-left-lt4
returns-then-left-lt4 c =
    record { number = four_short _ (omega arith); short = λ _. refl }

pub returns : goal.returns
returns c =
    record { number = four_there (omega arith) c.little32.ensures; short = λ l. let z : ⊥ = omega arith in absurd z }
