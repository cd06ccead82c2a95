-- All of them, or none.
use mathlib.Core.Path.{refl}
use native.Mathlib.Omega.{arith}
use Rattle.bin.proofs.Numbers.{two_short, two_there}
use Rattle.bin.proofs.ahead.two_bytes.Goals as goal

pub returns-then-left-lt2 : goal.returns-then-left-lt2
returns-then-left-lt2 c =
    record { number = two_short _ (omega arith); short = λ _. refl }

pub returns : goal.returns
returns c =
    record { number = two_there (omega arith) c.little16.ensures; short = λ l. let z : ⊥ = omega arith in absurd z }
