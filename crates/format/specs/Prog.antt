-- A file format as a value: a program of reads, and what it is to run one.
use Rattle.std.specs.Prelude.{ℕ, zero, suc, ◌+◌, Bool, not, List, length, leb, eqb}
use Rattle.std.specs.Int.Bits.{bit_and}
use Rattle.format.specs.declared.Stop.{Stop}
use Rattle.format.specs.declared.Stop.TheVariants.{Ends, Text, Version, Empty}
use Rattle.format.specs.Text.{pick}
use Rattle.format.specs.Step.{Step, width, Handed, seen, Judged, fine, stops, judged}

-- why a program refuses a file by what it has read: a text's length, the version, no bars or no tracks
pub data Refusal : Type 0 where
  wrong_length wrong_version nothing_inside : Refusal

abbrev pub stop_of : Refusal → Stop
stop_of wrong_length = Text
stop_of wrong_version = Version
stop_of nothing_inside = Empty

-- A program of reads. It ends with its result (`ret`) or refuses the file (`refuse`); or it reads a step and goes on by what that hands on
pub data Prog (A : Type 0) : Type 0 where
  ret : A → Prog A
  refuse : Refusal → Prog A
  read : (k : Step) → (Handed k → Prog A) → Prog A

-- the result and where it ends, or why there is none
pub data Res (A : Type 0) : Type 0 where
  ok : A → ℕ → Res A
  stopped : Stop → Res A

-- what comes of reading on where what was read is fine
abbrev pub onward : {A : Type 0} → Judged → Res A → Res A
onward fine r = r
onward (stops x) r = stopped x

-- a program at a position of the file s: where its bytes are there they are judged, and reading goes on behind them
unfoldable pub run : {A : Type 0} → Prog A → List ℕ → ℕ → Res A
run (ret a) s at = ok a at
run (refuse r) s at = stopped (stop_of r)
run (read k f) s at =
    pick (leb (at + width k) (length s))
    (onward (judged k at (seen k s at)) (run (f (seen k s at)) s (at + width k)))
    (stopped Ends)

-- one program after another
unfoldable pub bind : {A B : Type 0} → Prog A → (A → Prog B) → Prog B
bind (ret a) f = f a
bind (refuse r) f = refuse r
bind (read k g) f = read k (λ v. bind (g v) f)

-- the same k times, from turn number i on, with a state that is handed on
unfoldable pub turns : {S : Type 0} → ℕ → ℕ → (ℕ → S → Prog S) → S → Prog S
turns zero i f st = ret st
turns (suc k) i f st = bind (f i st) (λ t. turns k (i + 1) f t)

-- the first where a is at most b, and else the second
unfoldable pub when_le : {A : Type 0} → ℕ → ℕ → Prog A → Prog A → Prog A
when_le a b p q = pick (leb a b) p q

unfoldable pub when_eq : {A : Type 0} → ℕ → ℕ → Prog A → Prog A → Prog A
when_eq a b p q = pick (eqb a b) p q

-- whether flags have a bit of the mask
unfoldable pub has : (flags mask : ℕ) → Bool
has flags mask = not (eqb (bit_and flags mask) 0)

-- the first where a has a bit of m, and else the second
unfoldable pub when_bits : {A : Type 0} → ℕ → ℕ → Prog A → Prog A → Prog A
when_bits a m p q = pick (eqb (bit_and a m) 0) q p
