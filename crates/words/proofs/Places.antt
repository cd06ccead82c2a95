-- More ways from one place to another.
use Prim.Native.Nat.{ℕ}
use mathlib.Core.Path.{◌≡◌}
use mathlib.Core.List.{List}
use Rattle.format.specs.Prog.{ret}
use Rattle.format.specs.Place.{Place, Reaches}
use Rattle.format.proofs.Rules.{done}

-- the value is what the program returns
pub done_as : {A : Type 0} {a b : A} {s : List ℕ} {at : Place} → b ≡ a → Reaches (ret a) s at b at
done_as e = rw e done
