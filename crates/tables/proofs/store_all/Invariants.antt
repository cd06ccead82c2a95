-- Word by word.
use mathlib.Core.Path.{◌≡◌}
use Prim.Native.Nat.{◌+◌}
use lib.ListN.{drop}
use lib.Seq.{sets}
use Rattle.tables.proofs.store_all.Given as goal

abbrev pub invariant-loop-j : goal.invariant-loop-j
invariant-loop-j g l = sets l.t (l.at + l.j) (drop l.j l.w) ≡ sets l.initial.t l.at l.w
