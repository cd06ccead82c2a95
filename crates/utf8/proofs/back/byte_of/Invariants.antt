-- What is left of the index gives the byte that all of it gives.
use Prim.Native.Nat.{◌≤◌}
use mathlib.Core.Path.{◌≡◌}
use lib.ListN.{drop}
use Rattle.utf8.specs.Characters.{index}
use Rattle.utf8.proofs.Front.{placed}
use Rattle.utf8.proofs.back.byte_of.Given as goal

abbrev pub invariant-loop-i : goal.invariant-loop-i
invariant-loop-i l = (256 ≤ l.code) × (placed l.code l.i (drop l.i index) ≡ placed l.code 0 index)
