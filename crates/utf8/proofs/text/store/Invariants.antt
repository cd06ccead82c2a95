-- Byte by byte.
use mathlib.Core.Path.{◌≡◌}
use Prim.Native.Nat.{◌+◌}
use lib.ListN.{drop}
use lib.Seq.{sets}
use Rattle.utf8.proofs.text.store.Given as goal

abbrev pub invariant-loop-j : goal.invariant-loop-j
invariant-loop-j l = sets l.out (l.at + l.j) (drop l.j l.bytes) ≡ sets l.initial.out l.at l.bytes
