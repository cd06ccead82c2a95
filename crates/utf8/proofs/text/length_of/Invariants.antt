-- The bytes of the characters passed, and of those that are left.
use Prim.Native.Nat.{◌+◌, ◌≤◌}
use mathlib.Core.Path.{◌≡◌}
use lib.ListN.{length, drop}
use Rattle.utf8.specs.Characters.{written}
use Rattle.utf8.specs.Answers.{largest}
use Rattle.utf8.proofs.text.length_of.Given as goal

abbrev pub invariant-loop-byte : goal.invariant-loop-byte
invariant-loop-byte l = (l.n ≤ largest) × (l.n + length (written (drop l.byte-index l.text)) ≡ length (written l.text))
