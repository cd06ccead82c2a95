-- Character by character.
use Prim.Native.Nat.{◌+◌, ◌≤◌}
use mathlib.Core.Path.{◌≡◌}
use lib.ListN.{length, drop}
use lib.Seq.{sets}
use Rattle.utf8.specs.Characters.{written}
use Rattle.utf8.proofs.text.write.Given as goal

abbrev pub invariant-loop-byte : goal.invariant-loop-byte
invariant-loop-byte l = (l.at + length (written (drop l.byte-index l.text)) ≤ length l.initial.out)
    × (sets l.out l.at (written (drop l.byte-index l.text)) ≡ sets l.initial.out 0 (written l.text))
