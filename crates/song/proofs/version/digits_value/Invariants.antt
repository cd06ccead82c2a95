-- What is left of the digits makes the number that all of them make.
use Prim.Native.Nat.{◌-◌, ◌≤◌}
use mathlib.Core.Path.{◌≡◌}
use lib.ListN.{length, drop}
use Rattle.song.specs.Version.{digits_from}
use Rattle.song.proofs.version.digits_value.Given as goal

abbrev pub invariant-loop-i : goal.invariant-loop-i
invariant-loop-i l = (l.n ≤ 65535) × (digits_from l.n (drop l.i l.t) ≡ digits_from 0 (drop l.from l.t))

abbrev pub decreases-loop-i : goal.decreases-loop-i
decreases-loop-i l = length l.t - l.i
