-- What is left to compare decides as the whole does.
use Prim.Native.Nat.{◌≤◌, ◌-◌}
use mathlib.Core.Path.{◌≡◌}
use lib.ListN.{take, drop}
use Rattle.song.specs.Version.{PREFIX, starts}
use Rattle.song.proofs.version.starts_with.Given as goal

abbrev pub invariant-loop-i : goal.invariant-loop-i
invariant-loop-i l = (l.i ≤ l.n) × (starts (take l.n PREFIX) l.t ≡ starts (drop l.i (take l.n PREFIX)) (drop l.i l.t))

abbrev pub decreases-loop-i : goal.decreases-loop-i
decreases-loop-i l = l.n - l.i
