-- What is left of the tunings.
use Prim.Native.Nat.{◌≤◌, ◌-◌}
use mathlib.Core.Path.{◌≡◌}
use lib.ListN.{length}
use Rattle.std.specs.Prelude.{Ok}
use Rattle.format.specs.Prog.{turns}
use Rattle.format.specs.Place.{Leads}
use Rattle.track.specs.Track.{next_tuning, tunings}
use Rattle.track.proofs.tunings_at.Given as goal

abbrev pub invariant-loop-i : goal.invariant-loop-i
invariant-loop-i l = (l.i ≤ l.n) × (length l.keys ≡ 7) × Leads (tunings l.n) l.s (Ok l.initial.at) (turns (l.n - l.i) l.i next_tuning l.keys) (Ok l.at)

abbrev pub decreases-loop-i : goal.decreases-loop-i
decreases-loop-i l = l.n - l.i
