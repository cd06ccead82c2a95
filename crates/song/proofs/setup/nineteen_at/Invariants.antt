-- What is left of the bar numbers.
use Prim.Native.Nat.{◌≤◌, ◌-◌}
use mathlib.Core.Path.{◌≡◌}
use lib.ListN.{length}
use Rattle.std.specs.Prelude.{Ok}
use Rattle.format.specs.Prog.{turns}
use Rattle.format.specs.Place.{Leads}
use Rattle.song.specs.Setup.{next_direction, nineteen}
use Rattle.song.proofs.setup.nineteen_at.Given as goal

abbrev pub invariant-loop-i : goal.invariant-loop-i
invariant-loop-i l = (l.i ≤ 19) × (length l.bars ≡ 19) × Leads nineteen l.s (Ok l.initial.at) (turns (19 - l.i) l.i next_direction l.bars) (Ok l.at)

abbrev pub decreases-loop-i : goal.decreases-loop-i
decreases-loop-i l = 19 - l.i
