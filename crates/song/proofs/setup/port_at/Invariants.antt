-- What is left of the channels.
use Prim.Native.Nat.{◌≤◌, ◌-◌}
use mathlib.Core.Path.{◌≡◌}
use lib.ListN.{length}
use Rattle.std.specs.Prelude.{Ok}
use Rattle.format.specs.Prog.{turns}
use Rattle.format.specs.Place.{Leads}
use Rattle.song.specs.Setup.{next_channel, port}
use Rattle.song.proofs.setup.port_at.Given as goal

abbrev pub invariant-loop-i : goal.invariant-loop-i
invariant-loop-i l = (l.i ≤ 16) × (length l.programs ≡ 16) × Leads port l.s (Ok l.initial.at) (turns (16 - l.i) l.i next_channel l.programs) (Ok l.at)

abbrev pub decreases-loop-i : goal.decreases-loop-i
decreases-loop-i l = 16 - l.i
