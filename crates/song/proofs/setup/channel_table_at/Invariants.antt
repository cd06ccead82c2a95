-- What is left of the ports.
use Prim.Native.Nat.{◌≤◌, ◌-◌}
use mathlib.Core.Path.{◌≡◌}
use lib.ListN.{length}
use Rattle.std.specs.Prelude.{Ok}
use Rattle.format.specs.Prog.{turns}
use Rattle.format.specs.Place.{Leads}
use Rattle.song.specs.Setup.{next_port, channel_table}
use Rattle.song.proofs.setup.channel_table_at.Given as goal

abbrev pub invariant-loop-i : goal.invariant-loop-i
invariant-loop-i l = (l.i ≤ 4) × (length l.table ≡ 4) × Leads channel_table l.s (Ok l.initial.at) (turns (4 - l.i) l.i next_port l.table) (Ok l.at)

abbrev pub decreases-loop-i : goal.decreases-loop-i
decreases-loop-i l = 4 - l.i
