-- Turn by turn.
use Prim.Native.Nat.{◌-◌}
use mathlib.Core.Path.{◌≡◌}
use lib.ListN.{length}
use Rattle.format.specs.Prog.{turns}
use Rattle.format.specs.Place.{Leads}
use Rattle.front.specs.Front.{timed_of, header_step}
use Rattle.front.proofs.headers.Given as goal

abbrev pub invariant-loop-bar : goal.invariant-loop-bar
invariant-loop-bar l =
    (length l.bars ≡ length l.initial.bars) ×
    Leads (turns l.n 0 (header_step l.v l.numbers) (timed_of l.initial.heads.time l.initial.bars l.initial.heads.before l.initial.heads.losses)) l.s l.initial.at
    (turns (l.n - l.bar) l.bar (header_step l.v l.numbers) (timed_of l.heads.time l.bars l.heads.before l.heads.losses)) l.at
