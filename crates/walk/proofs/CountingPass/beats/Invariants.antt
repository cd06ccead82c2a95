-- Beat by beat.
use Prim.Native.Nat.{◌-◌}
use mathlib.Core.Bool.{true}
use Rattle.format.specs.Prog.{turns}
use Rattle.format.specs.Place.{Leads}
use Rattle.score.specs.File.{one_beat}
use Rattle.enter.specs.Pages.{walked, SamePage}
use Rattle.walk.specs.Entering.{entering}
use Rattle.walk.proofs.CountingPass.beats.Given as goal

abbrev pub invariant-loop : goal.invariant-loop
invariant-loop l =
    SamePage l.initial.page l.page ×
    Leads (turns l.n 0 (one_beat (entering true l.s) l.v l.place.bar l.place.track l.place.voice) (walked l.initial.page)) l.s l.initial.at
    (turns (l.n - l.counter) l.counter (one_beat (entering true l.s) l.v l.place.bar l.place.track l.place.voice) (walked l.page)) l.at
