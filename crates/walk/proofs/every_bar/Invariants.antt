-- Bar by bar.
use Prim.Native.Nat.{◌-◌}
use Rattle.format.specs.Prog.{turns}
use Rattle.format.specs.Place.{Leads}
use Rattle.score.specs.File.{bar}
use Rattle.enter.specs.Pages.{walked, SamePage}
use Rattle.walk.specs.Entering.{entering}
use Rattle.walk.proofs.every_bar.Given as goal

abbrev pub invariant-loop-bar : goal.invariant-loop-bar
invariant-loop-bar g l =
    SamePage l.initial.page l.page ×
    Leads (turns l.n 0 (bar (entering g.P.Pass.counting l.s) l.v l.tracks) (walked l.initial.page)) l.s l.initial.at
    (turns (l.n - l.bar) l.bar (bar (entering g.P.Pass.counting l.s) l.v l.tracks) (walked l.page)) l.at
