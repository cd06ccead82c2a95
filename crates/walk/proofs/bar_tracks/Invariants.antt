-- Track by track.
use Prim.Native.Nat.{◌-◌}
use Rattle.format.specs.Prog.{turns}
use Rattle.format.specs.Place.{Leads}
use Rattle.score.specs.File.{bar_track}
use Rattle.enter.specs.Pages.{walked, SamePage}
use Rattle.walk.specs.Entering.{entering}
use Rattle.walk.proofs.bar_tracks.Given as goal

abbrev pub invariant-loop-track : goal.invariant-loop-track
invariant-loop-track g l =
    SamePage l.initial.page l.page ×
    Leads (turns l.tracks 0 (bar_track (entering g.P.Pass.counting l.s) l.v l.bar) (walked l.initial.page)) l.s l.initial.at
    (turns (l.tracks - l.track) l.track (bar_track (entering g.P.Pass.counting l.s) l.v l.bar) (walked l.page)) l.at
