-- Voice by voice.
use Prim.Native.Nat.{◌-◌}
use Rattle.format.specs.Prog.{turns}
use Rattle.format.specs.Place.{Leads}
use Rattle.score.specs.File.{voice}
use Rattle.enter.specs.Pages.{walked, SamePage}
use Rattle.walk.specs.Entering.{entering}
use Rattle.walk.proofs.voices.Given as goal

abbrev pub invariant-loop-voice : goal.invariant-loop-voice
invariant-loop-voice g l =
    SamePage l.initial.page l.page ×
    Leads (turns l.n 0 (voice (entering g.P.Pass.counting l.s) l.v l.bar l.track) (walked l.initial.page)) l.s l.initial.at
    (turns (l.n - l.voice) l.voice (voice (entering g.P.Pass.counting l.s) l.v l.bar l.track) (walked l.page)) l.at
