-- Beat by beat.
use mathlib.Core.Path.{◌≡◌}
use mathlib.Core.Bool.{false}
use Rattle.score.specs.File.{one_beat}
use Rattle.enter.specs.Pages.{over, SamePage}
use Rattle.walk.specs.Entering.{entering}
use Rattle.walk.proofs.Held.{Holding}
use Rattle.walk.proofs.held_beats.Given as goal

abbrev pub invariant-loop : goal.invariant-loop
invariant-loop l =
    SamePage l.initial.page l.page ×
    (l.page.parts.now ≡ l.initial.page.parts.now) ×
    (l.held.board ≡ l.initial.held.board) ×
    Holding l.n (one_beat (entering false l.s) l.v l.place.bar l.place.track l.place.voice) l.s l.place.track l.place.voice l.initial.held.board
    l.initial.at l.initial.held.memory l.initial.held.running (λ parts. over parts l.initial.page)
    l.counter l.at l.held.memory l.held.running (λ parts. over parts l.page)
