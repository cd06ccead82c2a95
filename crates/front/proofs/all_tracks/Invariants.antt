-- Turn by turn.
use Prim.Native.Nat.{◌-◌}
use mathlib.Core.Path.{◌≡◌}
use lib.ListN.{length}
use Rattle.format.specs.Prog.{turns}
use Rattle.format.specs.Place.{Leads}
use Rattle.words.specs.Heads.{staves_of}
use Rattle.front.specs.Front.{track_step}
use Rattle.front.proofs.all_tracks.Given as goal

abbrev pub invariant-loop-number : goal.invariant-loop-number
invariant-loop-number l =
    (length l.tracks ≡ length l.initial.tracks) × (length l.parts ≡ length l.initial.parts) ×
    Leads (turns l.n 0 (track_step l.v l.programs) (staves_of l.initial.tracks l.initial.parts l.initial.losses)) l.s l.initial.at
    (turns (l.n - l.number) l.number (track_step l.v l.programs) (staves_of l.tracks l.parts l.losses)) l.at
