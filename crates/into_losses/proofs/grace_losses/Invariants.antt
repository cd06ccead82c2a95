-- What is left of the chord.
use Prim.Native.Nat.{ℕ}
use mathlib.Core.Path.{◌≡◌}
use mathlib.Core.List.{List}
use lib.ListN.{drop}
use Rattle.score.specs.Members.{graces}
use Rattle.score.specs.Losses.{grace_losses}
use Rattle.draft.specs.Chord.{chord_in}
use Rattle.words.specs.Reports.{reports}
use Rattle.into_losses.proofs.grace_losses.Given as goal

abbrev pub invariant-loop-struck : goal.invariant-loop-struck
invariant-loop-struck l = ((s : List ℕ) (v : ℕ) → reports (grace_losses (graces (chord_in s v l.notes (drop l.struck-index l.chord)))) l.losses ≡ reports (grace_losses (graces (chord_in s v l.notes l.chord))) l.initial.losses)
