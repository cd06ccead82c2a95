-- What is left of the chord.
use Prim.Native.Nat.{ℕ}
use mathlib.Core.Path.{◌≡◌}
use mathlib.Core.List.{List}
use lib.ListN.{drop}
use Rattle.score.specs.Losses.{member_losses}
use Rattle.draft.specs.Chord.{chord_in}
use Rattle.words.specs.Reports.{reports}
use Rattle.into_losses.proofs.member_losses.Given as goal

abbrev pub invariant-loop-struck : goal.invariant-loop-struck
invariant-loop-struck l = ((s : List ℕ) (v : ℕ) → reports (member_losses (chord_in s v l.notes (drop l.struck-index l.chord))) l.losses ≡ reports (member_losses (chord_in s v l.notes l.chord)) l.initial.losses)
