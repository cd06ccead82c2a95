-- Note by note.
use Prim.Native.Nat.{ℕ}
use mathlib.Core.List.{List}
use mathlib.Core.Path.{◌≡◌}
use lib.ListN.{drop}
use Rattle.draft.specs.Chord.{chord_in}
use Rattle.score.specs.Members.{graces}
use Rattle.draft.specs.Steps.{graces_of}
use Rattle.draft.proofs.Steps.{graces_after}
use Rattle.draft.proofs.graces.graces_of.Given as goal

abbrev pub invariant-loop-struck : goal.invariant-loop-struck
invariant-loop-struck l = (s : List ℕ) (v : ℕ) → graces_after l.x (graces (chord_in s v l.notes (drop l.struck-index l.chord))) ≡ graces_of (graces (chord_in s v l.notes l.chord))
