-- Note by note.
use Prim.Native.Nat.{ℕ}
use mathlib.Core.List.{List}
use mathlib.Core.Path.{◌≡◌}
use lib.ListN.{drop}
use Rattle.curve.specs.Level.{chord_of}
use Rattle.score.specs.Rows.{levels}
use Rattle.draft.specs.Chord.{chord_in}
use Rattle.draft.proofs.Walks.{levels_after}
use Rattle.draft.proofs.voicing.levels_of.Given as goal

abbrev pub invariant-loop-struck : goal.invariant-loop-struck
invariant-loop-struck l = (s : List ℕ) (v : ℕ) → levels_after l.emphasised l.given (levels (chord_in s v l.notes (drop l.struck-index l.chord))) ≡ chord_of (levels (chord_in s v l.notes l.chord))
