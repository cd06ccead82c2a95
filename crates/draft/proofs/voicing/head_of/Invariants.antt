-- Note by note.
use Prim.Native.Nat.{ℕ}
use mathlib.Core.List.{List}
use mathlib.Core.Path.{◌≡◌}
use lib.ListN.{drop}
use Rattle.draft.specs.Chord.{chord_in}
use Rattle.score.specs.Rows.{row_head}
use Rattle.draft.proofs.voicing.head_of.Given as goal

abbrev pub invariant-loop-struck : goal.invariant-loop-struck
invariant-loop-struck l = (s : List ℕ) (v : ℕ) → row_head (chord_in s v l.notes (drop l.struck-index l.chord)) ≡ row_head (chord_in s v l.notes l.chord)
