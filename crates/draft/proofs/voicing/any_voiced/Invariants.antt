-- Note by note.
use Prim.Native.Nat.{ℕ}
use mathlib.Core.List.{List}
use lib.ListN.{drop}
use Rattle.draft.specs.Chord.{chord_in}
use Rattle.draft.specs.Steps.{Quiet}
use Rattle.draft.proofs.voicing.any_voiced.Given as goal

abbrev pub invariant-loop-struck : goal.invariant-loop-struck
invariant-loop-struck l = (s : List ℕ) (v : ℕ) → Quiet (chord_in s v l.notes (drop l.struck-index l.chord)) → Quiet (chord_in s v l.notes l.chord)
