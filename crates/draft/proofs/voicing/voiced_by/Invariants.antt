-- Note by note.
use Prim.Native.Nat.{ℕ}
use mathlib.Core.List.{List, ◌++◌}
use mathlib.Core.Path.{◌≡◌}
use lib.ListN.{drop}
use Rattle.draft.specs.Chord.{chord_in}
use Rattle.model.specs.Marks.{added_in, packed}
use Rattle.beat.specs.Words.{effects_in}
use Rattle.score.specs.Rows as rule
use Rattle.draft.specs.Steps.{played_in, add_marks}
use Rattle.draft.proofs.voicing.voiced_by.Given as goal

abbrev pub invariant-loop-struck : goal.invariant-loop-struck
invariant-loop-struck l = ((s : List ℕ) → rule.played (played_in s l.played) (chord_in s l.v l.notes (drop l.struck-index l.chord)) ≡ rule.played rule.no_play (chord_in s l.v l.notes l.chord))
    × ((s : List ℕ) → add_marks (added_in l.m) (rule.marks_of_notes (effects_in l.v l.b) (chord_in s l.v l.notes (drop l.struck-index l.chord)) ++ rule.beat_marks (effects_in l.v l.b))
    ≡ packed (rule.row_articulations (effects_in l.v l.b) (chord_in s l.v l.notes l.chord)))
