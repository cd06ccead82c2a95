-- String by string.
use Prim.Native.Nat.{◌%◌}
use mathlib.Core.Path.{◌≡◌}
use Rattle.note.specs.Words.{over_strings}
use Rattle.into_losses.proofs.Counting.{one_note}
use Rattle.into_losses.proofs.notes_losses.Given as goal

abbrev pub invariant-loop-string : goal.invariant-loop-string
invariant-loop-string l =
    over_strings (l.strings % 128) (one_note l.v l.notes) l.initial.losses ≡ over_strings l.string-iterator.left (one_note l.v l.notes) l.losses
