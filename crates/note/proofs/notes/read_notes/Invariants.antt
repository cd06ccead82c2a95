-- String by string.
use Rattle.note.proofs.Turns.{Going}
use Rattle.note.proofs.notes.read_notes.Given as goal

abbrev pub invariant-loop-i : goal.invariant-loop-i
invariant-loop-i l = Going l.s l.from l.v l.strings l.w l.at l.i-iterator.left
