-- Note after note.
use Rattle.note.proofs.Hop.{Hopping}
use Rattle.note.proofs.notes.hop_notes.Given as goal

abbrev pub invariant-loop : goal.invariant-loop
invariant-loop l = Hopping l.s l.from l.v l.strings l.at l.counter
