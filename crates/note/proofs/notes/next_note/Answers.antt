-- A plain note, or any other.
use native.Mathlib.Omega.{arith}
use lib.ListN.{length}
use Rattle.note.proofs.Straight.{tested, fills_there}
use Rattle.note.proofs.notes.next_note.Goals as goal

pub plain_note-requires : goal.plain_note-requires
plain_note-requires c =
    let e = tested c.byte-flags.result (length c.args.s.now) c.args.at c.if-flags-s.true in (omega (arith, e.1, c.well_formed.0.1), c.requires.1, c.byte-flags.ensures, e.0)

pub returns-then-flags-s : goal.returns-then-flags-s
returns-then-flags-s c =
    let e = tested c.byte-flags.result (length c.args.s.now) c.args.at c.if-flags-s.true in fills_there (omega (arith, e.1, c.requires.0)) c.plain_note.ensures
