-- The notes that sound, and their row.
use native.Mathlib.Omega.{arith}
use Rattle.into_rows.proofs.Rowing.{first_notes}
use Rattle.into_rows.proofs.plain.keep_plain.Goals as goal

pub returns-clause-row : goal.returns-clause-row
returns-clause-row c =
    λ s v. let a = c.args in
    let notes = first_notes a.scratch.now.chord a.count (omega arith) c.size_of-size.ensures in
    rw notes at (c.keep_row.ensures.row s v)
