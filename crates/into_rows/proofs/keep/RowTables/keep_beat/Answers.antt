-- A beat that is kept, and its sounding notes.
use mathlib.Core.Path.{refl, sym, ◌∙◌}
use borrow.Author.Tests.{not-true, not-false}
use Rattle.into_rows.proofs.Picked.{picked, passed}
use native.Mathlib.Omega.{arith}
use Rattle.into_rows.proofs.Rowing.{first_notes}
use Rattle.into_rows.proofs.keep.RowTables.keep_beat.Goals as goal

pub returns-then-not-kept-clause-beat : goal.returns-then-not-kept-clause-beat
returns-then-not-kept-clause-beat c =
    passed _ (sym c.kept.ensures ∙ not-true _ c.if-not-kept.true-raw) refl

pub returns-clause-beat : goal.returns-clause-beat
returns-clause-beat c =
    let a = c.args in
    let notes = first_notes a.scratch.now.chord a.count (omega arith) c.size_of.ensures in
    picked _ (sym c.kept.ensures ∙ not-false _ c.if-not-kept.false-raw) (rw notes at c.keep_rows.ensures.rows)
