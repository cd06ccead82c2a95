-- One look back after the other, then the entry.
use Rattle.words.specs.Voices.{voice_in}
use Rattle.into_rows.proofs.Drawing.{row_added}
use Rattle.into_rows.proofs.rows.add_row.Goals as goal

pub returns : goal.returns
returns c =
    λ ms ps sums bends. let was = c.run-run.ensures in
    let a = c.args in
    row_added ms ps a.draft a.kept (voice_in a.voice.now).hammer (voice_in a.voice.now).run a.rows.now
    (rw c.hammer.ensures at (c.turn_hammer.ensures ms ps sums)) (rw was at c.turn_run.ensures) (rw was at c.ottava_marks.ensures)
    (c.row_entry-row.ensures ms ps sums bends) c.store.ensures
