-- Table by table.
use Rattle.note.specs.Points.{bend_in}
use Rattle.score.specs.Rows.{curve_of}
use Rattle.words.specs.Voices.{voice_in}
use Rattle.into_rows.proofs.Rowing.{bends_by, row_kept}
use Rattle.into_rows.proofs.keep.RowTables.keep_row.Goals as goal

pub returns-clause-row : goal.returns-clause-row
returns-clause-row c =
    λ ms members sums. let a = c.args in let t = a.self.now in
    let its = curve_of (bend_in a.s.now a.draft.bend) in
    let bent = c.add_curve-bent.ensures.bent in
    row_kept a.s.now t.kept (voice_in a.voice.now) t.rows.now members t.points.now ms a.draft a.company sums
    bent c.add_curve-bent.ensures.points (c.add_row.ensures ms its sums (bends_by its bent))
    c.kept_after-self.ensures (c.turn_voice.ensures ms its sums)
