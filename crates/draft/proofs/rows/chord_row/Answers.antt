-- Field by field.
use Rattle.score.specs.Rows.{chord_row}
use Rattle.draft.proofs.Steps.{marks_counted}
use Rattle.draft.proofs.rows.chord_row.Goals as goal

pub returns : goal.returns
unfolding chord_row
returns c =
    λ s board flat. let a = c.args in
    let v = c.voicing_of-voiced.ensures in
    rw (
      c.value_of.ensures s a.v a.notes.now,
      c.range.ensures,
      c.chord.ensures,
      c.ottava.ensures,
      c.head_of.ensures s a.v,
      c.brush.ensures,
      c.level_of.ensures s a.v,
      c.listed.ensures,
      v.marks s,
      marks_counted,
      ← v.played s,
    )
