-- Field by field.
use Rattle.curve.specs.Bend.{finish}
use Rattle.note.specs.Points.{points_at}
use Rattle.score.specs.Rows.{rest_row}
use Rattle.draft.proofs.rows.rest_row.Goals as goal

pub returns : goal.returns
unfolding rest_row points_at finish
returns c =
    λ s v w. rw (
      c.value_of.ensures s v w,
      c.range.ensures,
      c.chord.ensures,
      c.ottava.ensures,
    )
