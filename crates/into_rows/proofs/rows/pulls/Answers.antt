-- By the first member.
use Rattle.into_rows.proofs.Drawing.{pulled}
use Rattle.into_rows.proofs.rows.pulls.Goals as goal

pub returns : goal.returns
returns c =
    λ ms ps sums. let a = c.args in pulled ms ps a.draft a.company a.key sums
