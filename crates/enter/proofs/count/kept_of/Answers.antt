-- By whether the beat is kept.
use mathlib.Core.Path.{sym}
use Rattle.enter.proofs.count.kept_of.Goals as goal

pub returns-then-kept : goal.returns-then-kept
returns-then-kept c =
    λ s v. let heard = c.heard_of.ensures in
    rw (sym c.kept.ensures, c.if-kept.true) (rw (heard.notes s v, heard.graces s v) at c.kept_with.ensures)

pub returns : goal.returns
returns c =
    λ s v. rw (sym c.kept.ensures, c.if-kept.false)
