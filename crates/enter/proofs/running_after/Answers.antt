-- By whether the beat is kept.
use borrow.Author.Rules.{rules}
use mathlib.Core.Path.{ap, sym}
use lib.Seq.{length-take-le}
use Rattle.enter.proofs.running_after.Goals as goal

pub slice_bounds-level_of-end : goal.slice_bounds-level_of-end
slice_bounds-level_of-end c =
    sym (length-take-le _ _ (search rules))

pub returns-then-kept : goal.returns-then-kept
returns-then-kept c =
    λ s v. rw (sym c.kept.ensures, c.if-kept.true) (ap (λ r. r.running) (c.level_of-level.ensures s v))

pub returns : goal.returns
returns c =
    λ s v. rw (sym c.kept.ensures, c.if-kept.false)
