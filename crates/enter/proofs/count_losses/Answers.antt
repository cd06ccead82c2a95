-- By the losses of the beat.
use borrow.Author.Rules.{rules}
use mathlib.Core.Path.{sym}
use lib.Seq.{length-take-le}
use Rattle.enter.proofs.count_losses.Goals as goal

pub slice_bounds-beat_losses-end : goal.slice_bounds-beat_losses-end
slice_bounds-beat_losses-end c =
    sym (length-take-le _ _ (search rules))
