-- One sign after another.
use mathlib.Core.Path.{◌≡◌}
use lib.ListN.{drop}
use Rattle.model.specs.declared.Loss.TheVariants.{UnsupportedDirection}
use Rattle.score.specs.Bars.{unsupported, other_signs}
use Rattle.score.specs.Losses.{reported}
use Rattle.words.specs.Reports.{reports}
use Rattle.into_losses.proofs.Counting.{Numbered}
use Rattle.into_losses.proofs.sign_losses.Given as goal

abbrev pub invariant-loop-n : goal.invariant-loop-n
invariant-loop-n l = Numbered (drop l.n-index l.n-items)
    × (reports (reported (unsupported l.directions (drop l.n-index l.n-items)) UnsupportedDirection) l.losses
    ≡ reports (reported (unsupported l.directions other_signs) UnsupportedDirection) l.initial.losses)
