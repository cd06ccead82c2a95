-- One after another.
use Rattle.format.specs.Prog.{has}
use Rattle.score.specs.Losses.{reading_losses}
use Rattle.words.proofs.Reports.{reports_append}
use Rattle.into_losses.proofs.reading_losses.Goals as goal

pub returns : goal.returns
unfolding reading_losses has
returns c =
    λ s. rw (c.notes_losses.ensures s, c.strings.ensures, c.mix_losses.ensures, c.effect_losses.ensures, c.lose_if.ensures, c.flags.ensures) (simp reports_append)
