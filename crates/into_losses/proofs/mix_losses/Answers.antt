-- One after another.
use Rattle.words.proofs.Reports.{reports_append}
use Rattle.into_losses.proofs.mix_losses.Goals as goal

pub returns : goal.returns
returns c =
    rw (c.lose_if-2.ensures, c.change_lost.ensures, c.lose_if.ensures, c.wah_lost.ensures) (simp reports_append)
