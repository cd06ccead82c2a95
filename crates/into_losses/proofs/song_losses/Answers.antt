-- One after another.
use Rattle.words.proofs.Reports.{reports_append}
use Rattle.into_losses.proofs.song_losses.Goals as goal

pub returns : goal.returns
returns c =
    rw (c.sign_losses.ensures, c.report_if.ensures) (simp reports_append)
