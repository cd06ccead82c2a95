-- One after another.
use Rattle.words.proofs.Reports.{reports_append}
use Rattle.into_losses.proofs.effect_losses.Goals as goal

pub returns : goal.returns
returns c =
    let v = c.args.v in
    rw (c.lose_if-4.ensures, c.whammy_lost.ensures, c.lose_if-3.ensures, c.tapping_lost.ensures v, c.lose_if-2.ensures, c.rasgueado_lost.ensures v, c.lose_if.ensures, c.swell_lost.ensures v) (simp reports_append)
