-- None, or one after another.
use Rattle.words.proofs.Reports.{reports_none, reports_append}
use Rattle.into_losses.proofs.note_losses.Goals as goal

pub returns-then-lossless : goal.returns-then-lossless
returns-then-lossless c =
    rw ((c.lossless.ensures c.args.v c.if-lossless.true).reading, reports_none)

pub returns : goal.returns
returns c =
    let v = c.args.v in
    rw (c.lose_if-3.ensures, c.harmonic_lost.ensures v, c.lose_if-2.ensures, c.lose_if.ensures, c.right_hand_lost.ensures v, c.slide-slide.ensures) (simp reports_append)
