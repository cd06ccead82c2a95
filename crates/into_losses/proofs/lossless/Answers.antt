-- By its effects and its fingers.
use Rattle.into_losses.proofs.Counting.{no_losses_lem}
use Rattle.into_losses.proofs.lossless.Goals as goal

pub returns : goal.returns
returns c =
    λ v e. let x = c.effects in
    no_losses_lem c.args.string x.result c.fingered.result (x.ensures.none v) c.fingered.ensures e
