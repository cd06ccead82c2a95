-- One after another.
use Rattle.score.specs.Losses.{building_losses}
use Rattle.words.proofs.Reports.{reports_append}
use Rattle.into_losses.proofs.Counting.{chord_rest}
use Rattle.into_losses.proofs.building_losses.Goals as goal

pub returns : goal.returns
unfolding building_losses
returns c =
    λ s. let v = c.args.v in
    rw (c.lose_if.ensures, c.is_empty.ensures, c.artificial_harmonic.ensures, c.grace_losses.ensures s v, c.member_losses.ensures s v) (simp (reports_append, chord_rest))
