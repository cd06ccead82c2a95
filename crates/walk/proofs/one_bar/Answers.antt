-- The bar is entered, then its tracks.
use native.Mathlib.Omega.{arith}
use Rattle.score.specs.File.{bar}
use Rattle.walk.proofs.Walks.{still_same}
use Rattle.walk.proofs.one_bar.Goals as goal

pub bar_tracks-requires : goal.bar_tracks-requires
bar_tracks-requires g c =
    omega (arith, c.enter_bar.ensures.lent.words)

pub returns-clause-bar : goal.returns-clause-bar
unfolding bar
returns-clause-bar g c =
    rw (c.enter_bar.ensures.bar c.args.s.now) at c.bar_tracks.ensures.tracks

pub returns-clause-lent : goal.returns-clause-lent
returns-clause-lent g c =
    still_same c.enter_bar.ensures.lent c.bar_tracks.ensures.lent
