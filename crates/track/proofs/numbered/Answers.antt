-- By the test.
use native.Mathlib.Omega.{arith}
use Rattle.track.specs.Track.{numbered}
use Rattle.track.proofs.numbered.Goals as goal

pub returns-then-n-last : goal.returns-then-n-last
unfolding numbered
returns-then-n-last c =
    omega (arith, c.less_one-n.ensures)

pub returns : goal.returns
unfolding numbered
returns c =
    omega (arith, c.less_one-n.ensures)
