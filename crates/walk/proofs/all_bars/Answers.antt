-- Every bar.
use native.Mathlib.Omega.{arith}
use Rattle.walk.proofs.all_bars.Goals as goal

pub every_bar-requires : goal.every_bar-requires
every_bar-requires g c =
    omega (arith, c.tracks_with_words-held.ensures)

pub returns-clause-bars : goal.returns-clause-bars
returns-clause-bars g c =
    rw c.tracks_with_words-held.ensures at c.every_bar.ensures.bars
