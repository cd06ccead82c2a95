-- By the test.
use borrow.Author.Tests.{lt-ltb, le-ltb}
use native.Mathlib.Omega.{arith}
use Rattle.track.specs.Track.{low}
use Rattle.track.proofs.is_low.Goals as goal

pub returns-then-n-eq0 : goal.returns-then-n-eq0
unfolding low
returns-then-n-eq0 c =
    simp (le-ltb 0 c.args.strings.count (omega arith))

pub returns : goal.returns
unfolding low
returns c =
    simp (lt-ltb 0 c.args.strings.count (omega arith))
