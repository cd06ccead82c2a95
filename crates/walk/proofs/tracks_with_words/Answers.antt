-- By the test.
use native.Mathlib.Omega.{arith}
use Rattle.walk.proofs.tracks_with_words.Goals as goal

pub overflow_cast-result : goal.overflow_cast-result
overflow_cast-result c =
    omega (arith, c.if-most-tracks.true)

pub returns-then-most-tracks : goal.returns-then-most-tracks
returns-then-most-tracks c =
    omega (arith, c.room_of-most.ensures)

pub returns : goal.returns
returns c =
    omega (arith, c.room_of-most.ensures)
