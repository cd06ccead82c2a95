-- By the tests.
use borrow.Author.Tests.{lt-ltb, le-ltb}
use native.Mathlib.Omega.{arith}
use Rattle.track.specs.Track.{tablature_of}
use Rattle.track.proofs.tablature_of.Goals as goal

pub returns-then-percussion : goal.returns-then-percussion
unfolding tablature_of
returns-then-percussion c =
    simp c.if-percussion.true

pub returns-then-strings-eq0 : goal.returns-then-strings-eq0
unfolding tablature_of
returns-then-strings-eq0 c =
    simp (c.if-percussion.false, le-ltb 0 c.args.strings (omega arith))

pub returns : goal.returns
unfolding tablature_of
returns c =
    simp (c.if-percussion.false, lt-ltb 0 c.args.strings (omega arith)) c.has.ensures
