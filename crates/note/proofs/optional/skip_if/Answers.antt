-- By the test.
use Rattle.format.proofs.Rules.{reading}
use Rattle.note.specs.Optional.{optional}
use Rattle.note.proofs.optional.skip_if.Goals as goal

pub returns-then-given : goal.returns-then-given
unfolding optional
returns-then-given c =
    rw c.if-given.true (search reading)

pub returns : goal.returns
unfolding optional
returns c =
    rw c.if-given.false (search reading)
