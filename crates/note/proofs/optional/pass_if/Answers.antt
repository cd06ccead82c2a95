-- Given or not.
use native.Mathlib.Omega.{arith}
use Rattle.format.proofs.Padded.{here, pad_skip}
use Rattle.note.specs.Optional.{optional}
use Rattle.note.proofs.optional.pass_if.Goals as goal

pub returns-then-given : goal.returns-then-given
unfolding optional
returns-then-given c =
    record { passes = λ s. rw c.if-given.true (pad_skip _); near = omega arith }

pub returns : goal.returns
unfolding optional
returns c =
    record { passes = λ s. rw c.if-given.false here; near = omega arith }
