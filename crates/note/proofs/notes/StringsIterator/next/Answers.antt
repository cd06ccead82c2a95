-- Each string that is taken leaves fewer.
use Prim.Native.Nat.{◌<◌}
use native.Mathlib.Omega.{arith}
use Rattle.note.proofs.Strings.{other_less}
use Rattle.note.proofs.notes.StringsIterator.next.Goals as goal
use Rattle.note.proofs.notes.StringsIterator.next.Goals.{After-other_strings-self}

fewer : (c : After-other_strings-self) → c.other_strings-self.result < c.args.self.now.left
fewer c =
    rw (c.other_strings-self.ensures, c.first_string-string.ensures) (other_less _ c.args.self.now.small (omega arith))

pub invariant_of-self : goal.invariant_of-self
invariant_of-self c =
    let less = fewer c in
    let small = c.args.self.now.small in
    record { small = omega arith }

pub returns-clause-goes : goal.returns-clause-goes
returns-clause-goes c =
    let less = fewer (goal.at.returns-clause-goes c).After-other_strings-self in
    record { on = λ f. (tt, tt, less); keeps = tt; rests = λ f. tt }
