-- Member by member.
use native.Mathlib.Omega.{arith}
use lib.ListN.{drop_of_length-le}
use Rattle.into_rows.proofs.Gathering.{all_fingered}
use Rattle.into_rows.proofs.members.add_members.Goals as goal

pub returns : goal.returns
returns c =
    λ s v. let a = c.args in
    let l = c.loop-i in
    let end = drop_of_length-le a.chord.now {i = l.i} (omega arith) in
    rw (all_fingered s v a.notes.now a.board a.flat a.chord.now) (rw end at (l.invariant.1 s v))
