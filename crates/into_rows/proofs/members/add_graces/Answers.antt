-- Note by note.
use borrow.Author.Rules.{rules}
use native.Mathlib.Omega.{arith}
use mathlib.Core.Path.{◌∙◌}
use lib.ListN.{drop_of_length-le}
use Rattle.draft.specs.Chord.{chord_in}
use Rattle.into_rows.proofs.Gracing.{graces_in, next_number, next_graces, no_fingers}
use Rattle.into_rows.proofs.members.add_graces.Goals as goal

pub loop-struck-preserved : goal.loop-struck-preserved
unfolding chord_in
loop-struck-preserved c =
    let l = c.loop-struck in
    let a = c.args in
    let added = c.add_grace-n.ensures in (
      search rules,
      omega (arith, l.invariant.1, added.number a.notes.now 0),
      search rules,
      λ s v. next_number s v a.notes.now a.chord.now l.n l.struck-index (omega arith) (added.number s v) ∙ l.invariant.3 s v,
      λ s v. next_graces s v a.notes.now a.board a.flat a.chord.now l.members l.n l.struck-index (omega arith)
          (added.number s v) (added.stored s v)
          ∙ l.invariant.4 s v,
    )

pub returns-clause-stored : goal.returns-clause-stored
unfolding chord_in
returns-clause-stored c =
    λ s v. let a = c.args in
    let l = c.loop-struck in
    let end = drop_of_length-le a.chord.now {i = l.struck-index} (omega arith) in
    rw (no_fingers a.board a.flat (graces_in s v a.notes.now a.chord.now)) (rw end at (l.invariant.4 s v))
