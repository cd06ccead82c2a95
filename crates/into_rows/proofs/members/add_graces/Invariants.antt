-- Note by note.
use Prim.Native.Nat.{ℕ, ◌+◌, ◌≤◌}
use mathlib.Core.List.{List}
use mathlib.Core.Path.{◌≡◌}
use lib.ListN.{length, drop}
use Rattle.tables.specs.Table.{stores}
use Rattle.entries.specs.Words.{member_stride, member_words}
use Rattle.into_rows.proofs.Gracing.{graces_as, graces_in}
use Rattle.into_rows.proofs.members.add_graces.Given as goal

abbrev pub invariant-loop-struck : goal.invariant-loop-struck
invariant-loop-struck l = (length l.members ≡ length l.initial.members) × (l.start ≤ l.n) × (l.n ≤ l.start + l.struck-index)
    × ((s : List ℕ) (v : ℕ)
    → l.n + length (graces_in s v l.notes (drop l.struck-index l.chord)) ≡ l.start + length (graces_in s v l.notes l.chord))
    × ((s : List ℕ) (v : ℕ)
    → stores member_words member_stride l.members l.n (graces_as l.board l.flat (graces_in s v l.notes (drop l.struck-index l.chord)))
    ≡ stores member_words member_stride l.initial.members l.start (graces_as l.board l.flat (graces_in s v l.notes l.chord)))
