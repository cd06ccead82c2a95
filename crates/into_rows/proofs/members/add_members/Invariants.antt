-- Member by member.
use Prim.Native.Nat.{ℕ, ◌+◌}
use mathlib.Core.List.{List}
use mathlib.Core.Path.{◌≡◌}
use lib.ListN.{length, drop}
use Rattle.tables.specs.Table.{stores}
use Rattle.entries.specs.Words.{member_stride, member_words}
use Rattle.into_rows.proofs.Gathering.{members_by}
use Rattle.into_rows.proofs.members.add_members.Given as goal

abbrev pub invariant-loop-i : goal.invariant-loop-i
invariant-loop-i l = (length l.members ≡ length l.initial.members)
    × ((s : List ℕ) (v : ℕ)
    → stores member_words member_stride l.members (l.start + l.i) (members_by s v l.notes l.board l.flat l.only (drop l.i l.chord))
    ≡ stores member_words member_stride l.initial.members l.start (members_by s v l.notes l.board l.flat l.only l.chord))
