-- Note by note.
use Prim.Native.Nat.{ℕ}
use mathlib.Core.List.{List, []}
use mathlib.Core.Path.{◌≡◌}
use lib.ListN.{length, drop}
use Rattle.score.specs.Page.{start_ties}
use Rattle.words.specs.Words.{words}
use Rattle.into_rows.proofs.Gathering.{members_of}
use Rattle.into_rows.proofs.members.start_ties.Given as goal

abbrev pub invariant-loop-struck : goal.invariant-loop-struck
invariant-loop-struck l = (length l.members ≡ length l.initial.members)
    × ((s : List ℕ) (v : ℕ) → start_ties (words []) l.last (members_of s v l.notes l.board l.flat (drop l.struck-index l.chord)) l.members
    ≡ start_ties (words []) l.last (members_of s v l.notes l.board l.flat l.chord) l.initial.members)
