-- Member by member: the first that answers, or one of those after it.
use Prim.Native.Nat.{◌-◌}
use mathlib.Core.Path.{◌≡◌}
use lib.ListN.{length}
use Rattle.words.specs.Words.{start_words}
use Rattle.into_rows.proofs.members.start_tie.Given as goal

abbrev pub invariant-loop-i : goal.invariant-loop-i
invariant-loop-i l = (length l.members ≡ length l.initial.members)
    × (start_words l.i (l.i-end - l.i) l.tied l.members ≡ start_words l.first (l.i-end - l.first) l.tied l.initial.members)
