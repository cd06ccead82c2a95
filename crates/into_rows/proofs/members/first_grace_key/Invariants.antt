-- Note by note: the first that has a grace.
use Prim.Native.Nat.{ℕ}
use mathlib.Core.List.{List}
use mathlib.Core.Path.{◌≡◌}
use lib.ListN.{drop}
use Rattle.into_rows.proofs.Gracing.{graces_in}
use Rattle.into_rows.proofs.members.first_grace_key.Given as goal

-- no grace stands before note i
abbrev pub invariant-loop-struck : goal.invariant-loop-struck
invariant-loop-struck l = ((s : List ℕ) (v : ℕ) → graces_in s v l.notes (drop l.struck-index l.chord) ≡ graces_in s v l.notes l.chord)
