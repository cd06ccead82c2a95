-- String by string.
use Prim.Native.Nat.{ℕ, ◌+◌, ◌≤◌, ◌<◌}
use mathlib.Core.Path.{◌≡◌}
use mathlib.Core.List.{List}
use Rattle.note.specs.Words.{over_strings}
use Rattle.words.specs.Counted.{one_note, grace_of}
use Rattle.enter.proofs.Heard.{adding}
use Rattle.enter.proofs.count.heard_of.Given as goal

abbrev pub invariant-loop-string : goal.invariant-loop-string
invariant-loop-string l = (l.count + l.string-iterator.left < 128)
    × (l.graces ≤ l.count)
    × ((s : List ℕ) (v : ℕ) → over_strings l.sounding (adding one_note s v l.notes) 0 ≡ over_strings l.string-iterator.left (adding one_note s v l.notes) l.count)
    × ((s : List ℕ) (v : ℕ) → over_strings l.sounding (adding grace_of s v l.notes) 0 ≡ over_strings l.string-iterator.left (adding grace_of s v l.notes) l.graces)
