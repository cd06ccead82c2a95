-- String by string.
use Prim.Native.Nat.{ℕ, ◌%◌}
use mathlib.Core.Path.{◌≡◌}
use mathlib.Core.List.{List}
use Rattle.note.specs.Words.{byte_in, over_strings}
use Rattle.beat.specs.Words.{STRINGS}
use Rattle.into_losses.proofs.Sums.{one_room}
use Rattle.into_losses.proofs.rooms.bend_rooms.Given as goal

abbrev pub invariant-loop-string : goal.invariant-loop-string
invariant-loop-string l =
    (s : List ℕ) → over_strings (byte_in l.b STRINGS % 128) (one_room s l.notes) 0 ≡ over_strings l.string-iterator.left (one_room s l.notes) l.rooms
