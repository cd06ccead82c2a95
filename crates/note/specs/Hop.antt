-- Past the notes of a beat, where all are plain: kind, fret and perhaps a dynamic. A shortcut for a pass that only counts: nothing of them
-- is kept.
use Rattle.std.specs.Prelude.{ℕ, zero, suc, ◌+◌, ◌≤◌, ◌≡◌, List, [], ◌∷◌, get_or, length, eqb, leb, Option, Some, None, Ok}
use Rattle.std.specs.Int.Bits.{bit_and}
use Rattle.format.specs.Text.{pick}
use Rattle.format.specs.Prog.{has}
use Rattle.format.specs.Padded.{Arrives}
use Rattle.note.specs.Marks.{no_marks}
use Rattle.note.specs.Note.{NoteIs}
use Rattle.note.specs.Notes.{string_bit, notes}

-- a note without effects: no grace stands before it, and it is not bent
pub record Unmarked (n : NoteIs) : Type 0 where
  pub effects : n.read.effects ≡ no_marks
  pub bend : n.bend ≡ []

abbrev pub AllUnmarked : List NoteIs → Type 0
AllUnmarked [] = Unit
AllUnmarked (n ∷ ns) = Unmarked n × AllUnmarked ns

-- ---- when it hops
-- a plain note's bytes: flags, kind and fret, from v500 on that of the accidental, and a dynamic where it is given
unfoldable pub size_without : (v : ℕ) → ℕ
size_without v = pick (leb 500 v) 4 3

unfoldable pub plain_size : (v flags : ℕ) → ℕ
plain_size v flags = size_without v + pick (has flags 0x10) 1 0

-- fretted, without a duration, effects and fingers
unfoldable pub hop_note : List ℕ → (v : ℕ) → Option ℕ → Option ℕ
hop_note s v None = None
hop_note s v (Some at) = pick (eqb (bit_and (get_or s at 0) 0xA9) 0x20) (Some (at + plain_size v (get_or s at 0))) None

unfoldable pub hop_times : List ℕ → (v n : ℕ) → Option ℕ → Option ℕ
hop_times s v zero h = h
hop_times s v (suc n) h = hop_times s v n (hop_note s v h)

-- how many strings a set of bits has
unfoldable pub count_from : (n k mask : ℕ) → ℕ
count_from zero k mask = 0
count_from (suc n) k mask = pick (has mask (string_bit k)) (suc (count_from n (k + 1) mask)) (count_from n (k + 1) mask)

unfoldable pub string_count : ℕ → ℕ
string_count mask = count_from 7 0 mask

-- seven notes have at most 35 bytes: only where all of these are there
unfoldable pub hop_notes : List ℕ → (from v strings : ℕ) → Option ℕ
hop_notes s from v strings = pick (leb (from + 35) (length s)) (hop_times s v (string_count strings) (Some from)) None

-- ---- what it hops over
pub record Hopped (v strings : ℕ) (s : List ℕ) (from next : ℕ) : Type 0 where
  pub told : hop_notes s from v strings ≡ Some next
  pub over : List NoteIs
  pub reads : Arrives (notes v strings) s from over (Ok next)
  pub near : next ≤ from + 35
  pub unmarked : AllUnmarked over
  pub seven : length over ≡ 7

pub record Hops (v strings : ℕ) (s : List ℕ) (from : ℕ) (r : Option ℕ) : Type 0 where
  pub to : (next : ℕ) → r ≡ Some next → Hopped v strings s from next
  pub not : r ≡ None → hop_notes s from v strings ≡ None
