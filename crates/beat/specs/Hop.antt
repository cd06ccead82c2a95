-- Past a beat of nothing but plain notes. A shortcut for a pass that only counts.
use Rattle.std.specs.Prelude.{ℕ, ◌+◌, ◌≡◌, Bool, true, false, List, get_or, length, eqb, leb, Option, Some, None, is_some, Ok, Err}
use Rattle.std.specs.Int.Bits.{bit_and}
use Rattle.format.specs.Text.{pick, no_text}
use Rattle.format.specs.Place.{Place, Reaches}
use Rattle.note.specs.Hop.{AllUnmarked, hop_notes}
use Rattle.beat.specs.Beat.{BeatIs, beat}

-- all that a pass that counts asks of a beat, but for its strings: it is kept, has no text, and none of its notes has a grace or a bend
pub record Unmarked (strings : ℕ) (x : BeatIs) : Type 0 where
  pub same : x.strings ≡ strings
  pub kept : x.head.kept ≡ true
  pub text : x.text ≡ no_text
  pub notes : AllUnmarked x.notes
  pub seven : length x.notes ≡ 7

-- ---- when it hops: flags, duration and strings are three bytes, the notes at most 35 and the tail three
unfoldable pub hops_beat : List ℕ → (v : ℕ) → Place → Bool
hops_beat s v (Err x) = false
hops_beat s v (Ok at) =
    pick (leb (at + 41) (length s))
    (pick (eqb (bit_and (get_or s at 0) 0x7E) 0) (is_some (hop_notes s (at + 3) v (get_or s (at + 2) 0))) false)
    false

-- ---- what it hops over
pub record Hopped (v : ℕ) (s : List ℕ) (from : Place) (next strings : ℕ) : Type 0 where
  pub told : hops_beat s v from ≡ true
  pub over : BeatIs
  pub reads : Reaches (beat v) s from over (Ok next)
  pub unmarked : Unmarked strings over

pub record Hops (v : ℕ) (s : List ℕ) (from : Place) (r : Option (ℕ × ℕ)) : Type 0 where
  pub to : (next strings : ℕ) → r ≡ Some (next, strings) → Hopped v s from next strings
  pub not : r ≡ None → hops_beat s v from ≡ false
