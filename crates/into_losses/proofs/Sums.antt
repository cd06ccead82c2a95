-- Sums as far as a word goes, the rooms that are added so, and whether a text is there.
use Prim.Native.Nat.{ℕ, zero, suc, ◌+◌, ◌%◌, ◌≤◌, ◌<◌}
use mathlib.Core.Path.{◌≡◌, refl, sym, ◌∙◌}
use mathlib.Core.List.{List, [], ◌∷◌}
use mathlib.Core.Bool.{Bool, true, false, not, ◌&&◌}
use native.Mathlib.Omega.{arith}
use native.Mathlib.Decide.{dec_le}
use native.Mathlib.Nat.{zero-add, add-zero}
use borrow.Author.Tests.{le-leb, lt-leb, lt-ltb}
use lib.Dec.{ltb, leb-suc-suc, leb-suc-zero}
use lib.ListN.{length}
use lib.Seq.{slice, drop-nil}
use Rattle.format.specs.Text.{pick}
use Rattle.note.specs.declared.bend.Bend.{Bend}
use Rattle.format.specs.Prog.{has}
use Rattle.note.specs.Notes.{string_bit}
use Rattle.note.specs.Note.{no_note}
use Rattle.note.specs.Words.{start, byte_in, note_in, bend_at, string_note, notes_in, over_from, over_strings}
use Rattle.note.proofs.Strings.{low_bits}
use Rattle.note.specs.Points.{points_at, bend_in}
use Rattle.score.specs.Page.{bend_room, bend_rooms, empty_bytes}
use Rattle.words.specs.Words.{LARGEST, word_plus}
use Rattle.into_losses.proofs.Counting.{notes_from}

plus_fits : (a b : ℕ) → a + b ≤ LARGEST → word_plus a b ≡ a + b
unfolding word_plus
plus_fits a b h = rw (le-leb (a + b) LARGEST h)

pub plus_none : (a : ℕ) → a ≤ LARGEST → word_plus a 0 ≡ a
plus_none a h = plus_fits a 0 (omega arith) ∙ add-zero a

plus_full : (a b : ℕ) → LARGEST ≤ a + b → word_plus a b ≡ LARGEST
unfolding word_plus
plus_full a b h = elim (dec_le (a + b) LARGEST) [
  | yes d ↦ rw (le-leb (a + b) LARGEST d) (omega arith)
  | no d ↦ rw (lt-leb (a + b) LARGEST (omega arith))
]

plus_bound : (a b : ℕ) → word_plus a b ≤ LARGEST
plus_bound a b = elim (dec_le (a + b) LARGEST) [
  | yes d ↦ omega (arith, plus_fits a b d)
  | no d ↦ omega (arith, plus_full a b (omega arith))
]

same_sum : (a b c d : ℕ) → a + b ≡ c + d → word_plus a b ≡ word_plus c d
unfolding word_plus
same_sum a b c d e = rw e

-- what is added may be cut to a word before
pub plus_cut : (a b : ℕ) → word_plus a (word_plus 0 b) ≡ word_plus a b
plus_cut a b = elim (dec_le b LARGEST) [
  | yes d ↦ rw (plus_fits 0 b (omega arith), zero-add)
  | no d ↦ rw (plus_full 0 b (omega arith)) (plus_full a LARGEST (omega arith) ∙ sym (plus_full a b (omega arith)))
]

-- and after
plus_on : (a b c : ℕ) → word_plus (word_plus a b) c ≡ word_plus a (b + c)
plus_on a b c = elim (dec_le (a + b) LARGEST) [
  | yes d ↦ rw (plus_fits a b d) (same_sum (a + b) c a (b + c) (omega arith))
  | no d ↦ rw (plus_full a b (omega arith)) (plus_full LARGEST c (omega arith) ∙ sym (plus_full a (b + c) (omega arith)))
]

-- ---- a bend's room

length-points : (s : List ℕ) (at n : ℕ) → length (points_at s at n) ≡ n
unfolding points_at
length-points s at zero = refl
length-points s at (suc n) = rw (length-points s (at + 9) n)

pub no_room_lem : (s : List ℕ) (bend : Bend) → bend.count ≡ 0 → 0 ≡ word_plus 0 (bend_room (bend_in s bend))
unfolding word_plus points_at
no_room_lem s bend e = rw e

pub room : (s : List ℕ) (at n : ℕ) → (n ≡ 0 → ⊥) → word_plus n 2 ≡ word_plus 0 (bend_room (points_at s at n))
unfolding points_at
room s at zero h = absurd (h refl)
room s at (suc n) h = rw (length-points s (at + 9) n) (same_sum (suc n) 2 0 (n + 3) (omega arith))

-- ---- the rooms of a beat, string by string

pub byte_below : (w : List ℕ) (k : ℕ) → byte_in w k < 256
unfolding byte_in
byte_below w k = omega arith

abbrev pub one_room : (s w : List ℕ) → ℕ → ℕ → ℕ
one_room s w i rooms = word_plus rooms (word_plus 0 (bend_room (bend_in s (bend_at w (start i)))))

module _ (s : List ℕ) (v strings : ℕ) (w : List ℕ) where
  one : (read : Bool) (i rooms : ℕ) → rooms ≤ LARGEST
      → pick read (one_room s w i rooms) rooms
      ≡ word_plus rooms (pick read (bend_room (pick read (note_in s v w (start i)) no_note).bend) 0)
  one true i rooms h = plus_cut rooms (bend_room (bend_in s (bend_at w (start i))))
  one false i rooms h = sym (plus_none rooms h)

  from_string : (n k rooms : ℕ) → k + n ≤ 7 → strings < 256 → rooms ≤ LARGEST
      → over_from n k (strings % 128) (one_room s w) rooms ≡ word_plus rooms (bend_rooms strings k (notes_from s v strings w n k))
  unfolding over_from string_note
  from_string zero k rooms l h g = sym (plus_none rooms g)
  from_string (suc n) k rooms l h g =
      rw (low_bits strings h k (omega arith), one (has strings (string_bit k)) k rooms g, ← plus_on)
      (from_string n (k + 1) _ (omega arith) h (plus_bound rooms _))

  pub strings_rooms : strings < 256
      → over_strings (strings % 128) (one_room s w) 0 ≡ word_plus 0 (bend_rooms strings 0 (notes_in s v strings w))
  unfolding over_strings notes_in
  strings_rooms h = from_string 7 0 0 (omega arith) h (omega arith)

-- ---- a text that is there

not_both : (t : Bool) → (t && false) ≡ false
not_both true = refl
not_both false = refl

pub text_there : (start end : ℕ) (s : List ℕ)
    → (ltb start end && ltb start (length s)) ≡ not (empty_bytes (slice start end s))
text_there start zero s = rw (leb-suc-zero start, drop-nil start)
text_there zero (suc end) [] = rw (lt-ltb 0 (suc end) (omega arith))
text_there zero (suc end) (x ∷ s) = rw (lt-ltb 0 (suc end) (omega arith), lt-ltb 0 (suc (length s)) (omega arith))
text_there (suc start) (suc end) [] = rw (leb-suc-zero (suc start)) (not_both (ltb (suc start) (suc end)))
text_there (suc start) (suc end) (x ∷ s) =
    rw (leb-suc-suc (suc start) end, leb-suc-suc (suc start) (length s)) (text_there start end s)
