-- Articulations in the order added, none twice: a list, and the hexadecimal number that a row holds of it.
use Rattle.std.specs.Prelude.{ℕ, zero, suc, ◌+◌, ◌*◌, ◌-◌, ◌/◌, ◌%◌, Bool, true, false, List, [], ◌∷◌, ◌++◌, length, eqb, ltb, None, Option, Some}
use Rattle.format.specs.Text.{pick}
use Rattle.model.specs.Kinds.{articulation_word, articulation_of}
use Rattle.model.specs.declared.Articulation.{Articulation}
use Rattle.model.specs.declared.Articulations.{Articulations}
use Rattle.model.specs.declared.marks.Marks.{Marks}

-- whether the articulation of a digit is among them
abbrev pub holds : ℕ → List Articulation → Bool
holds w [] = false
holds w (x ∷ l) = pick (eqb (articulation_word x) w) true (holds w l)

-- an articulation is added once, after those that are there
abbrev pub add_once : Articulation → List Articulation → List Articulation
add_once a l = pick (holds (articulation_word a) l) l (l ++ (a ∷ []))

-- a digit for each, from the left
abbrev pub hex : List Articulation → ℕ → ℕ
hex [] d = d
hex (a ∷ l) d = hex l (d * 16 + articulation_word a)

abbrev pub packed : List Articulation → Articulations
packed l = record { count = length l; digits = hex l 0 }

-- those added so far
unfoldable pub added_in : Marks → Articulations
added_in m = record { count = m.count; digits = m.digits }

-- with a byte for their count
unfoldable pub byte_counted : Articulations → Articulations
byte_counted m = record { count = m.count % 256; digits = m.digits }

-- ---- the same on any number

abbrev pub no_marks : Articulations
no_marks = record { count = 0; digits = 0 }

-- one of the last n digits
abbrev pub has_digit : ℕ → ℕ → ℕ → Bool
has_digit w zero d = false
has_digit w (suc n) d = pick (eqb (d % 16) w) true (has_digit w n (d / 16))

-- a digit more, of sixteen that there is room for
unfoldable pub with_digit : ℕ → Articulations → Articulations
with_digit w m = pick (ltb m.count 16) (record { count = m.count + 1; digits = m.digits % 1152921504606846976 * 16 + w % 16 }) m

unfoldable pub add_mark : Articulation → Articulations → Articulations
add_mark a m = pick (has_digit (articulation_word a) m.count m.digits) m (with_digit (articulation_word a) m)

-- without the last n digits
abbrev pub shifted : ℕ → ℕ → ℕ
shifted zero d = d
shifted (suc n) d = shifted n (d / 16)

unfoldable pub mark_at : Articulations → ℕ → Option Articulation
mark_at m k = pick (ltb k m.count) (Some (articulation_of (shifted (m.count - 1 - k) m.digits % 16))) None
