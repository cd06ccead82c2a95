-- The articulations that a row holds are the list of those added. Laws only.
use Rattle.std.specs.Prelude.{None, Some}
use Prim.Native.Nat.{ℕ, zero, suc, ◌+◌, ◌*◌, ◌-◌, ◌/◌, ◌%◌, ◌≤◌, ◌<◌}
use mathlib.Core.Path.{◌≡◌, refl, ◌∙◌}
use mathlib.Core.Bool.{Bool, true, false}
use mathlib.Core.List.{List, [], ◌∷◌, ◌++◌}
use native.Mathlib.Omega.{arith}
use native.Mathlib.Decide.{dec_le}
use native.Mathlib.Nat.{mod-eq_of_lt}
use borrow.Author.Tests.{eq-eqb, ne_eqb, lt-ltb, le-ltb}
use lib.ListN.{length, get_or, length-append}
use lib.Dec.{eqb}
use Rattle.format.specs.Text.{pick}
use Rattle.model.specs.declared.Articulation.{Articulation}
use Rattle.model.specs.declared.Articulation.TheVariants.{Marcato, Accent, Vibrato, Staccato, Harmonic, Trill, Tremolo1, Tremolo2, Tremolo3, UpBow, DownBow, Tap, Falloff, Doit, Scoop, Plop}
use Rattle.model.specs.Kinds.{articulation_word}
use Rattle.model.proofs.KindLaws.{articulation_back}
use Rattle.model.specs.Marks.{holds, add_once, hex, packed, byte_counted, has_digit, with_digit, add_mark, shifted, mark_at}

digit_lt : (a : Articulation) → articulation_word a < 16
digit_lt Marcato = omega arith
digit_lt Accent = omega arith
digit_lt Vibrato = omega arith
digit_lt Staccato = omega arith
digit_lt Harmonic = omega arith
digit_lt Trill = omega arith
digit_lt Tremolo1 = omega arith
digit_lt Tremolo2 = omega arith
digit_lt Tremolo3 = omega arith
digit_lt UpBow = omega arith
digit_lt DownBow = omega arith
digit_lt Tap = omega arith
digit_lt Falloff = omega arith
digit_lt Doit = omega arith
digit_lt Scoop = omega arith
digit_lt Plop = omega arith

-- ---- one more at the end

hex_more : (l : List Articulation) (a : Articulation) (d : ℕ) → hex (l ++ (a ∷ [])) d ≡ hex l d * 16 + articulation_word a
hex_more [] a d = refl
hex_more (x ∷ l) a d = hex_more l a (d * 16 + articulation_word x)

holds_more : (w : ℕ) (x : Articulation) (l : List Articulation) → holds w (l ++ (x ∷ [])) ≡ pick (holds w l) true (eqb (articulation_word x) w)
holds_more w x [] = go (eqb (articulation_word x) w)
  where
    go : (b : Bool) → pick b true false ≡ b
    go true = refl
    go false = refl
holds_more w x (y ∷ l) = go (eqb (articulation_word y) w) (holds_more w x l)
  where
    go : (b : Bool) → holds w (l ++ (x ∷ [])) ≡ pick (holds w l) true (eqb (articulation_word x) w)
        → pick b true (holds w (l ++ (x ∷ []))) ≡ pick (pick b true (holds w l)) true (eqb (articulation_word x) w)
    go true h = refl
    go false h = h

-- ---- the digits are the list

module _ (d : ℕ) (a : Articulation) where
  last_digit : (d * 16 + articulation_word a) % 16 ≡ articulation_word a
  last_digit = omega (arith, digit_lt a)

  front_digits : (d * 16 + articulation_word a) / 16 ≡ d
  front_digits = omega (arith, digit_lt a)

digits_hold : (w : ℕ) (l : List Articulation) (n d : ℕ) → has_digit w (length l + n) (hex l d) ≡ pick (holds w l) true (has_digit w n d)
digits_hold w [] n d = let e : 0 + n ≡ n = omega arith in rw e
digits_hold w (x ∷ l) n d =
    let e : suc (length l) + n ≡ length l + suc n = omega arith in
    rw e (digits_hold w l (suc n) (d * 16 + articulation_word x) ∙ rw (last_digit d x, front_digits d x) (go (eqb (articulation_word x) w) (holds w l)))
  where
    go : (b h : Bool) → pick h true (pick b true (has_digit w n d)) ≡ pick (pick b true h) true (has_digit w n d)
    go true true = refl
    go true false = refl
    go false true = refl
    go false false = refl

has_is : (w : ℕ) (l : List Articulation) → has_digit w (length l) (hex l 0) ≡ holds w l
has_is w l = let e : length l + 0 ≡ length l = omega arith in (rw e at (digits_hold w l 0 0)) ∙ go (holds w l)
  where
    go : (b : Bool) → pick b true false ≡ b
    go true = refl
    go false = refl

shifted_last : (n d : ℕ) → shifted (suc n) d ≡ shifted n d / 16
shifted_last zero d = refl
shifted_last (suc n) d = shifted_last n (d / 16)

shifted_hex : (l : List Articulation) (d : ℕ) → shifted (length l) (hex l d) ≡ d
shifted_hex [] d = refl
shifted_hex (x ∷ l) d = shifted_last (length l) (hex l (d * 16 + articulation_word x)) ∙ rw (shifted_hex l (d * 16 + articulation_word x)) (front_digits d x)

nth_digit : (l : List Articulation) (k d : ℕ) (z : Articulation) → k < length l → shifted (length l - 1 - k) (hex l d) % 16 ≡ articulation_word (get_or l k z)
nth_digit [] k d z h = absurd (omega arith)
nth_digit (x ∷ l) zero d z h =
    let e : suc (length l) - 1 - 0 ≡ length l = omega arith in
    rw (e, shifted_hex l (d * 16 + articulation_word x)) (last_digit d x)
nth_digit (x ∷ l) (suc k) d z h =
    let e : suc (length l) - 1 - suc k ≡ length l - 1 - k = omega arith in
    rw e (nth_digit l k (d * 16 + articulation_word x) z (omega arith))

-- what a row holds of a list gives the list back, one by one
pub mark_packed : (l : List Articulation) (k : ℕ) (z : Articulation) → k < length l → mark_at (packed l) k ≡ Some (get_or l k z)
unfolding mark_at
mark_packed l k z h = rw (lt-ltb k (length l) h, nth_digit l k 0 z h, articulation_back)

pub mark_past : (l : List Articulation) (k : ℕ) → length l ≤ k → mark_at (packed l) k ≡ None
unfolding mark_at
mark_past l k h = rw (le-ltb k (length l) h)

-- ---- sixteen digits at most

cap : ℕ → ℕ → ℕ
cap zero d = d
cap (suc n) d = cap n (d * 16 + 15)

cap_le : (n d : ℕ) → d ≤ cap n d
unfolding cap
cap_le zero d = omega arith
cap_le (suc n) d = let h : d * 16 + 15 ≤ cap n (d * 16 + 15) = cap_le n (d * 16 + 15) in omega arith

hex_le : (l : List Articulation) (n d e : ℕ) → d ≤ e → length l ≤ n → hex l d ≤ cap n e
unfolding cap
hex_le [] n d e h k = omega (arith, cap_le n e)
hex_le (x ∷ l) zero d e h k = absurd (omega arith)
hex_le (x ∷ l) (suc n) d e h k = hex_le l n (d * 16 + articulation_word x) (e * 16 + 15) (omega (arith, digit_lt x)) (omega arith)

hex_small : (l : List Articulation) → length l ≤ 15 → hex l 0 < 1152921504606846976
unfolding cap
hex_small l h = let k : hex l 0 ≤ 1152921504606846975 = hex_le l 15 0 0 (omega arith) h in omega arith

with_packed : (l : List Articulation) (a : Articulation) → length l ≤ 15 → with_digit (articulation_word a) (packed l) ≡ packed (l ++ (a ∷ []))
unfolding with_digit
with_packed l a h =
    let e : length (l ++ (a ∷ [])) ≡ length l + 1 = simp length-append in
    rw (lt-ltb (length l) 16 (omega arith), mod-eq_of_lt (hex_small l h), mod-eq_of_lt (digit_lt a), e, hex_more l a 0)

-- ---- none twice: a list is as short of sixteen as there are digits that it does not have (free n: of the first n)

unfoldable pub free : ℕ → List Articulation → ℕ
free zero l = 0
free (suc n) l = pick (holds n l) 0 1 + free n l

pub record Distinct (l : List Articulation) : Type 0 where
  pub spare : length l + free 16 l ≡ 16

free_nil : (n : ℕ) → free n [] ≡ n
unfolding free
free_nil zero = refl
free_nil (suc n) = omega (arith, free_nil n)

free_out : (n : ℕ) (a : Articulation) (l : List Articulation) → n ≤ articulation_word a → free n (l ++ (a ∷ [])) ≡ free n l
unfolding free
free_out zero a l h = refl
free_out (suc n) a l h = rw (holds_more n a l, ne_eqb (articulation_word a) n (omega arith), free_out n a l (omega arith)) (go (holds n l))
  where
    go : (b : Bool) → pick (pick b true false) 0 1 + free n l ≡ pick b 0 1 + free n l
    go true = refl
    go false = refl

free_in : (n : ℕ) (a : Articulation) (l : List Articulation) → articulation_word a < n → holds (articulation_word a) l ≡ false → suc (free n (l ++ (a ∷ []))) ≡ free n l
unfolding free
free_in zero a l h f = absurd (omega arith)
free_in (suc n) a l h f = elim (dec_le n (articulation_word a)) [
  | yes d ↦
      let e : articulation_word a ≡ n = omega arith in
      let g : holds n l ≡ false = rw e at f in
      rw (holds_more n a l, g, eq-eqb (articulation_word a) n e, free_out n a l d) (omega arith)
  | no d ↦
      let i : suc (free n (l ++ (a ∷ []))) ≡ free n l = free_in n a l (omega arith) f in
      rw (holds_more n a l, ne_eqb (articulation_word a) n (omega arith)) (go (holds n l) i)
]
  where
    go : (b : Bool) → suc (free n (l ++ (a ∷ []))) ≡ free n l → suc (pick (pick b true false) 0 1 + free n (l ++ (a ∷ []))) ≡ pick b 0 1 + free n l
    go true i = omega arith
    go false i = omega arith

pub distinct_nil : Distinct []
distinct_nil = record { spare = omega (arith, free_nil 16) }

pub distinct_few : (l : List Articulation) → Distinct l → length l ≤ 16
distinct_few l s = omega (arith, s.spare)

distinct_more : (a : Articulation) (l : List Articulation) → Distinct l → holds (articulation_word a) l ≡ false → Distinct (l ++ (a ∷ []))
distinct_more a l s f = record { spare = simp length-append (omega (arith, s.spare, free_in 16 a l (digit_lt a) f)) }

pub distinct_add : (a : Articulation) (l : List Articulation) → Distinct l → Distinct (add_once a l)
distinct_add a l s = go (holds (articulation_word a) l) refl
  where
    go : (b : Bool) → holds (articulation_word a) l ≡ b → Distinct (pick b l (l ++ (a ∷ [])))
    go true e = s
    go false e = distinct_more a l s e

-- adding to what a row holds is adding to the list
pub add_packed : (a : Articulation) (l : List Articulation) → Distinct l → add_mark a (packed l) ≡ packed (add_once a l)
unfolding add_mark
add_packed a l s = rw (has_is (articulation_word a) l) (go (holds (articulation_word a) l) refl)
  where
    go : (b : Bool) → holds (articulation_word a) l ≡ b → pick b (packed l) (with_digit (articulation_word a) (packed l)) ≡ packed (pick b l (l ++ (a ∷ [])))
    go true e = refl
    go false e = with_packed l a (omega (arith, s.spare, free_in 16 a l (digit_lt a) e))

-- a byte counts them
pub byte_counted_lem : (l : List Articulation) → length l < 256 → byte_counted (packed l) ≡ packed l
unfolding byte_counted
byte_counted_lem l h = rw (mod-eq_of_lt h)
