-- Laws of a version's text: its start, its digits and its number, position by position.
use Prim.Native.Nat.{ℕ, ◌+◌, ◌*◌, ◌-◌, ◌≤◌, ◌<◌, min}
use native.Mathlib.Omega.{arith}
use native.Mathlib.Decide.{dec_le}
use native.Mathlib.Numerals.{add-one}
use mathlib.Core.Path.{◌≡◌, refl, sym, ◌∙◌}
use mathlib.Core.List.{List, [], ◌∷◌}
use mathlib.Core.Bool.{Bool, true, false, true≢false}
use borrow.Author.Tests.{eq-eqb, ne_eqb, leb-true, le-leb, lt-leb}
use lib.ListN.{length, get_or, take, drop, length-take, length-drop, drop_of_length-le, get_or-eq_default}
use lib.Seq.{slice, drop-cons, drop-drop, get_or-drop, get_or-take, length-take-le, take_all}
use lib.Dec.{leb, eqb}
use Rattle.format.specs.Text.{pick}
use Rattle.song.specs.Version.{PREFIX, starts, is_digit, digits_len, digits_from, short, unplussed, version_number, version_of, is_family}

-- ---- a text starts as the first n bytes of the prefix: what is left to compare at i
module _ (n : ℕ) (l : List ℕ) (i : ℕ) (h : n ≤ 20) (e : starts (take n PREFIX) l ≡ starts (drop i (take n PREFIX)) (drop i l)) where
  long : length (take n PREFIX) ≡ n
  long = length-take-le n PREFIX h

  pub start_ends : i < n → length l ≤ i → false ≡ starts (take n PREFIX) l
  unfolding starts
  start_ends k g = sym (e ∙ rw (drop-cons (take n PREFIX) i 0 (omega (arith, long)), drop_of_length-le l g))

  pub start_not : i < n → i < length l → (get_or l i 0 ≡ get_or PREFIX i 0 → ⊥) → false ≡ starts (take n PREFIX) l
  unfolding starts
  start_not k g d =
      sym
      (e
      ∙ rw (drop-cons (take n PREFIX) i 0 (omega (arith, long)), drop-cons l i 0 g, get_or-take n PREFIX i 0 k)
      (simp (ne_eqb (get_or PREFIX i 0) (get_or l i 0) (λ q. d (sym q)))))

  pub start_on : i < n → i < length l → get_or l i 0 ≡ get_or PREFIX i 0 → starts (take n PREFIX) l ≡ starts (drop (i + 1) (take n PREFIX)) (drop (i + 1) l)
  unfolding starts
  start_on k g q =
      e
      ∙ rw (drop-cons (take n PREFIX) i 0 (omega (arith, long)), drop-cons l i 0 g, get_or-take n PREFIX i 0 k, add-one i)
      (simp (eq-eqb (get_or PREFIX i 0) (get_or l i 0) (sym q)))

  pub start_out : n ≤ i → true ≡ starts (take n PREFIX) l
  unfolding starts
  start_out k =
      let g : length (take n PREFIX) ≤ i = omega (arith, long) in
      sym (e ∙ rw (drop_of_length-le (take n PREFIX) g))

-- ---- digits
both : (t u : Bool) → pick t u false ≡ true → (t ≡ true) × (u ≡ true)
both true u e = (refl, e)
both false u e = absurd (true≢false (sym e))

module _ (x : ℕ) (e : is_digit x ≡ true) where
  pub digit_low : 48 ≤ x
  unfolding is_digit
  digit_low = leb-true _ _ (both (leb 48 x) (leb x 57) e).0

  pub digit_high : x ≤ 57
  unfolding is_digit
  digit_high = leb-true _ _ (both (leb 48 x) (leb x 57) e).1

-- how many digits are left at i, where a loop looks for their end
module _ (t : List ℕ) (from i : ℕ) (e : i + digits_len (drop i t) ≡ from + digits_len (drop from t)) where
  pub end_found : i < length t → is_digit (get_or t i 0) ≡ false → i ≡ from + digits_len (drop from t)
  unfolding digits_len
  end_found k d =
      let n : digits_len (drop i t) ≡ 0 = rw (drop-cons t i 0 k, d) in
      omega arith

  pub end_on : i < length t → is_digit (get_or t i 0) ≡ true → i + 1 + digits_len (drop (i + 1) t) ≡ from + digits_len (drop from t)
  unfolding digits_len
  end_on k d =
      let n : digits_len (drop i t) ≡ 1 + digits_len (drop (i + 1) t) = rw (drop-cons t i 0 k, add-one i, d) (omega arith) in
      omega arith

  pub end_out : length t ≤ i → i ≡ from + digits_len (drop from t)
  unfolding digits_len
  end_out k =
      let n : digits_len (drop i t) ≡ 0 = rw (drop_of_length-le t k) in
      omega arith

-- a number only grows
larger : (t : Bool) (n x y : ℕ) → n ≤ x → n ≤ y → n ≤ pick t x y
larger true n x y h k = h
larger false n x y h k = k

from_grows : (n : ℕ) (l : List ℕ) → n ≤ digits_from n l
unfolding digits_from
from_grows n [] = omega arith
from_grows n (x ∷ xs) =
    let h = from_grows (10 * n + (x - 48)) xs in
    larger (is_digit x) n (digits_from (10 * n + (x - 48)) xs) n (omega arith) (omega arith)

-- what the digits left at i make of the number n so far, where a loop works the number out
module _ (t : List ℕ) (from i n : ℕ) (h : n ≤ 65535) (e : digits_from n (drop i t) ≡ digits_from 0 (drop from t)) where
  pub value_found : i < length t → is_digit (get_or t i 0) ≡ false → n ≡ min (digits_from 0 (drop from t)) 65536
  unfolding digits_from
  value_found k d =
      let v : digits_from n (drop i t) ≡ n = rw (drop-cons t i 0 k, d) in
      omega arith

  pub value_out : length t ≤ i → n ≡ min (digits_from 0 (drop from t)) 65536
  unfolding digits_from
  value_out k =
      let v : digits_from n (drop i t) ≡ n = rw (drop_of_length-le t k) in
      omega arith

  pub value_on : i < length t → is_digit (get_or t i 0) ≡ true → digits_from (10 * n + (get_or t i 0 - 48)) (drop (i + 1) t) ≡ digits_from 0 (drop from t)
  unfolding digits_from
  value_on k d = sym (sym e ∙ rw (drop-cons t i 0 k, add-one i, d))

  pub value_over : i < length t → is_digit (get_or t i 0) ≡ true → 65535 < 10 * n + (get_or t i 0 - 48) → 65536 ≡ min (digits_from 0 (drop from t)) 65536
  value_over k d g = omega (arith, value_on k d, from_grows (10 * n + (get_or t i 0 - 48)) (drop (i + 1) t))

-- ---- a number of up to 65,535, by its value held to 65,536
pub short_none : (l : List ℕ) → digits_len l ≡ 0 → false ≡ short l
unfolding short
short_none l e = simp (eq-eqb (digits_len l) 0 e)

pub short_some : (l : List ℕ) (v : ℕ) → (digits_len l ≡ 0 → ⊥) → v ≡ min (digits_from 0 l) 65536 → leb v 65535 ≡ short l
unfolding short
short_some l v d e =
    simp (ne_eqb (digits_len l) 0 d)
    (elim (dec_le v 65535) [
      | yes h ↦ simp (le-leb v 65535 h, le-leb (digits_from 0 l) 65535 (omega arith))
      | no h ↦ simp (lt-leb v 65535 (omega arith), lt-leb (digits_from 0 l) 65535 (omega arith))
    ])

other : (t u : Bool) → pick t false u ≡ true → u ≡ true
other true u e = absurd (true≢false (sym e))
other false u e = e

pub short_held : (l : List ℕ) → short l ≡ true → digits_from 0 l ≤ 65535
unfolding short
short_held l e = leb-true _ _ (other (eqb (digits_len l) 0) (leb (digits_from 0 l) 65535) e)

pub not_short : (l : List ℕ) → short l ≡ false → 0 ≡ version_number l
unfolding version_number
not_short l s = simp s

-- ---- digits, a point, digits: from a position on, where the first digits end at the point
module _ (t : List ℕ) (from point : ℕ) (e : point ≡ from + digits_len (drop from t)) where
  number : ℕ → List ℕ → ℕ
  number dot minor = pick (short (drop from t)) (pick (eqb dot 46) (pick (short minor) (100 * digits_from 0 (drop from t) + digits_from 0 minor) 0) 0) 0

  -- what is looked at stands at the point
  at_point : version_number (drop from t) ≡ number (get_or t point 0) (drop (point + 1) t)
  unfolding version_number number
  at_point =
      let q : from + (digits_len (drop from t) + 1) ≡ from + digits_len (drop from t) + 1 = omega arith in
      rw (e, get_or-drop from t (digits_len (drop from t)) 0, drop-drop (digits_len (drop from t) + 1) from t, q)

  module _ (s : short (drop from t) ≡ true) where
    pub no_point : (get_or t point 0 ≡ 46 → ⊥) → 0 ≡ version_number (drop from t)
    unfolding number
    no_point d = sym (at_point ∙ simp (s, ne_eqb (get_or t point 0) 46 d))

    pub no_byte : length t ≤ point → 0 ≡ version_number (drop from t)
    no_byte h = no_point (λ q. let z : get_or t point 0 ≡ 0 = get_or-eq_default t 0 h in omega arith)

    pub no_minor : get_or t point 0 ≡ 46 → short (drop (point + 1) t) ≡ false → 0 ≡ version_number (drop from t)
    unfolding number
    no_minor d m = sym (at_point ∙ simp (s, eq-eqb (get_or t point 0) 46 d, m))

    pub readable : (a b : ℕ) → get_or t point 0 ≡ 46 → short (drop (point + 1) t) ≡ true → a ≡ min (digits_from 0 (drop from t)) 65536 → b ≡ min (digits_from 0 (drop (point + 1) t)) 65536 → 100 * a + b ≡ version_number (drop from t)
    unfolding number
    readable a b d m p q =
        let h = short_held (drop from t) s in
        let k = short_held (drop (point + 1) t) m in
        sym (at_point ∙ simp (s, eq-eqb (get_or t point 0) 46 d, m) (omega arith))

-- ---- a whole text
never : (t : Bool) → ◌≡◌ {A = ℕ} 0 (pick t 0 0)
never true = refl
never false = refl

pub text_short : (t : List ℕ) → length t ≤ 20 → 0 ≡ version_of t
unfolding version_of unplussed version_number short digits_len
text_short t h = rw (drop_of_length-le t h) (never (starts PREFIX t))

module _ (t : List ℕ) where
  pub text_other : starts PREFIX t ≡ false → 0 ≡ version_of t
  unfolding version_of
  text_other e = simp e

  module _ (e : starts PREFIX t ≡ true) where
    pub text_plus : get_or t 20 0 ≡ 43 → version_number (drop 21 t) ≡ version_of t
    unfolding version_of unplussed
    text_plus d = simp (e, get_or-drop 20 t 0 0, eq-eqb (get_or t 20 0) 43 d, drop-drop 1 20 t)

    pub text_plain : (get_or t 20 0 ≡ 43 → ⊥) → version_number (drop 20 t) ≡ version_of t
    unfolding version_of unplussed
    text_plain d = simp (e, get_or-drop 20 t 0 0, ne_eqb (get_or t 20 0) 43 d)

-- ---- the family's bytes stand after the length byte
pub family_empty : (l : List ℕ) → length l ≡ 0 → false ≡ is_family l
unfolding is_family starts
family_empty l e =
    let h : length l ≤ 1 = omega arith in
    rw (drop_of_length-le l h)

-- ---- a part of a text, as far as the text goes
rest : (start : ℕ) (s : List ℕ) → take (length s - start) (drop start s) ≡ drop start s
rest start s = take_all (length s - start) (drop start s) (simp length-drop (omega arith))

pub family_rest : (l : List ℕ) (t : List ℕ) → t ≡ take (length l - 1) (drop 1 l) → starts (take 19 PREFIX) t ≡ is_family l
unfolding is_family
family_rest l t e = rw (e, rest 1 l)

module _ (start end : ℕ) (s : List ℕ) where
  pub part_none : end ≤ start → [] ≡ slice start end s
  part_none h =
      let g : length (take end s) ≤ start = simp length-take (omega arith) in
      rw (drop_of_length-le (take end s) g)

  pub part_past : length s ≤ start → [] ≡ slice start end s
  part_past h =
      let g : length (take end s) ≤ start = simp length-take (omega arith) in
      rw (drop_of_length-le (take end s) g)

  pub part_all : length s < end → take (length s - start) (drop start s) ≡ slice start end s
  part_all h =
      let g : length s ≤ end = omega arith in
      rw (rest start s, take_all end s g)
