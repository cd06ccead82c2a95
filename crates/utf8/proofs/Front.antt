-- The character at the front of a text is that of one byte: by its bytes the code point, by one test over all bytes the byte.
use Prim.Native.Nat.{ℕ, zero, suc, ◌+◌, ◌*◌, ◌/◌, ◌%◌, ◌-◌, ◌≤◌, ◌<◌}
use native.Mathlib.Omega.{arith}
use native.Mathlib.Decide.{dec_lt}
use mathlib.Core.Path.{◌≡◌, refl, ap, sym, ◌∙◌}
use mathlib.Core.List.{List, [], ◌∷◌, ◌++◌}
use mathlib.Core.Bool.{Bool, true, false, ◌&&◌}
use Rattle.std.specs.Prelude.{Option, None, Some}
use native.Mathlib.Numerals.{add-one}
use lib.ListN.{length, get_or, take, drop, drop_of_length-le, length-append}
use lib.Seq.{take_all, drop-cons}
use lib.Dec.{eqb, ltb}
use borrow.Author.Tests.{lt-leb, lt-ltb, le-ltb, eqb-true, ltb-true, eq-eqb, ne_eqb}
use Rattle.format.specs.Text.{pick}
use Rattle.utf8.specs.Characters.{index, code_point, encoded, character}
use Rattle.utf8.specs.Back.{begins, among, front}

pub both_true : (a b : Bool) → (a && b) ≡ true → (a ≡ true) × (b ≡ true)
both_true true b e = (refl, e)
both_true false b e = (e, cc)

-- ---- what a text begins with
pub begins_split : (xs us : List ℕ) → begins xs us ≡ true → us ≡ xs ++ drop (length xs) us
unfolding begins
begins_split [] us e = refl
begins_split (x ∷ xs) [] e = cc
begins_split (x ∷ xs) (u ∷ us) e =
    let t = both_true (eqb x u) (begins xs us) e in
    let h : x ≡ u = eqb-true x u t.0 in
    let g : us ≡ xs ++ drop (length xs) us = begins_split xs us t.1 in
    cc

pub begins_append : (xs us : List ℕ) → begins xs (xs ++ us) ≡ true
unfolding begins
begins_append [] us = refl
begins_append (x ∷ xs) us = rw (eq-eqb x x refl) (begins_append xs us)

-- ---- the three cases
module _ (c : ℕ) where
  pub encoded_one : c < 0x80 → encoded c ≡ c ∷ []
  unfolding encoded
  encoded_one h = rw (lt-ltb c 0x80 h)

  pub encoded_two : 0x80 ≤ c → c < 0x800 → encoded c ≡ (0xC0 + c / 64) ∷ (0x80 + c % 64) ∷ []
  unfolding encoded
  encoded_two h k = rw (le-ltb c 0x80 h, lt-ltb c 0x800 k)

  pub encoded_three : 0x800 ≤ c → encoded c ≡ (0xE0 + c / 4096) ∷ (0x80 + c / 64 % 64) ∷ (0x80 + c % 64) ∷ []
  unfolding encoded
  encoded_three h = rw (le-ltb c 0x80 (omega arith), le-ltb c 0x800 h)

  pub encoded_length : (1 ≤ length (encoded c)) × (length (encoded c) ≤ 3)
  encoded_length = elim (dec_lt c 0x80) [
    | yes h ↦ rw (encoded_one h) (omega arith)
    | no h ↦ elim (dec_lt c 0x800) [
      | yes k ↦ rw (encoded_two (omega arith) k) (omega arith)
      | no k ↦ rw (encoded_three (omega arith)) (omega arith)
    ]
  ]

pub character_length : (b : ℕ) → (1 ≤ length (character b)) × (length (character b) ≤ 3)
unfolding character
character_length b = encoded_length (code_point b)

-- the character of a byte below 0x80 is that byte
character_same : (b : ℕ) → b < 0x80 → character b ≡ b ∷ []
unfolding code_point character
character_same b h = rw (lt-leb 0x80 b h) (encoded_one b h)

pub character_one : (b : ℕ) → b < 0x80 → 1 ≡ length (character b)
character_one b h = rw (character_same b h)

-- ---- the code point that three bytes can be, the later ones only looked at where the first says so
abbrev pub code_at : ℕ → ℕ → ℕ → ℕ
code_at x y z = pick (ltb x 0x80) x (pick (ltb x 0xE0) (x % 32 * 64 + y % 64) (x % 16 * 4096 + y % 64 * 64 + z % 64))

abbrev pub code_in : List ℕ → ℕ
code_in us = code_at (get_or us 0 0) (get_or us 1 0) (get_or us 2 0)

code_of : (c : ℕ) (us : List ℕ) → c < 65536 → code_in (encoded c ++ us) ≡ c
code_of c us l = elim (dec_lt c 0x80) [
  | yes h ↦ rw (encoded_one c h, lt-ltb c 0x80 h)
  | no h ↦ elim (dec_lt c 0x800) [
    | yes k ↦
        rw (encoded_two c (omega arith) k, le-ltb (0xC0 + c / 64) 0x80 (omega arith), lt-ltb (0xC0 + c / 64) 0xE0 (omega arith))
        (omega arith)
    | no k ↦
        rw (encoded_three c (omega arith), le-ltb (0xE0 + c / 4096) 0x80 (omega arith), le-ltb (0xE0 + c / 4096) 0xE0 (omega arith))
        (omega arith)
  ]
]

pub code_at_front : (c : ℕ) (us : List ℕ) → c < 65536 → begins (encoded c) us ≡ true → code_in us ≡ c
code_at_front c us l e = ap code_in (begins_split (encoded c) us e) ∙ code_of c (drop (length (encoded c)) us) l

pub code_is : (s : List ℕ) (x y z r c : ℕ) → x ≡ get_or s 0 0 → y ≡ get_or s 1 0 → z ≡ get_or s 2 0 → r ≡ code_at x y z → c < 65536 → begins (encoded c) s ≡ true → r ≡ c
code_is s x y z r c f g h e l b = rw (f, g, h) at e ∙ code_at_front c s l b

-- ---- the byte that a code point can be
abbrev pub placed : ℕ → ℕ → List ℕ → ℕ
placed code i [] = 0
placed code i (x ∷ xs) = pick (eqb x code) (0x80 + i) (placed code (suc i) xs)

unfoldable byte_of : ℕ → ℕ
byte_of code = pick (ltb code 256) code (placed code 0 index)

-- for the loop over the index: what is left of it gives what all of it does
module _ (code i : ℕ) (left : placed code i (drop i index) ≡ placed code 0 index) where
  next : i < 32 → pick (eqb (get_or index i 0) code) (0x80 + i) (placed code (suc i) (drop (suc i) index)) ≡ placed code 0 index
  unfolding index
  next h = rw (drop-cons index i 0 h) at left

  pub placed_here : i < 32 → get_or index i 0 ≡ code → 0x80 + i ≡ placed code 0 index
  placed_here h e = rw (eq-eqb (get_or index i 0) code e) at (next h)

  pub placed_on : i < 32 → (get_or index i 0 ≡ code → ⊥) → placed code (i + 1) (drop (i + 1) index) ≡ placed code 0 index
  placed_on h e = rw (add-one i) (rw (ne_eqb (get_or index i 0) code e) at (next h))

  pub placed_nowhere : 32 ≤ i → 0 ≡ placed code 0 index
  unfolding index
  placed_nowhere h = rw (drop_of_length-le index h) at left

right : ℕ → Bool
right b = eqb (byte_of (code_point b)) b && ltb (code_point b) 65536

below : (ℕ → Bool) → ℕ → Bool
below f zero = true
below f (suc n) = f n && below f n

at_each : (f : ℕ → Bool) (n k : ℕ) → below f n ≡ true → k < n → f k ≡ true
unfolding below
at_each f zero k e h = absurd (omega arith)
at_each f (suc n) k e h =
    let t = both_true (f n) (below f n) e in
    elim (dec_lt k n) [
      | yes d ↦ at_each f n k t.1 d
      | no d ↦ let g : k ≡ n = omega arith in rw g t.0
    ]

-- the test of all bytes: the byte is found again by its code point, which has no more than three bytes of UTF-8
each_right : (b : ℕ) → b < 256 → right b ≡ true
unfolding below right byte_of code_point index
each_right b h = at_each right 256 b refl h

byte_found : (b : ℕ) → b < 256 → byte_of (code_point b) ≡ b
unfolding right
byte_found b h = eqb-true (byte_of (code_point b)) b (both_true _ _ (each_right b h)).0

pub code_small : (b : ℕ) → b < 256 → code_point b < 65536
unfolding right
code_small b h = ltb-true (code_point b) 65536 (both_true (eqb (byte_of (code_point b)) b) _ (each_right b h)).1

pub byte_low : (code b : ℕ) → code < 256 → b < 256 → code_point b ≡ code → code ≡ b
unfolding byte_of
byte_low code b l h e = let k : byte_of code ≡ code = rw (lt-ltb code 256 l) in sym k ∙ ap byte_of (sym e) ∙ byte_found b h

pub byte_placed : (code r b : ℕ) → 256 ≤ code → r ≡ placed code 0 index → b < 256 → code_point b ≡ code → r ≡ b
unfolding byte_of
byte_placed code r b l p h e = let k : byte_of code ≡ placed code 0 index = rw (le-ltb code 256 l) in p ∙ sym k ∙ ap byte_of (sym e) ∙ byte_found b h

-- ---- one byte, or none
pub byte_only : (s : List ℕ) (code byte : ℕ) → ((c : ℕ) → c < 65536 → begins (encoded c) s ≡ true → code ≡ c) → ((b : ℕ) → b < 256 → code_point b ≡ code → byte ≡ b)
    → (b : ℕ) → b < 256 → begins (character b) s ≡ true → byte ≡ b
unfolding character
byte_only s code byte f g b h e = g b h (sym (f (code_point b) (code_small b h) e))

pub same_byte : (us : List ℕ) (a b : ℕ) → a < 256 → b < 256 → begins (character a) us ≡ true → begins (character b) us ≡ true → a ≡ b
unfolding character
same_byte us a b g h d e =
    let p : code_point a ≡ code_point b = sym (code_at_front (code_point a) us (code_small a g) d) ∙ code_at_front (code_point b) us (code_small b h) e in
    sym (byte_found a g) ∙ ap byte_of p ∙ byte_found b h

-- one of them has its character at the front
Stands : List ℕ → ℕ → ℕ → Type 0
Stands us n b = (b < n) × (begins (character b) us ≡ true)

among_some : (n : ℕ) (us : List ℕ) (b : ℕ) → among n us ≡ Some b → Stands us n b
unfolding among Stands
among_some zero us b e = let z : ◌≡◌ {A = ℕ} 0 1 = cc in absurd (omega arith)
among_some (suc n) us b e = judged (begins (character n) us) refl (λ g. among_some n us b g) e
  where
    judged : (o : Bool) → begins (character n) us ≡ o → (among n us ≡ Some b → Stands us n b) → pick o (Some n) (among n us) ≡ Some b → Stands us (suc n) b
    judged true t more g = let h : n ≡ b = cc in (omega arith, rw h at t)
    judged false t more g = (omega (arith, (more g).0), (more g).1)

among_none : (n : ℕ) (us : List ℕ) (b : ℕ) → among n us ≡ None → b < n → begins (character b) us ≡ true → ⊥
unfolding among
among_none zero us b e h t = omega arith
among_none (suc n) us b e h t = judged (begins (character n) us) refl (λ g k. among_none n us b g k t) e
  where
    judged : (o : Bool) → begins (character n) us ≡ o → (among n us ≡ None → b < n → ⊥) → pick o (Some n) (among n us) ≡ None → ⊥
    judged true s more g = let z : ◌≡◌ {A = ℕ} 0 1 = cc in omega arith
    judged false s more g = elim (dec_lt b n) [
      | yes d ↦ more g d
      | no d ↦
          let k : b ≡ n = omega arith in
          let r : begins (character n) us ≡ true = rw k at t in
          let z : ◌≡◌ {A = Bool} true false = sym r ∙ s in
          let y : ◌≡◌ {A = ℕ} 0 1 = cc in omega arith
    ]

pub front_stands : (us : List ℕ) (b : ℕ) → front us ≡ Some b → (b < 256) × (begins (character b) us ≡ true)
unfolding front Stands
front_stands us b e = among_some 256 us b e

pub front_is : (us : List ℕ) (b : ℕ) → b < 256 → begins (character b) us ≡ true → front us ≡ Some b
unfolding front
front_is us b h e = judged (front us) refl
  where
    judged : (o : Option ℕ) → front us ≡ o → o ≡ Some b
    judged None g = let z : ◌≡◌ {A = ℕ} 0 1 = absurd (among_none 256 us b g h e) in cc
    judged (Some a) g =
        let t = front_stands us a g in
        ap (λ (x : ℕ). Some x) (same_byte us a b t.0 h t.1 e)

-- where the one byte that can have its character at the front has not, none has
pub front_is_none : (us : List ℕ) (a : ℕ) → ((b : ℕ) → b < 256 → begins (character b) us ≡ true → a ≡ b) → begins (character a) us ≡ false → front us ≡ None
front_is_none us a one e = judged (front us) refl
  where
    judged : (o : Option ℕ) → front us ≡ o → o ≡ None
    judged None g = refl
    judged (Some b) g =
        let t = front_stands us b g in
        let k : a ≡ b = one b t.0 t.1 in
        let r : begins (character a) us ≡ true = rw (← k) at t.1 in
        let z : ◌≡◌ {A = Bool} true false = sym r ∙ e in cc

-- a byte below 0x80 at the front is its own character, and the rest stands behind it
pub front_ascii : (us : List ℕ) → 1 ≤ length us → get_or us 0 0 < 0x80
    → (front us ≡ Some (get_or us 0 0)) × (take (length us - 1) (drop 1 us) ≡ drop (length (character (get_or us 0 0))) us)
front_ascii [] l h = absurd (omega arith)
front_ascii (u ∷ us) l h =
    let e : character u ≡ u ∷ [] = character_same u h in
    let t : begins (character u) (u ∷ us) ≡ true = rw e (begins_append (u ∷ []) us) in
    (front_is (u ∷ us) u (omega arith) t, rw e (take_all (length (u ∷ us) - 1) us (omega arith)))

-- the character is no longer than the text
pub front_length : (us : List ℕ) (b : ℕ) → front us ≡ Some b → (1 ≤ length (character b)) × (length (character b) ≤ length us)
front_length us b e =
    let g : us ≡ character b ++ drop (length (character b)) us = begins_split (character b) us (front_stands us b e).1 in
    let l : length us ≡ length (character b) + length (drop (length (character b)) us) = ap length g ∙ length-append (character b) (drop (length (character b)) us) in
    ((character_length b).0, omega arith)
