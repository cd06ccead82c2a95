-- A turn of each loop: what is written of a text's first byte and of the rest, and what is read back of a first character and of the rest.
use Prim.Native.Nat.{ℕ, zero, suc, ◌+◌, ◌-◌, ◌≤◌, ◌<◌}
use native.Mathlib.Omega.{arith}
use native.Mathlib.Nat.{zero-add, add-zero}
use native.Mathlib.Numerals.{add-one}
use mathlib.Core.Path.{◌≡◌, refl, ap, sym, ◌∙◌}
use mathlib.Core.List.{List, [], ◌∷◌, ◌++◌}
use mathlib.Core.Bool.{Bool, true, false}
use lib.Dec.{eqb}
use borrow.Author.Tests.{le-leb, lt-leb, tests}
use lib.ListN.{length, get_or, set, take, drop, length-append, length-drop, drop_of_length-le}
use lib.Seq.{sets, drop-cons}
use Rattle.std.specs.Prelude.{Option, None, Some, option_map}
use Rattle.std.specs.Cmp.Lexicographic.{pointwise}
use Rattle.tables.proofs.Laws.{sets_append}
use Rattle.utf8.specs.Characters.{character, written}
use Rattle.utf8.specs.Back.{begins, front, before, followed, back_by, back}
use Rattle.utf8.specs.Answers.{largest}
use Rattle.utf8.specs.Found.{stated}
use Rattle.utf8.proofs.Front.{front_is, front_is_none, front_length}

-- ---- what a text begins with, as the library has it
eqb_comm : (a b : ℕ) → eqb a b ≡ eqb b a
eqb_comm a b = grind (arith, tests)

pub begins_pointwise : (xs us : List ℕ) → pointwise eqb (take (length xs) us) xs ≡ begins xs us
unfolding begins
begins_pointwise [] us = refl
begins_pointwise (x ∷ xs) [] = refl
begins_pointwise (x ∷ xs) (u ∷ us) = rw (eqb_comm u x, begins_pointwise xs us)

module _ (byte : ℕ) (xs s : List ℕ) (e : xs ≡ character byte) where
  held : {t : Bool} → pointwise eqb (take (length xs) s) xs ≡ t → begins (character byte) s ≡ t
  held h = ap (λ (x : List ℕ). begins x s) (sym e) ∙ sym (begins_pointwise xs s) ∙ h

  pub found_there : byte < 256 → pointwise eqb (take (length xs) s) xs ≡ true → front s ≡ Some byte
  found_there l h = front_is s byte l (held h)

  pub found_nowhere : ((a : ℕ) → a < 256 → begins (character a) s ≡ true → byte ≡ a) → pointwise eqb (take (length xs) s) xs ≡ false → front s ≡ None
  found_nowhere only h = front_is_none s byte only (held h)

-- ---- writing
pub written_next : (bs : List ℕ) (i : ℕ) → i < length bs → written (drop i bs) ≡ character (get_or bs i 0) ++ written (drop (i + 1) bs)
unfolding written
written_next bs i h = rw (drop-cons bs i 0 h, add-one i)

pub written_length : (bs : List ℕ) (i : ℕ) → i < length bs → length (written (drop i bs)) ≡ length (character (get_or bs i 0)) + length (written (drop (i + 1) bs))
written_length bs i h = rw (written_next bs i h) (length-append (character (get_or bs i 0)) (written (drop (i + 1) bs)))

pub written_out : (bs : List ℕ) (i : ℕ) → length bs ≤ i → written (drop i bs) ≡ []
unfolding written
written_out bs i h = rw (drop_of_length-le bs h)

-- a character is stored where those before it end
pub write_on : (bs out : List ℕ) (at i : ℕ) → i < length bs → (xs : List ℕ) (end : ℕ) → xs ≡ character (get_or bs i 0) → end ≡ at + length xs
    → sets (sets out at xs) end (written (drop (i + 1) bs)) ≡ sets out at (written (drop i bs))
write_on bs out at i h xs end e m =
    rw m (sets_append xs (written (drop (i + 1) bs)) out at _ refl)
    ∙ ap (sets out at) (ap (λ (l : List ℕ). l ++ written (drop (i + 1) bs)) e ∙ sym (written_next bs i h))

pub stated_length : (n : ℕ) → n ≤ largest → Some n ≡ stated n
stated_length n h = rw (le-leb n largest h)

pub stated_not : (n : ℕ) → largest < n → None ≡ stated n
stated_not n h = rw (lt-leb n largest h)

-- ---- reading back: more turns than there are characters change nothing
enough : (n m : ℕ) (us : List ℕ) → length us ≤ n → length us ≤ m → back_by n us ≡ back_by m us
unfolding back_by
enough zero zero us h k = refl
enough zero (suc m) [] h k = refl
enough zero (suc m) (u ∷ us) h k = absurd (omega arith)
enough (suc n) zero [] h k = refl
enough (suc n) zero (u ∷ us) h k = absurd (omega arith)
enough (suc n) (suc m) [] h k = refl
enough (suc n) (suc m) (u ∷ us) h k = judged (front (u ∷ us)) refl (λ w p q. enough n m w p q)
  where
    judged : (o : Option ℕ) → front (u ∷ us) ≡ o → ((w : List ℕ) → length w ≤ n → length w ≤ m → back_by n w ≡ back_by m w)
        → followed o (λ b. back_by n (drop (length (character b)) (u ∷ us))) ≡ followed o (λ b. back_by m (drop (length (character b)) (u ∷ us)))
    judged None g more = refl
    judged (Some b) g more =
        let t = front_length (u ∷ us) b g in
        let l : length (drop (length (character b)) (u ∷ us)) ≡ suc (length us) - length (character b) = length-drop (length (character b)) (u ∷ us) in
        ap (before b) (more (drop (length (character b)) (u ∷ us)) (omega arith) (omega arith))

pub back_next : (us : List ℕ) (b : ℕ) → 0 < length us → front us ≡ Some b → back us ≡ before b (back (drop (length (character b)) us))
unfolding back back_by
back_next [] b h e = absurd (omega arith)
back_next (u ∷ us) b h e =
    let t = front_length (u ∷ us) b e in
    let rest = drop (length (character b)) (u ∷ us) in
    let l : length rest ≡ suc (length us) - length (character b) = length-drop (length (character b)) (u ∷ us) in
    rw e (ap (before b) (enough (length us) (length rest) rest (omega arith) (omega arith)))

pub back_empty : back [] ≡ Some []
unfolding back back_by
back_empty = refl

pub back_refused : (us : List ℕ) → 0 < length us → front us ≡ None → back us ≡ None
unfolding back back_by
back_refused [] h e = absurd (omega arith)
back_refused (u ∷ us) h e = rw e

-- ---- for the loop over a text that is read back: how many bytes there are with n before them; what the buffer holds with them at n
abbrev pub counted_from : ℕ → Option (List ℕ) → Option ℕ
counted_from n None = None
counted_from n (Some bs) = Some (n + length bs)

abbrev pub stored_from : List ℕ → ℕ → Option (List ℕ) → Option (List ℕ)
stored_from out n None = None
stored_from out n (Some bs) = Some (sets out n bs)

pub counted_none : (o : Option (List ℕ)) → counted_from 0 o ≡ option_map length o
counted_none None = refl
counted_none (Some bs) = rw (zero-add (length bs))

pub left_over : (n : ℕ) → eqb n 0 ≡ false → 0 < n
left_over n e = grind (arith, tests)

-- a character stands at the front
module _ (us : List ℕ) (h : 0 < length us) (b : ℕ) (f : front us ≡ Some b) where
  abbrev rest : List ℕ
  rest = drop (length (character b)) us

  pub shorter : length rest + 1 ≤ length us
  shorter = omega (arith, front_length us b f, length-drop (length (character b)) us)

  pub count_on : (n : ℕ) → counted_from (n + 1) (back rest) ≡ counted_from n (back us)
  count_on n = judged (back rest) ∙ sym (ap (counted_from n) (back_next us b h f))
    where
      judged : (o : Option (List ℕ)) → counted_from (n + 1) o ≡ counted_from n (before b o)
      judged None = refl
      judged (Some bs) = let k : n + 1 + length bs ≡ n + suc (length bs) = omega arith in rw k

  pub store_on : (out : List ℕ) (n : ℕ) → stored_from (set out n b) (n + 1) (back rest) ≡ stored_from out n (back us)
  store_on out n = judged (back rest) ∙ sym (ap (stored_from out n) (back_next us b h f))
    where
      judged : (o : Option (List ℕ)) → stored_from (set out n b) (n + 1) o ≡ stored_from out n (before b o)
      judged None = refl
      judged (Some bs) = rw (add-one n)

-- ---- at the end of a text
back_out : (us : List ℕ) → length us ≤ 0 → back us ≡ Some []
back_out [] h = back_empty
back_out (u ∷ us) h = absurd (omega arith)

pub counted_all : (us text : List ℕ) (n : ℕ) → length us ≤ 0 → counted_from n (back us) ≡ option_map length (back text) → Some n ≡ option_map length (back text)
counted_all us text n h e = rw (back_out us h, add-zero) at e

pub stored_all : (us text : List ℕ) (n : ℕ) → length us ≤ 0 → (out out₀ bs : List ℕ) → stored_from out n (back us) ≡ stored_from out₀ 0 (back text) → back text ≡ Some bs → out ≡ sets out₀ 0 bs
stored_all us text n h out out₀ bs e g = let k : Some out ≡ Some (sets out₀ 0 bs) = rw (back_out us h, g) at e in cc

pub stored_none : (us text : List ℕ) (n : ℕ) → back us ≡ None → (out out₀ bs : List ℕ) → stored_from out n (back us) ≡ stored_from out₀ 0 (back text) → back text ≡ Some bs → out ≡ sets out₀ 0 bs
stored_none us text n f out out₀ bs e g = let k : None ≡ Some (sets out₀ 0 bs) = rw (f, g) at e in cc
