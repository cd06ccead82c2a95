-- What is answered where a text fits a buffer, where it does not, and where it is refused: from what the code counted.
use Prim.Native.Nat.{ℕ, ◌-◌, ◌≤◌, ◌<◌, min}
use native.Mathlib.Omega.{arith}
use native.Mathlib.Decide.{dec_le}
use native.Mathlib.Nat.{zero-add}
use mathlib.Core.Path.{◌≡◌, refl, ap, ◌∙◌}
use mathlib.Core.List.{List, ◌++◌}
use lib.ListN.{length, take, drop}
use lib.Seq.{sets, sets-eq}
use borrow.Author.Tests.{le-leb, lt-leb}
use Rattle.std.specs.Prelude.{Option, None, Some, Ok, Err, ok_or, option_map}
use Rattle.std.specs.Slice.{IsGetRangeResult}
use Rattle.std.proofs.Common.{inl, inr}
use denote.Bor.{Bor}
use Rattle.format.specs.declared.Range.{Range}
use Rattle.format.proofs.Text.{between}
use Rattle.bin.specs.Part.{part_of}
use Rattle.utf8.specs.declared.CodingError.TheVariants.{NoRange, NoCharacter, Short}
use Rattle.utf8.specs.Characters.{written}
use Rattle.utf8.specs.Back.{back}
use Rattle.utf8.specs.Answers.{Coded, Answer, largest, put, to_utf8, handed, from_utf8}
use Rattle.utf8.specs.Found.{stated}

-- a value, or what is said of none
module _ {T E : Type 0} (o : Option T) (e : E) where
  pub there : (x : T) → Ok x ≡ ok_or o e → o ≡ Some x
  there x h = judged o h
    where
      judged : (o : Option T) → Ok x ≡ ok_or o e → o ≡ Some x
      judged None g = let z : ◌≡◌ {A = ℕ} 0 1 = cc in absurd (omega arith)
      judged (Some y) g = cc

  pub not_there : (x : E) → Err x ≡ ok_or o e → (o ≡ None) × (x ≡ e)
  not_there x h = judged o h
    where
      judged : (o : Option T) → Err x ≡ ok_or o e → (o ≡ None) × (x ≡ e)
      judged None g = (refl, cc)
      judged (Some y) g = let z : ◌≡◌ {A = ℕ} 0 1 = cc in absurd (omega arith)

-- what a function returns, and what it leaves in the buffer
abbrev pub Is : Answer → Coded → List ℕ → Type 0
Is x r after = (r ≡ x.coded) × (after ≡ x.buffer)

-- ---- a text in a buffer
module _ {n : ℕ} (text out : List ℕ) where
  pub fits : (after : List ℕ) → n ≡ length text → n ≤ length out → after ≡ sets out 0 text → Is (put text out) (Ok n) after
  unfolding put
  fits after l h a =
      let k : length text ≤ length out = omega arith in
      let s : sets out 0 text ≡ text ++ drop (length text) out = rw (zero-add (length text)) at (sets-eq text out 0 (omega arith)) in
      rw (le-leb (length text) (length out) k) (rw l refl, a ∙ s)

  pub short : n ≡ min (length text) largest → length out < length text → Is (put text out) (Err (Short n)) out
  unfolding put
  short l h = rw (lt-leb (length text) (length out) h) (rw l refl, refl)

-- ---- writing
module _ (s : List ℕ) (r : Range) (out : List ℕ) where
  pub start_after_end : r.end < r.start → Is (to_utf8 s r out) (Err NoRange) out
  unfolding to_utf8
  start_after_end h = rw (lt-leb r.start r.end h) (refl, refl)

  pub end_past_input : length s < r.end → Is (to_utf8 s r out) (Err NoRange) out
  unfolding to_utf8
  end_past_input k = elim (dec_le r.start r.end) [
    | yes h ↦ rw (le-leb r.start r.end h, lt-leb r.end (length s) k) (refl, refl)
    | no h ↦ start_after_end (omega arith)
  ]

  pub within : r.start ≤ r.end → r.end ≤ length s → to_utf8 s r out ≡ put (written (take (r.end - r.start) (drop r.start s))) out
  unfolding to_utf8 part_of
  within h k = rw (le-leb r.start r.end h, le-leb r.end (length s) k, between r.start r.end s h)

-- the part that a range names, or none where it does not fit
module _ (s : List ℕ) (r : Range) (out : List ℕ) {o : Option (Bor (List ℕ))} (g : IsGetRangeResult s r.start r.end o) where
  pub part_none : o ≡ None → Is (to_utf8 s r out) (Err NoRange) out
  part_none e = elim (rw e at g.0) [ inl h ↦ start_after_end s r out h | inr h ↦ end_past_input s r out h ]

  pub part_some : (x : Bor (List ℕ)) → o ≡ Some x → to_utf8 s r out ≡ put (written x.now) out
  part_some x e = let h = rw e at g.0 in within s r out h.0 h.1 ∙ rw h.2

module _ {l : Option ℕ} (n : ℕ) (e : l ≡ stated n) where
  pub stated_over : l ≡ None → largest < n
  stated_over g = elim (dec_le n largest) [
    | yes h ↦
        let k : l ≡ Some n = rw (le-leb n largest h) at e in
        let z : ◌≡◌ {A = ℕ} 0 1 = cc in absurd (omega arith)
    | no h ↦ omega arith
  ]

  pub stated_is : (m : ℕ) → l ≡ Some m → (m ≡ n) × (n ≤ largest)
  stated_is m g = elim (dec_le n largest) [
    | yes h ↦ let k : l ≡ Some n = rw (le-leb n largest h) at e in (cc, h)
    | no h ↦
        let k : l ≡ None = rw (lt-leb n largest (omega arith)) at e in
        let z : ◌≡◌ {A = ℕ} 0 1 = cc in absurd (omega arith)
  ]

-- ---- reading back
module _ (us out : List ℕ) {l : Option ℕ} (e : l ≡ option_map length (back us)) where
  pub refused_text : l ≡ None → Is (from_utf8 us out) (Err NoCharacter) out
  unfolding from_utf8
  refused_text g = judged (back us) refl
    where
      judged : (o : Option (List ℕ)) → back us ≡ o → Is (handed o out) (Err NoCharacter) out
      judged None h = (refl, refl)
      judged (Some bs) h =
          let k : l ≡ Some (length bs) = e ∙ ap (option_map length) h in
          let z : ◌≡◌ {A = ℕ} 0 1 = cc in absurd (omega arith)

  module _ (n : ℕ) (g : l ≡ Some n) where
    length-is : (bs : List ℕ) → back us ≡ Some bs → n ≡ length bs
    length-is bs h = let k : l ≡ Some (length bs) = e ∙ ap (option_map length) h in cc

    nothing : {X : Type 0} → back us ≡ None → X
    nothing h =
        let k : l ≡ None = e ∙ ap (option_map length) h in
        let z : ◌≡◌ {A = ℕ} 0 1 = cc in absurd (omega arith)

    pub read_fits : (after : List ℕ) → n ≤ length out → ((bs : List ℕ) → back us ≡ Some bs → after ≡ sets out 0 bs) → Is (from_utf8 us out) (Ok n) after
    unfolding from_utf8
    read_fits after f a = judged (back us) refl
      where
        judged : (o : Option (List ℕ)) → back us ≡ o → Is (handed o out) (Ok n) after
        judged None h = nothing h
        judged (Some bs) h = fits bs out after (length-is bs h) f (a bs h)

    pub read_short : n ≤ largest → length out < n → Is (from_utf8 us out) (Err (Short n)) out
    unfolding from_utf8
    read_short m f = judged (back us) refl
      where
        judged : (o : Option (List ℕ)) → back us ≡ o → Is (handed o out) (Err (Short n)) out
        judged None h = nothing h
        judged (Some bs) h = let k = length-is bs h in short bs out (omega arith) (omega arith)
