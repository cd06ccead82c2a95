-- Rules for the fields that stand in a file that was read: the parts of a program, a choice, a turn.
use Prim.Native.Nat.{ℕ, zero, suc, ◌+◌, ◌≤◌, ◌<◌}
use native.Mathlib.Omega.{arith}
use mathlib.Core.Bool.{true}
use mathlib.Core.Path.{◌≡◌}
use mathlib.Core.List.{List}
use native.Mathlib.Decide.{dec_le}
use lib.Bits.{bit_and}
use lib.Dec.{eqb}
use borrow.Author.Tests.{le-leb, lt-leb, eq-eqb, ne_eqb, not-true}
use Rattle.format.specs.Step.{position}
use Rattle.format.specs.Prog.{Prog, ret, ok, run, bind, turns, when_le, when_eq, when_bits, has}
use Rattle.format.specs.Fields.{here, MAXSTRING, string_of, fixed_string, int_byte_string_unused, int_string, int_byte_string, less_one}
use Rattle.format.specs.Passed.{itself, first, then, Reads, Has, HasText}
use Rattle.format.proofs.Run.{ret_ok, refuse_ok, read_ok}
use Rattle.format.proofs.Passed.{both_read, stands_in}

-- the whole file
pub reads_all : {B : Type 0} (s : List ℕ) (q : Prog B) (from n : ℕ) (b : B) → run q s from ≡ ok b n
    → Reads s q from q from b n
reads_all s q from n b e = record { stands = itself; ran = e }

module _ {B : Type 0} {s : List ℕ} {q : Prog B} {from : ℕ} where
  -- a field whose position is known was read somewhere
  pub somewhere : {A : Type 0} {p : Prog A} {at n : ℕ} {a : A} → Reads s q from p at a n → Has s q from p
  somewhere w = (_, _, _, w)

  -- one program after another
  pub reads_parts {ℓ} : {A C : Type 0} {X : Type ℓ} (p : Prog A) (f : A → Prog C) {at n : ℕ} {c : C}
      → Reads s q from (bind p f) at c n
      → ((a : A) (m : ℕ) → Reads s q from p at a m → Reads s q from (f a) m c n → X) → X
  reads_parts p f {at = at} {n = n} {c = c} w h =
      both_read p f s at n c w.ran (λ a m d e.
      h a m (record { stands = stands_in (first f itself) w.stands; ran = d })
      (record { stands = stands_in (then p f d itself) w.stands; ran = e }))

  -- what was given back
  pub reads_ret : {A : Type 0} (x : A) {at n : ℕ} {a : A} → Reads s q from (ret x) at a n → x ≡ a
  reads_ret x {at} {n} {a} w = (ret_ok s at n a x w.ran).0

  -- where a field stands: nothing was read
  pub reads_here : {at a n : ℕ} → Reads s q from here at a n → (at ≡ a) × (at ≡ n)
  unfolding here
  reads_here {at} {a} {n} w =
      let r = ret_ok s (at + 0) n a at (read_ok s at n a position (λ x. ret x) w.ran).2 in
      (r.0, omega arith)

  -- choices
  pub reads_le : {A : Type 0} (p r : Prog A) {a b at n : ℕ} {x : A} → a ≤ b
      → Reads s q from (when_le a b p r) at x n → Reads s q from p at x n
  unfolding when_le
  reads_le p r {a = a} {b = b} l w = rw (le-leb a b l) at w

  pub reads_gt : {A : Type 0} (p r : Prog A) {a b at n : ℕ} {x : A} → b < a
      → Reads s q from (when_le a b p r) at x n → Reads s q from r at x n
  unfolding when_le
  reads_gt p r {a = a} {b = b} l w = rw (lt-leb a b l) at w

  pub reads_eq : {A : Type 0} (p r : Prog A) {a b at n : ℕ} {x : A} → a ≡ b
      → Reads s q from (when_eq a b p r) at x n → Reads s q from p at x n
  unfolding when_eq
  reads_eq p r {a = a} {b = b} e w = rw (eq-eqb a b e) at w

  pub reads_ne : {A : Type 0} (a b : ℕ) (p r : Prog A) {at n : ℕ} {x : A} → (a ≡ b → ⊥)
      → Reads s q from (when_eq a b p r) at x n → Reads s q from r at x n
  unfolding when_eq
  reads_ne a b p r e w = rw (ne_eqb a b e) at w

  pub reads_bits : {A : Type 0} (flags mask : ℕ) (p r : Prog A) {at n : ℕ} {x : A} → has flags mask ≡ true
      → Reads s q from (when_bits flags mask p r) at x n → Reads s q from p at x n
  unfolding when_bits has
  reads_bits flags mask p r e w = rw (not-true (eqb (bit_and flags mask) 0) e) at w

  -- a turn
  pub reads_turn {ℓ} : {S : Type 0} {X : Type ℓ} (f : ℕ → S → Prog S) (k i j : ℕ) (x : S) {y : S} {at n : ℕ} → j < k
      → Reads s q from (turns k i f x) at y n
      → ((st st' : S) (m m' : ℕ) → Reads s q from (f (i + j) st) m st' m' → X) → X
  unfolding turns
  reads_turn f zero i j x l w h = absurd (omega arith)
  reads_turn f (suc k) i zero x l w h =
      let z : i ≡ i + 0 = omega arith in
      reads_parts _ _ w (λ a m v _. h x a _ m (rw z at v))
  reads_turn f (suc k) i (suc j) x l w h =
      let z : i + 1 + j ≡ i + suc j = omega arith in
      reads_parts _ _ w (λ a m _ v. reads_turn f k (i + 1) j a (omega arith) v (λ st st' m m' u. h st st' m m' (rw z at u)))

-- ---- each kind of kept string has its text
module _ {B : Type 0} {s : List ℕ} {q : Prog B} {from : ℕ} where
  string_text : (size : ℕ) → Has s q from (string_of size) → HasText s q from
  unfolding string_of
  string_text size w = elim (dec_le size MAXSTRING) [
    | yes l ↦ (size, somewhere (reads_le _ _ l w.3))
    | no l ↦ let none : ⊥ = refuse_ok s _ _ _ _ (reads_gt _ _ (omega arith) w.3).ran in absurd none
  ]

  pub fixed_text : (width : ℕ) → Has s q from (fixed_string width) → HasText s q from
  unfolding fixed_string
  fixed_text width w = reads_parts _ _ w.3 (λ n _ _ r. elim (dec_le n width) [
    | yes l ↦ reads_parts _ _ (reads_le _ _ l r) (λ _ _ t _. (n, somewhere t))
    | no l ↦ (width, somewhere (reads_gt _ _ (omega arith) r))
  ])

  pub unused_text : Has s q from int_byte_string_unused → HasText s q from
  unfolding int_byte_string_unused
  unused_text w = reads_parts _ _ w.3 (λ _ _ _ r. reads_parts _ _ r (λ n _ _ t. (n, somewhere t)))

  pub int_text : Has s q from int_string → HasText s q from
  unfolding int_string
  int_text w = reads_parts _ _ w.3 (λ n _ _ t. string_text n (somewhere t))

  pub int_byte_text : Has s q from int_byte_string → HasText s q from
  unfolding int_byte_string
  int_byte_text w = reads_parts _ _ w.3 (λ size _ _ r. reads_parts _ _ r (λ _ _ _ t. string_text (less_one size) (somewhere t)))
