-- What the kinds of field pass over.
use Prim.Native.Nat.{ℕ, zero, suc, ◌+◌, ◌*◌, ◌-◌, ◌≤◌, ◌<◌}
use native.Mathlib.Omega.{arith}
use native.Mathlib.Decide.{dec_le}
use mathlib.Core.Logic.{inl, inr}
use mathlib.Core.Path.{◌≡◌, refl}
use mathlib.Core.List.{List}
use lib.ListN.{get_or, take, drop}
use Rattle.format.specs.Text.{zero_at}
use Rattle.format.specs.Step.{pass, text}
use Rattle.format.specs.Prog.{Prog, ret, refuse, read, ok, run, bind}
use Rattle.format.specs.Alike.{Kept}
use Rattle.format.specs.Fields.{u8, number, u32, skip, text_bytes, MAXSTRING, string_past, fixed_string, less_one}
use Rattle.format.specs.Fields.{int_byte_string, int_byte_string_past, int_byte_string_unused_past}
use Rattle.format.proofs.Run.{ret_ok, read_ok, first_byte}
use Rattle.format.specs.Passed.{Skips, here, later, Stands, StringPassed}
use Rattle.format.proofs.Passed.{skips_after, skips_le, stands_skips, keeps_first}

-- three programs, one after another
bind_bind : {A B C : Type 0} (p : Prog A) (g : A → Prog B) (f : B → Prog C)
    → bind (bind p g) f ≡ bind p (λ a. bind (g a) f)
unfolding bind
bind_bind (ret a) g f = refl
bind_bind (refuse r) g f = refl
bind_bind (read k h) g f = λ i. read k (λ v. bind_bind (h v) g f i)

-- the bytes that a read passes over, whatever comes after it
pass_here : {A : Type 0} {s : List ℕ} {at : ℕ} (n : ℕ) {f : Unit → Prog A} → Skips s at n (read (pass n) f) at
pass_here n = here {step = pass n} (refl, refl)

-- ---- what a field of known width is followed by
pub next_byte : {A : Type 0} {s : List ℕ} {k n at : ℕ} (f : ℕ → Prog A)
    → ((b : ℕ) → Skips s k n (f b) (at + 1)) → Skips s k n (bind u8 f) at
unfolding u8 bind
next_byte f h = later (h _)

pub next_number : {A : Type 0} {s : List ℕ} {k n at : ℕ} (w : ℕ) (f : ℕ → Prog A)
    → ((r : ℕ) → Skips s k n (f r) (at + w)) → Skips s k n (bind (number w) f) at
unfolding number bind
next_number {at = at} zero f h = let e : at + 0 ≡ at = omega arith in rw e at (h 0)
next_number {at = at} (suc w) f h =
    let e : at + suc w ≡ at + 1 + w = omega arith in
    rw (bind_bind u8 (λ b. bind (number w) (λ r. ret (b + 256 * r))) f)
    (next_byte _ (λ b.
    rw (bind_bind (number w) (λ r. ret (b + 256 * r)) f)
    (next_number {at = at + 1} w _ (λ r. rw e at (h (b + 256 * r))))))

pub next_skip : {A : Type 0} {s : List ℕ} {k n at : ℕ} (m : ℕ) (f : Unit → Prog A)
    → Skips s k n (f tt) (at + m) → Skips s k n (bind (skip m) f) at
unfolding skip bind
next_skip m f h = later h

-- a skip that was read ends n bytes on
pub skip_ok : (s : List ℕ) (at n m : ℕ) → run (skip n) s at ≡ ok tt m → at + n ≡ m
unfolding skip
skip_ok s at n m e = (ret_ok s (at + n) m tt tt (read_ok s at m tt (pass n) (λ _. ret tt) e).2).1

module _ {s : List ℕ} {at : ℕ} where
  -- "Every byte a `skip` passes"
  pub skip_passed : (n : ℕ) → Skips s at n (skip n) at
  unfolding skip
  skip_passed n = pass_here n

  -- the contents of a string whose length byte alone counts
  pub unused_passed : Skips s (at + 4 + 1) (get_or s (at + 4) 0) int_byte_string_unused_past at
  unfolding int_byte_string_unused_past skip u8 bind
  unused_passed = rw (← (first_byte s (at + 4))) (later (later (pass_here _)))

  -- "the length byte inside `int_byte_string`"
  pub length_byte_passed : Skips s (at + 4) 1 int_byte_string at
  unfolding int_byte_string skip bind
  length_byte_passed = next_number 4 _ (λ _. pass_here 1)

  -- "bytes of a fixed field past its stated length"
  pub fixed_passed : (width : ℕ) → get_or s at 0 ≤ width
      → Skips s (at + 1 + get_or s at 0) (width - get_or s at 0) (fixed_string width) at
  unfolding fixed_string text_bytes skip u8 bind
  fixed_passed width l =
      let stated : get_or (take 1 (drop at s)) 0 0 ≤ width = rw (first_byte s at) l in
      rw (← (first_byte s at)) (later (skips_le _ _ stated (later (pass_here _))))

-- document 02, n: of a kept text, of n bytes, what follows its first zero byte; as far as that byte, and with it, each byte is kept
module _ (s : List ℕ) (at n : ℕ) where
  pub after_zero_passed : zero_at s at n < at + n → Skips s (zero_at s at n + 1) (at + n - (zero_at s at n + 1)) (text_bytes n) at
  unfolding text_bytes
  after_zero_passed l = here {step = text n} (refl, omega arith)

  pub text_kept : (i : ℕ) → at ≤ i → i < at + n → i ≤ zero_at s at n → Kept (text_bytes n) s at i
  unfolding text_bytes
  text_kept i l h c = inl (l, h, c)

-- each byte of a number is kept
pub number_kept : (w : ℕ) (s : List ℕ) (at i : ℕ) → at ≤ i → i < at + w → Kept (number w) s at i
unfolding number u8 bind
number_kept zero s at i l h = absurd (omega arith)
number_kept (suc w) s at i l h = elim (dec_le i at) [
  | yes d ↦ inl (omega arith)
  | no d ↦ inr (keeps_first (number w) _ s (at + 1) i (number_kept w s (at + 1) i (omega arith) (omega arith)))
]

-- of a string with a size the length byte inside, and the contents, of size less one
module _ {s : List ℕ} {at : ℕ} where
  size_length_passed : Skips s (at + 4) 1 int_byte_string_past at
  unfolding int_byte_string_past skip bind
  size_length_passed = next_number 4 _ (λ _. pass_here 1)

  size_contents_passed : (size : ℕ) → run u32 s at ≡ ok size (at + 4) → less_one size ≤ MAXSTRING
      → Skips s (at + 4 + 1) (less_one size) int_byte_string_past at
  unfolding int_byte_string_past string_past
  size_contents_passed size e l = skips_after _ _ _ _ _ e (next_skip 1 _ (skips_le _ _ l (skip_passed _)))

-- ---- strings that are passed over, where they stand
module _ {A : Type 0} {s : List ℕ} {p : Prog A} {at from : ℕ} where
  pub contents_passed : Stands s int_byte_string_unused_past at p from → Skips s (at + 4 + 1) (get_or s (at + 4) 0) p from
  contents_passed w = stands_skips w unused_passed

  pub string_passed : Stands s int_byte_string_past at p from → StringPassed s at p from
  string_passed w = record {
    length-byte = stands_skips w size_length_passed;
    contents = λ size e l. stands_skips w (size_contents_passed size e l);
  }

-- a string that is passed over in a field is so in all
pub string_in : {A B : Type 0} {s : List ℕ} {p : Prog A} {q : Prog B} {at m from : ℕ}
    → Stands s p m q from → StringPassed s at p m → StringPassed s at q from
string_in w h = record {
  length-byte = stands_skips w h.length-byte;
  contents = λ size e l. stands_skips w (h.contents size e l);
}
