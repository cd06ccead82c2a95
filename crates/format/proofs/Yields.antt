-- Rules for what programs of reads hand on: a return, a bind, a choice, turns, each step of field.
use Prim.Native.Nat.{ℕ, zero, suc, ◌+◌, ◌≤◌, ◌<◌}
use native.Mathlib.Omega.{arith}
use mathlib.Core.Path.{◌≡◌, refl, sym, ◌∙◌}
use mathlib.Core.List.{List}
use mathlib.Core.Bool.{Bool, true, false, ◌||◌}
use lib.ListN.{length, get_or, take, drop}
use lib.Dec.{leb, ltb, eqb}
use lib.Bits.{bit_and}
use borrow.Author.Tests.{leb-true, leb-false, ltb-false, eqb-true, eqb-false}
use Rattle.format.specs.declared.Counted.{Counted}
use Rattle.format.specs.Text.{pick, text_of, no_text}
use Rattle.format.specs.Count.{NEGATIVE, limit_of, too_many, word_at}
use Rattle.format.specs.Step.{pass, text, position}
use Rattle.format.specs.Prog.{Prog, Refusal, ret, refuse, Res, ok, stopped, run, bind, turns, when_le, when_eq, when_bits}
use Rattle.format.specs.Fields.{u8, number, skip, text_bytes, count, here}
use Rattle.format.specs.Fields.{string_of, fixed_string, int_byte_string_unused, int_byte_string}
use Rattle.format.specs.Yields.{Yields, Onward, Bytes, OfFile}
use Rattle.format.proofs.Run.{and_then, run_bind, clash, ret_ok, refuse_ok, read_ok, byte_ok, count_ok, run_within}
use Rattle.format.proofs.Text.{none_of_file, text_of_file}

module _ {A : Type 0} {s : List ℕ} {at : ℕ} {Q : A → ℕ → Type 0} where
  -- of any program it is known that it goes on, and within the file
  pub yield_any : {p : Prog A} → ((a : A) (n : ℕ) → Onward s at n → Q a n) → Yields s p at Q
  yield_any {p} h = record { yields = λ l a n e. h a n (run_within p s at n a l e) }

  pub yield_ret : {a : A} → Q a at → Yields s (ret a) at Q
  yield_ret {a} h = record { yields = λ l b n e. let w = ret_ok s at n b a e in rw (w.0, w.1) at h }

  pub yield_refuse : {r : Refusal} → Yields s (refuse r) at Q
  yield_refuse {r} = record { yields = λ l a n e. refuse_ok s at n a r e }

  pub yield_less : {p : Prog A} {R : A → ℕ → Type 0}
      → Yields s p at R → ((a : A) (n : ℕ) → R a n → Q a n) → Yields s p at Q
  yield_less h k = record { yields = λ l a n e. k a n (h.yields l a n e) }

-- ---- one program after another: with what is known of the first, or with nothing but where it ends
module _ {A B : Type 0} {s : List ℕ} {at : ℕ} {p : Prog A} {Q : B → ℕ → Type 0} (f : A → Prog B) where
  pub yield_bind : {R : A → ℕ → Type 0}
      → Yields s p at R → ((a : A) (m : ℕ) → Onward s at m → R a m → Yields s (f a) m Q) → Yields s (bind p f) at Q
  yield_bind h k = record { yields = λ l b n e. go l b n (run p s at) refl (sym (run_bind p f s at) ∙ e) }
    where
      go : at ≤ length s → (b : B) (n : ℕ) (x : Res A)
          → run p s at ≡ x → and_then x (λ a m. run (f a) s m) ≡ ok b n → Q b n
      go l b n (ok a m) d e = let w = run_within p s at m a l d in (k a m w (h.yields l a m d)).yields w.1 b n e
      go l b n (stopped r) d e = clash (cc)

pub yield_after : {A B : Type 0} {s : List ℕ} {at : ℕ} {Q : B → ℕ → Type 0} (p : Prog A) (f : A → Prog B)
    → ((a : A) (m : ℕ) → Onward s at m → Yields s (f a) m Q) → Yields s (bind p f) at Q
yield_after p f k = yield_bind f (yield_any (λ a m w. w)) (λ a m w _. k a m w)

-- ---- choices, with what the test says
module _ {A : Type 0} {s : List ℕ} {at : ℕ} {Q : A → ℕ → Type 0} {p q : Prog A} where
  pub yield_pick : (t : Bool)
      → (t ≡ true → Yields s p at Q) → (t ≡ false → Yields s q at Q) → Yields s (pick t p q) at Q
  yield_pick true h k = h refl
  yield_pick false h k = k refl

  pub yield_le : (a b : ℕ) → (a ≤ b → Yields s p at Q) → (b < a → Yields s q at Q) → Yields s (when_le a b p q) at Q
  unfolding when_le
  yield_le a b h k = yield_pick (leb a b) (λ e. h (leb-true a b e)) (λ e. k (leb-false a b e))

  pub yield_eq : (a b : ℕ)
      → (a ≡ b → Yields s p at Q) → ((a ≡ b → ⊥) → Yields s q at Q) → Yields s (when_eq a b p q) at Q
  unfolding when_eq
  yield_eq a b h k = yield_pick (eqb a b) (λ e. h (eqb-true a b e)) (λ e. k (eqb-false a b e))

module _ {A : Type 0} {s : List ℕ} {at : ℕ} {Q : A → ℕ → Type 0} {p q : Prog A} where
  pub yield_bits : (a m : ℕ) → Yields s p at Q → Yields s q at Q → Yields s (when_bits a m p q) at Q
  unfolding when_bits
  yield_bits a m h k = yield_pick (eqb (bit_and a m) 0) (λ _. k) (λ _. h)

-- ---- turns: what each keeps, all keep
pub yield_turns : {S : Type 0} {s : List ℕ} {at : ℕ} (P : S → ℕ → Type 0) (f : ℕ → S → Prog S)
    → ((i : ℕ) (st : S) (m : ℕ) → P st m → Yields s (f i st) m P)
    → (k i : ℕ) (st : S) → P st at → Yields s (turns k i f st) at P
unfolding turns
yield_turns P f h zero i st l = yield_ret l
yield_turns P f h (suc k) i st l = yield_bind _ (h i st _ l) (λ t m w g. yield_turns P f h k (i + 1) t g)

-- ---- fields
module _ {s : List ℕ} {at : ℕ} where
  pub yield_u8 : Yields s u8 at (λ b n. (b ≡ get_or s at 0) × (n ≡ at + 1))
  unfolding u8
  yield_u8 = record {
    yields = λ l b n e.
        let w = ret_ok s (at + 1) n b (get_or s at 0) (byte_ok s at n b (λ x. ret x) e).1 in
        (sym w.0, sym w.1);
  }

  pub yield_byte : Bytes s → Yields s u8 at (λ b n. (b < 256) × (n ≡ at + 1))
  yield_byte small = yield_less yield_u8 (λ b n w. (rw w.0 (small at), w.1))

  pub yield_skip : (k : ℕ) → Yields s (skip k) at (λ _ n. n ≡ at + k)
  unfolding skip
  yield_skip k = record { yields = λ l a n e. sym (ret_ok s (at + k) n a tt (read_ok s at n a (pass k) (λ _. ret tt) e).2).1 }

  -- where a field stands
  pub yield_here : Yields s here at (λ a n. (a ≡ at) × (n ≡ at))
  unfolding here
  yield_here = record {
    yields = λ l a n e.
        let w = ret_ok s (at + 0) n a at (read_ok s at n a position (λ x. ret x) e).2 in
        (sym w.0, omega arith);
  }

  pub yield_words : (k : ℕ) → Yields s (text_bytes k) at (λ t _. OfFile s t)
  unfolding text_bytes
  yield_words k = record {
    yields = λ l t n e.
        let w = read_ok s at n t (text k) (λ x. ret x) e in
        rw (ret_ok s (at + k) n t (text_of at (take k (drop at s))) w.2).0 at (text_of_file s at k w.0);
  }

pub yield_number : {s : List ℕ} {at : ℕ} (w : ℕ) → Yields s (number w) at (λ _ n. n ≡ at + w)
unfolding number
yield_number zero = yield_ret (omega arith)
yield_number (suc w) =
    yield_bind _ yield_u8 (λ b m _ h. yield_bind _ (yield_number w) (λ r n _ k. yield_ret (omega arith)))

second_false : (a b : Bool) → a || b ≡ false → b ≡ false
second_false true b e = clash (cc)
second_false false b e = e

-- a count is within its limit
pub within_limit : (which : Counted) (v : ℕ) → too_many which v ≡ false → v ≤ limit_of which
unfolding too_many
within_limit which v e = ltb-false _ _ (second_false (leb NEGATIVE v) (ltb (limit_of which) v) e)

pub yield_count : {s : List ℕ} {at : ℕ} (which : Counted)
    → Yields s (count which) at (λ v n. (v ≤ limit_of which) × (n ≡ at + 4))
unfolding count
yield_count {s} {at} which = record {
  yields = λ l v n e.
      let w = count_ok s at n v which (λ x. ret x) e in
      let r = ret_ok s (at + 4) n v (word_at s at) w.2 in
      (rw r.0 at (within_limit which (word_at s at) w.1), sym r.1);
}

-- ---- strings: each text is one of the file
pub yield_string_of : {s : List ℕ} {at : ℕ} (n : ℕ) → Yields s (string_of n) at (λ t _. OfFile s t)
unfolding string_of
yield_string_of n = yield_le _ _ (λ _. yield_words n) (λ _. yield_refuse)

module _ {s : List ℕ} {at : ℕ} where
  pub yield_no_text : Yields s (ret no_text) at (λ t _. OfFile s t)
  yield_no_text = yield_ret (none_of_file s)

  pub yield_fixed_string : (width : ℕ) → Yields s (fixed_string width) at (λ t _. OfFile s t)
  unfolding fixed_string
  yield_fixed_string width =
      yield_after _ _ (λ n _ _.
      yield_le _ _
      (λ _. yield_bind _ (yield_words n) (λ t _ _ h. yield_after _ _ (λ _ _ _. yield_ret h)))
      (λ _. yield_words width))

  pub yield_int_byte_string_unused : Yields s int_byte_string_unused at (λ t _. OfFile s t)
  unfolding int_byte_string_unused
  yield_int_byte_string_unused = yield_after _ _ (λ _ _ _. yield_after _ _ (λ n _ _. yield_words n))

  pub yield_int_byte_string : Yields s int_byte_string at (λ t _. OfFile s t)
  unfolding int_byte_string
  yield_int_byte_string = yield_after _ _ (λ size _ _. yield_after _ _ (λ _ _ _. yield_string_of _))

-- every way that a program may take, where nothing is asked of its fields but what it makes of them
pub ruleset yielding = (yield_ret, yield_refuse, yield_after, yield_le, yield_eq, yield_bits)
