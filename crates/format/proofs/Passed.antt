-- Laws of the bytes passed over: each byte that was read is kept, or its sign alone counts, or it is passed over, and no two of these;
-- and what a field passes over is passed over in the file, wherever the field stands in it.
use Prim.Native.Nat.{ℕ, zero, suc, ◌+◌, ◌≤◌, ◌<◌}
use native.Mathlib.Omega.{arith}
use native.Mathlib.Decide.{dec_lt}
use mathlib.Core.Logic.{◌⊎◌, inl, inr}
use mathlib.Core.Path.{◌≡◌, refl, sym, ◌∙◌}
use mathlib.Core.List.{List}
use borrow.Author.Tests.{le-leb}
use Rattle.format.specs.Step.{Step, width, Handed, seen, Keeps, Signs}
use Rattle.format.specs.Prog.{Prog, ret, refuse, read, Res, ok, stopped, run, bind, turns, when_le}
use Rattle.format.specs.Alike.{Kept, Signed}
use Rattle.format.specs.Passed.{Skips, here, later, Share, kept, signed, skipped, Stands, itself, first, then}
use Rattle.format.proofs.Run.{and_then, run_bind, clash, ret_ok, refuse_ok, read_ok}
use Rattle.format.proofs.Step.{keeps_within, signs_within, passes_within, Over, one_of_three}
use Rattle.format.proofs.Step.{signs_not_kept, passes_not_kept, passes_not_signed}

-- ---- kept, its sign alone, or passed over

-- what is kept of a program stands from its position on
kept_from : {A : Type 0} (p : Prog A) (s : List ℕ) (at i : ℕ) → Kept p s at i → at ≤ i
kept_from (ret x) s at i k = absurd k
kept_from (refuse r) s at i k = absurd k
kept_from (read step f) s at i (inl k) = (keeps_within s at i step k).0
kept_from (read step f) s at i (inr k) = omega (arith, kept_from (f (seen step s at)) s (at + width step) i k)

-- so does what counts by its sign
signed_from : {A : Type 0} (p : Prog A) (s : List ℕ) (at i : ℕ) → Signed p s at i → at ≤ i
signed_from (ret x) s at i k = absurd k
signed_from (refuse r) s at i k = absurd k
signed_from (read step f) s at i (inl k) = (signs_within s at i step k).0
signed_from (read step f) s at i (inr k) = omega (arith, signed_from (f (seen step s at)) s (at + width step) i k)

-- and what is passed over
skips_from : {A : Type 0} {s : List ℕ} {k n : ℕ} {p : Prog A} {at : ℕ} → Skips s k n p at → at ≤ k
skips_from {s = s} {k = k} {n = n} (here {step = step} {at = at} h) = (passes_within s at k n step h).0
skips_from (later h) = omega (arith, skips_from h)

-- no byte that is passed over is kept
pub skipped_not_kept : {A : Type 0} {s : List ℕ} {k n : ℕ} {p : Prog A} {at : ℕ}
    → Skips s k n p at → (i : ℕ) → k ≤ i → i < k + n → Kept p s at i → ⊥
skipped_not_kept {s = s} {k = k} {n = n} (here {step = step} {at = at} h) i a b (inl x) = passes_not_kept s at i k n a b step h x
skipped_not_kept {s = s} {k = k} {n = n} (here {step = step} {f = f} {at = at} h) i a b (inr x) =
    let z = kept_from (f (seen step s at)) s (at + width step) i x in
    omega (arith, passes_within s at k n step h)
skipped_not_kept {s = s} (later {step = step} {at = at} h) i a b (inl x) = omega (arith, skips_from h, keeps_within s at i step x)
skipped_not_kept (later h) i a b (inr x) = skipped_not_kept h i a b x

-- nor does its sign count
pub skipped_not_signed : {A : Type 0} {s : List ℕ} {k n : ℕ} {p : Prog A} {at : ℕ}
    → Skips s k n p at → (i : ℕ) → k ≤ i → i < k + n → Signed p s at i → ⊥
skipped_not_signed {s = s} {k = k} {n = n} (here {step = step} {at = at} h) i a b (inl x) = passes_not_signed s at i k n a b step h x
skipped_not_signed {s = s} {k = k} {n = n} (here {step = step} {f = f} {at = at} h) i a b (inr x) =
    let z = signed_from (f (seen step s at)) s (at + width step) i x in
    omega (arith, passes_within s at k n step h)
skipped_not_signed {s = s} (later {step = step} {at = at} h) i a b (inl x) = omega (arith, skips_from h, signs_within s at i step x)
skipped_not_signed (later h) i a b (inr x) = skipped_not_signed h i a b x

-- nor is a byte kept whose sign alone counts
pub signed_not_kept : {A : Type 0} (p : Prog A) (s : List ℕ) (at i : ℕ) → Signed p s at i → Kept p s at i → ⊥
signed_not_kept (ret x) s at i g k = absurd g
signed_not_kept (refuse r) s at i g k = absurd g
signed_not_kept (read step f) s at i (inl g) (inl k) = signs_not_kept s at i step g k
signed_not_kept (read step f) s at i (inl g) (inr k) =
    omega (arith, signs_within s at i step g, kept_from (f (seen step s at)) s (at + width step) i k)
signed_not_kept (read step f) s at i (inr g) (inl k) =
    omega (arith, keeps_within s at i step k, signed_from (f (seen step s at)) s (at + width step) i g)
signed_not_kept (read step f) s at i (inr g) (inr k) = signed_not_kept (f (seen step s at)) s (at + width step) i g k

-- of a program that was read to its end each byte is one of the three
first_share : {A : Type 0} {s : List ℕ} {at i : ℕ} {step : Step} {f : Handed step → Prog A}
    → Keeps step s at i ⊎ (Signs step s at i ⊎ Over s at i step) → Share s (read step f) at i
first_share (inl x) = kept (inl x)
first_share (inr (inl x)) = signed (inl x)
first_share (inr (inr z)) = skipped (record { start = z.0; size = z.1; skips = here z.2; from = z.3; below = z.4 })

later_share : {A : Type 0} {s : List ℕ} {at i : ℕ} {step : Step} {f : Handed step → Prog A}
    → Share s (f (seen step s at)) (at + width step) i → Share s (read step f) at i
later_share (kept x) = kept (inr x)
later_share (signed x) = signed (inr x)
later_share (skipped z) =
    skipped (record { start = z.start; size = z.size; skips = later z.skips; from = z.from; below = z.below })

pub share : {A : Type 0} (p : Prog A) (s : List ℕ) (at n i : ℕ) (a : A) → run p s at ≡ ok a n → at ≤ i → i < n → Share s p at i
share (ret x) s at n i a e l h = let z = (ret_ok s at n a x e).1 in absurd (omega arith)
share (refuse r) s at n i a e l h = refuse_ok s at n a r e
share (read step f) s at n i a e l h = elim (dec_lt i (at + width step)) [
  | yes d ↦ first_share (one_of_three s at i step l d)
  | no d ↦ later_share
      (share (f (seen step s at)) s (at + width step) n i a (read_ok s at n a step f e).2 (omega arith) h)
]

-- ---- one program after another

-- what the first passes over, both do
pub skips_first : {A B : Type 0} {s : List ℕ} {k n : ℕ} {p : Prog A} {at : ℕ} (f : A → Prog B)
    → Skips s k n p at → Skips s k n (bind p f) at
unfolding bind
skips_first f (here h) = here h
skips_first f (later h) = later (skips_first f h)

-- and what the second does, from where the first ended
pub skips_after : {A B : Type 0} {s : List ℕ} {k n : ℕ} (p : Prog A) (at m : ℕ) (a : A) (f : A → Prog B)
    → run p s at ≡ ok a m → Skips s k n (f a) m → Skips s k n (bind p f) at
unfolding bind
skips_after {s = s} (ret x) at m a f e h = let w = ret_ok s at m a x e in rw (w.0, w.1) h
skips_after {s = s} (refuse r) at m a f e h = refuse_ok s at m a r e
skips_after {s = s} (read step g) at m a f e h =
    later (skips_after (g (seen step s at)) (at + width step) m a f (read_ok s at m a step g e).2 h)

-- what the first keeps, both do, and what the second keeps
pub keeps_first : {A B : Type 0} (p : Prog A) (f : A → Prog B) (s : List ℕ) (at i : ℕ) → Kept p s at i → Kept (bind p f) s at i
unfolding bind
keeps_first (ret x) f s at i k = absurd k
keeps_first (refuse r) f s at i k = absurd k
keeps_first (read step g) f s at i (inl k) = inl k
keeps_first (read step g) f s at i (inr k) = inr (keeps_first (g (seen step s at)) f s (at + width step) i k)

keeps_after : {A B : Type 0} (p : Prog A) (s : List ℕ) (at m i : ℕ) (a : A) (f : A → Prog B)
    → run p s at ≡ ok a m → Kept (f a) s m i → Kept (bind p f) s at i
unfolding bind
keeps_after (ret x) s at m i a f e k = let w = ret_ok s at m a x e in rw (w.0, w.1) k
keeps_after (refuse r) s at m i a f e k = refuse_ok s at m a r e
keeps_after (read step g) s at m i a f e k =
    inr (keeps_after (g (seen step s at)) s (at + width step) m i a f (read_ok s at m a step g e).2 k)

-- and the signs
signs_first : {A B : Type 0} (p : Prog A) (f : A → Prog B) (s : List ℕ) (at i : ℕ) → Signed p s at i → Signed (bind p f) s at i
unfolding bind
signs_first (ret x) f s at i k = absurd k
signs_first (refuse r) f s at i k = absurd k
signs_first (read step g) f s at i (inl k) = inl k
signs_first (read step g) f s at i (inr k) = inr (signs_first (g (seen step s at)) f s (at + width step) i k)

signs_after : {A B : Type 0} (p : Prog A) (s : List ℕ) (at m i : ℕ) (a : A) (f : A → Prog B)
    → run p s at ≡ ok a m → Signed (f a) s m i → Signed (bind p f) s at i
unfolding bind
signs_after (ret x) s at m i a f e k = let w = ret_ok s at m a x e in rw (w.0, w.1) k
signs_after (refuse r) s at m i a f e k = refuse_ok s at m a r e
signs_after (read step g) s at m i a f e k =
    inr (signs_after (g (seen step s at)) s (at + width step) m i a f (read_ok s at m a step g e).2 k)

-- ---- a field, where it stands

-- where one program after another was read, so was each
pub both_read {ℓ} : {A B : Type 0} {X : Type ℓ} (p : Prog A) (f : A → Prog B) (s : List ℕ) (at n : ℕ) (b : B)
    → run (bind p f) s at ≡ ok b n
    → ((a : A) (m : ℕ) → run p s at ≡ ok a m → run (f a) s m ≡ ok b n → X) → X
both_read {A = A} {X = X} p f s at n b e h = go (run p s at) refl (sym (run_bind p f s at) ∙ e)
  where
    go : (x : Res A) → run p s at ≡ x → and_then x (λ a m. run (f a) s m) ≡ ok b n → X
    go (ok a m) d g = h a m d g
    go (stopped r) d g = absurd (clash (cc))

-- what the field passes over is passed over in all
pub stands_skips : {A : Type 0} {s : List ℕ} {p : Prog A} {at : ℕ} {B : Type 0} {q : Prog B} {from k n : ℕ}
    → Stands s p at q from → Skips s k n p at → Skips s k n q from
stands_skips itself h = h
stands_skips (first f w) h = skips_first f (stands_skips w h)
stands_skips (then q f e w) h = skips_after q _ _ _ f e (stands_skips w h)

-- what the field keeps is kept in all
pub stands_keeps : {A : Type 0} {s : List ℕ} {p : Prog A} {at : ℕ} {B : Type 0} {q : Prog B} {from : ℕ}
    → Stands s p at q from → (i : ℕ) → Kept p s at i → Kept q s from i
stands_keeps itself i h = h
stands_keeps (first f w) i h = keeps_first _ f _ _ i (stands_keeps w i h)
stands_keeps (then q f e w) i h = keeps_after q _ _ _ i _ f e (stands_keeps w i h)

-- and the sign that counts in the field does so in all
pub stands_signs : {A : Type 0} {s : List ℕ} {p : Prog A} {at : ℕ} {B : Type 0} {q : Prog B} {from : ℕ}
    → Stands s p at q from → (i : ℕ) → Signed p s at i → Signed q s from i
stands_signs itself i h = h
stands_signs (first f w) i h = signs_first _ f _ _ i (stands_signs w i h)
stands_signs (then q f e w) i h = signs_after q _ _ _ i _ f e (stands_signs w i h)

-- a field of a field
pub stands_in : {A B : Type 0} {s : List ℕ} {p : Prog A} {q : Prog B} {at m : ℕ} {C : Type 0} {r : Prog C} {from : ℕ}
    → Stands s p at q m → Stands s q m r from → Stands s p at r from
stands_in h itself = h
stands_in h (first f w) = first f (stands_in h w)
stands_in h (then q f e w) = then q f e (stands_in h w)

shift : (i j : ℕ) → i + suc j ≡ i + 1 + j
shift i j = omega arith

-- a turn, from where the turns before it ended
pub turn_stands : {S : Type 0} {s : List ℕ} {from at : ℕ} (f : ℕ → S → Prog S) (n i j : ℕ) (x y : S) → j < n
    → run (turns j i f x) s from ≡ ok y at → Stands s (f (i + j) y) at (turns n i f x) from
unfolding turns
turn_stands f zero i j x y l e = absurd (omega arith)
turn_stands {s = s} {from = from} {at = at} f (suc n) i zero x y l e =
    let w = ret_ok s from at y x e in
    let z : i + 0 ≡ i = omega arith in
    rw (sym w.0, sym w.1, z) (first _ itself)
turn_stands {s = s} {from = from} {at = at} f (suc n) i (suc j) x y l e =
    both_read (f i x) (λ t. turns j (i + 1) f t) s from at y e (λ z m g h.
    then _ _ g (rw (sym (shift i j)) at (turn_stands f n (i + 1) j z y (omega arith) h)))

-- ---- choices
module _ {A B : Type 0} {s : List ℕ} {p : Prog A} {at from : ℕ} (q r : Prog B) where
  pub stands_le : {a b : ℕ} → a ≤ b → Stands s p at q from → Stands s p at (when_le a b q r) from
  unfolding when_le
  stands_le {a} {b} l h = rw (le-leb a b l) h

module _ {A : Type 0} {s : List ℕ} {k n at : ℕ} (p q : Prog A) where
  pub skips_le : {a b : ℕ} → a ≤ b → Skips s k n p at → Skips s k n (when_le a b p q) at
  skips_le l h = stands_skips (stands_le p q l itself) h
