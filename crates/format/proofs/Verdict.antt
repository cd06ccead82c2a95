-- What the laws of a run say of a whole file, from which demand 3 follows for every format.
use Prim.Native.Nat.{ℕ, zero, suc, ◌+◌, ◌-◌, ◌≤◌, ◌<◌}
use native.Mathlib.Omega.{arith}
use native.Mathlib.Decide.{dec_le}
use mathlib.Core.Logic.{◌↔◌}
use mathlib.Core.Path.{◌≡◌, sym, ap, ◌∙◌}
use mathlib.Core.List.{List, [], ◌∷◌, ◌++◌, append_assoc}
use lib.ListN.{length, get_or, take, drop, length-append, length-take, take-append-drop}
use lib.Seq.{take_all, take-append-add}
use lib.Dec.{leb}
use borrow.Author.Tests.{le-leb, lt-leb}
use Rattle.format.specs.declared.Stop.{Stop}
use Rattle.format.specs.declared.Stop.TheVariants as S
use Rattle.format.specs.Text.{pick}
use Rattle.format.specs.Prog.{Prog, Res, ok, stopped, run}
use Rattle.format.specs.Fits.{Begins}
use Rattle.format.specs.Verdict.{LIMIT, Verdict, whole, truncated, too_long, stop_verdict, as_verdict, up_to, verdict}
use Rattle.format.specs.Yields.{Bytes}
use Rattle.format.proofs.Run.{run_cut, run_within, clash}
use Rattle.format.proofs.Fits.{reads}

pub verdict_short : {A : Type 0} (p : Prog A) (s : List ℕ) → length s ≤ LIMIT → verdict p s ≡ as_verdict truncated (run p s 0)
unfolding verdict
verdict_short p s h = simp (le-leb _ _ h)

pub verdict_long : {A : Type 0} (p : Prog A) (s : List ℕ) → LIMIT < length s → verdict p s ≡ as_verdict too_long (run p (up_to LIMIT s) 0)
unfolding verdict
verdict_long p s h = simp (lt-leb _ _ h)

-- what is read of a file of any size: no more than n of its bytes, and all of them where there are no more
pub upto_within : (n : ℕ) (s : List ℕ) → length (up_to n s) ≤ n
unfolding up_to
upto_within n s = omega (arith, length-take n s)

pub upto_all : (n : ℕ) (s : List ℕ) → length s ≤ n → up_to n s ≡ s
unfolding up_to
upto_all n s h = take_all n s h

pub upto_bytes : (n : ℕ) (s : List ℕ) → Bytes s → Bytes (up_to n s)
unfolding up_to
upto_bytes n s h = λ i. go n s i h
  where
    go : (n : ℕ) (s : List ℕ) (i : ℕ) → Bytes s → get_or (take n s) i 0 < 256
    go zero s i h = omega arith
    go (suc n) [] i h = omega arith
    go (suc n) (x ∷ xs) zero h = h 0
    go (suc n) (x ∷ xs) (suc i) h = go n xs i (λ j. h (suc j))

-- what it is that the bytes end: of a file no longer than the limit, that the file ends
abbrev pub end_of : {A : Type 0} → List ℕ → Verdict A
end_of s = pick (leb (length s) LIMIT) truncated too_long

-- the verdict of a file of any size is that of what may be read of it
pub verdict_upto : {A : Type 0} (p : Prog A) (s : List ℕ) → verdict p s ≡ as_verdict (end_of s) (run p (up_to LIMIT s) 0)
verdict_upto p s = elim (dec_le (length s) LIMIT) [
  | yes h ↦ rw (le-leb (length s) LIMIT h, upto_all LIMIT s h) (verdict_short p s h)
  | no h ↦ rw (lt-leb (length s) LIMIT (omega arith)) (verdict_long p s (omega arith))
]

-- no stop is a whole file
never_whole : {A X : Type 0} (o : Verdict A) (x : Stop) (a : A) (n : ℕ) → (o ≡ whole a n → ⊥) → stop_verdict o x ≡ whole a n → X
never_whole o S.Ends a n d e = absurd (d e)
never_whole o S.Text a n d e = clash (cc)
never_whole o S.Version a n d e = clash (cc)
never_whole o (S.Count w v i) a n d e = clash (cc)
never_whole o S.Empty a n d e = clash (cc)

was_ok : {A : Type 0} (o : Verdict A) (x : Res A) (a : A) (n : ℕ) → (o ≡ whole a n → ⊥) → as_verdict o x ≡ whole a n → x ≡ ok a n
was_ok o (ok b m) a n d e = cc
was_ok o (stopped x) a n d e = never_whole o x a n d e

never_cut : {A : Type 0} (a : A) (n : ℕ) → ◌≡◌ {A = Verdict A} truncated (whole a n) → ⊥
never_cut a n e = clash (cc)

never_long : {A : Type 0} (a : A) (n : ℕ) → ◌≡◌ {A = Verdict A} too_long (whole a n) → ⊥
never_long a n e = clash (cc)

-- a beginning of at most the limit is one of what is read of a longer file
long_begins : {A : Type 0} (limit : ℕ) (p : Prog A) (s : List ℕ) (a : A) (n : ℕ) → Begins p (up_to limit s) a n → (n ≤ limit) × Begins p s a n
unfolding up_to
long_begins limit p s a n b =
    let e : s ≡ b.0 ++ (b.1 ++ drop limit s) = sym (take-append-drop limit s) ∙ ap (λ (u : List ℕ). u ++ drop limit s) b.2 ∙ append_assoc b.0 b.1 (drop limit s) in
    (omega (arith, b.3, simp length-append at (ap length b.2), length-take limit s), (b.0, b.1 ++ drop limit s, e, b.3, b.4))

begins_long : {A : Type 0} (limit : ℕ) (p : Prog A) (s : List ℕ) (a : A) (n : ℕ) → n ≤ limit → Begins p s a n → Begins p (up_to limit s) a n
unfolding up_to
begins_long limit p s a n h b =
    let k : length b.0 + (limit - n) ≡ limit = omega (arith, b.3) in
    let e : take limit s ≡ b.0 ++ take (limit - n) b.1 = ap (take limit) b.2 ∙ ap (λ (j : ℕ). take j (b.0 ++ b.1)) (sym k) ∙ take-append-add b.0 b.1 (limit - n) in
    (b.0, take (limit - n) b.1, e, b.3, b.4)

-- a file is read whole exactly where a beginning of it, of at most LIMIT bytes, fits
pub verdict_whole : {A : Type 0} (p : Prog A) (s : List ℕ) (a : A) (n : ℕ) → verdict p s ≡ whole a n ↔ ((n ≤ LIMIT) × Begins p s a n)
verdict_whole p s a n = elim (dec_le (length s) LIMIT) [
  | yes h ↦ (
    λ e. let b = (reads p s a n).0 (was_ok truncated (run p s 0) a n (never_cut a n) (sym (verdict_short p s h) ∙ e)) in
        (omega (arith, b.3, simp length-append at (ap length b.2)), b),
    λ w. verdict_short p s h ∙ rw ((reads p s a n).1 w.1),
  )
  | no h ↦ (
    λ e. long_begins LIMIT p s a n
        ((reads p (up_to LIMIT s) a n).0 (was_ok too_long (run p (up_to LIMIT s) 0) a n (never_long a n) (sym (verdict_long p s (omega arith)) ∙ e))),
    λ w. verdict_long p s (omega arith) ∙ rw ((reads p (up_to LIMIT s) a n).1 (begins_long LIMIT p s a n w.0 w.1)),
  )
]

module _ {A : Type 0} (p : Prog A) (s : List ℕ) (a : A) (n : ℕ) (e : verdict p s ≡ whole a n) where
  was_read : run p s 0 ≡ ok a n
  was_read = (reads p s a n).1 ((verdict_whole p s a n).0 e).1

  -- every shorter beginning is truncated
  pub verdict_cut : (m : ℕ) → m < n → verdict p (take m s) ≡ truncated
  verdict_cut m l =
      let w = run_within p s 0 n a (omega arith) was_read in
      let k = ((verdict_whole p s a n).0 e).0 in
      verdict_short p (take m s) (simp length-take (omega arith)) ∙ rw (run_cut p s 0 n m a (omega arith) l (omega arith) was_read)
