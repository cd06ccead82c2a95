-- Running a program reads exactly the bytes that fit it.
use Prim.Native.Nat.{ℕ, ◌+◌, ◌≤◌, ◌<◌}
use native.Mathlib.Omega.{arith}
use native.Mathlib.Numerals.{add-one}
use native.Mathlib.Nat.{add-zero}
use mathlib.Core.Logic.{◌↔◌}
use mathlib.Core.Path.{◌≡◌, ap, sym, ◌∙◌}
use mathlib.Core.List.{List, ◌∷◌, ◌++◌, append_assoc}
use lib.ListN.{length, get_or, take, drop, length-append, length-take, length-drop, take-append-drop}
use lib.Seq.{slice, slice-cons, slice_empty, drop-drop, drop_at, take_at, length-take-le}
use Rattle.format.specs.Step.{width, handed, seen, judged}
use Rattle.format.specs.Prog.{Prog, ret, refuse, read, ok, run}
use Rattle.format.specs.Fits.{Fits, fit_ret, fit_read, Begins}
use Rattle.format.proofs.Run.{part_take, ret_ok, refuse_ok, read_ok, run_ret, read_goes, run_within}

part_length : (at m : ℕ) (s : List ℕ) → at + m ≤ length s → length (take m (drop at s)) ≡ m
part_length at m s h = simp (length-take, length-drop) (omega arith)

pub slice-next : (at n : ℕ) (s : List ℕ) → at < n → n ≤ length s → slice at n s ≡ get_or s at 0 ∷ slice (at + 1) n s
slice-next at n s h l = rw (add-one at) (slice-cons at n s 0 h l)

pub slice_split : (at m n : ℕ) (s : List ℕ) → at + m ≤ n → slice at n s ≡ take m (drop at s) ++ slice (at + m) n s
slice_split at m n s h =
    sym (take-append-drop m (slice at n s)) ∙ rw (part_take n at m s h, drop-drop m at (take n s))

-- ---- what was read fits
pub run_fits : {A : Type 0} (p : Prog A) (s : List ℕ) (at n : ℕ) (a : A) → at ≤ length s → run p s at ≡ ok a n → Fits p at (slice at n s) a
run_fits (ret x) s at n a h e =
    let w = ret_ok s at n a x e in
    rw (← w.0, ← w.1, slice_empty at s) fit_ret
run_fits (refuse r) s at n a h e = refuse_ok s at n a r e
run_fits (read k f) s at n a h e =
    let w = read_ok s at n a k f e in
    let v = run_within (f (seen k s at)) s (at + width k) n a w.0 w.2 in
    rw (slice_split at (width k) n s v.0)
    (fit_read (take (width k) (drop at s)) (part_length at (width k) s w.0) w.1
    (run_fits (f (seen k s at)) s (at + width k) n a w.0 w.2))

-- ---- what fits is read: l stands at a position of s, with post after it
Stands : List ℕ → ℕ → List ℕ → List ℕ → Type 0
Stands s at l post = (at ≤ length s) × (drop at s ≡ l ++ post)

stands_part : (s : List ℕ) (at n : ℕ) (u t post : List ℕ) → length u ≡ n → Stands s at (u ++ t) post → (at + n ≤ length s) × (take n (drop at s) ≡ u) × Stands s (at + n) t post
unfolding Stands
stands_part s at n u t post g h =
    let d : drop at s ≡ u ++ (t ++ post) = h.1 ∙ append_assoc u t post in
    let k : at + n ≤ length s = omega (arith, length-drop at s, simp length-append at (ap length d)) in
    (k, rw d (take_at u (t ++ post) n g), (k, sym (drop-drop n at s) ∙ rw d (drop_at u (t ++ post) n g)))

fits_run : {A : Type 0} {p : Prog A} {at : ℕ} {l : List ℕ} {a : A} → Fits p at l a → (s post : List ℕ) → Stands s at l post → run p s at ≡ ok a (at + length l)
fits_run (fit_ret {a = a} {at = at}) s post h = rw add-zero (run_ret s at a)
fits_run (fit_read {k = k} {f = f} {at = at} u {t = t} {a = a} g o r) s post h =
    let w = stands_part s at (width k) u t post g h in
    let same : seen k s at ≡ handed k at u = ap (handed k at) w.1 in
    read_goes s at k f w.0 (ap (judged k at) same ∙ o)
    ∙ rw same (fits_run r s post w.2 ∙ ap (λ (m : ℕ). ok a m) (omega (arith, length-append u t)))

-- a program reads a file exactly where a beginning of it fits
pub reads : {A : Type 0} (p : Prog A) (s : List ℕ) (a : A) (n : ℕ) → run p s 0 ≡ ok a n ↔ Begins p s a n
unfolding Stands
reads p s a n = (
  λ e. let v = run_within p s 0 n a (omega arith) e in
      (take n s, drop n s, sym (take-append-drop n s), length-take-le n s v.1, run_fits p s 0 n a (omega arith) e),
  λ w. fits_run w.4 s w.1 (omega arith, w.2) ∙ ap (λ (m : ℕ). ok a m) (omega (arith, w.3)),
)

-- two beginnings that fit are one: the same answer and the same end
pub begins_unique : {A : Type 0} (p : Prog A) (s : List ℕ) (a b : A) (n m : ℕ) → Begins p s a n → Begins p s b m → (a ≡ b) × (n ≡ m)
begins_unique p s a b n m v w = let e = (reads p s a n).1 v in let f = (reads p s b m).1 w in (cc, cc)
