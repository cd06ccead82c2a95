-- What was passed over and what follows the end reach no answer.
use Prim.Native.Nat.{ℕ, ◌+◌, ◌≤◌, ◌<◌}
use native.Mathlib.Omega.{arith}
use native.Mathlib.Decide.{dec_le}
use mathlib.Core.Logic.{inl, inr}
use mathlib.Core.Path.{◌≡◌, refl, ap, sym, ◌∙◌}
use mathlib.Core.List.{List}
use lib.ListN.{length}
use Rattle.format.specs.Step.{width, seen, Judged, fine, stops, judged}
use Rattle.format.specs.Prog.{Prog, ret, refuse, read, ok, run}
use Rattle.format.specs.Alike.{Alike, Kept, Signed, Same}
use Rattle.format.proofs.Run.{run_ret, run_refuse, read_goes, read_stops, read_ends, read_ok, run_within}
use Rattle.format.proofs.Step.{keeps_within, signs_within, seen_by}

lt_of : {a b : ℕ} → (a ≤ b → ⊥) → b < a
lt_of h = omega arith

-- files that are alike give the same run, refused or not
pub alike_run : {A : Type 0} (p : Prog A) (s t : List ℕ) (at : ℕ) → Alike p s t at → run p s at ≡ run p t at
alike_run (ret a) s t at h = run_ret s at a ∙ sym (run_ret t at a)
alike_run (refuse r) s t at h = run_refuse s at r ∙ sym (run_refuse t at r)
alike_run (read k f) s t at h = elim (dec_le (at + width k) (length s)) [
  | yes d ↦ both d (h.0.0 d) (h.1 d).0 (alike_run (f (seen k s at)) s t (at + width k) (h.1 d).1) (judged k at (seen k s at)) refl
  | no d ↦ read_ends s at k f (omega arith) ∙ sym (read_ends t at k f (lt_of (λ x. d (h.0.1 x))))
]
  where
    both : at + width k ≤ length s → at + width k ≤ length t → seen k s at ≡ seen k t at
        → run (f (seen k s at)) s (at + width k) ≡ run (f (seen k s at)) t (at + width k)
        → (j : Judged) → judged k at (seen k s at) ≡ j → run (read k f) s at ≡ run (read k f) t at
    both d l e r fine o = read_goes s at k f d o ∙ r ∙ rw e (sym (read_goes t at k f l (sym (ap (judged k at) e) ∙ o)))
    both d l e r (stops x) o = read_stops s at k f d o ∙ sym (read_stops t at k f l (sym (ap (judged k at) e) ∙ o))

-- a file that was read, and another that reaches as far and has its kept bytes and its signs, are alike
same_alike : {A : Type 0} (p : Prog A) (s t : List ℕ) (at n : ℕ) (a : A) → at ≤ length s → run p s at ≡ ok a n → n ≤ length t → Same p s t at → Alike p s t at
same_alike (ret x) s t at n a h e l g = tt
same_alike (refuse r) s t at n a h e l g = tt
same_alike (read k f) s t at n a h e l g =
    let w = read_ok s at n a k f e in
    let v = run_within (f (seen k s at)) s (at + width k) n a w.0 w.2 in
    let rest : Same (f (seen k s at)) s t (at + width k) =
    record { kept = λ i x. g.kept i (inr x); signs = λ i x. g.signs i (inr x) } in (
      ((λ _. omega arith), (λ _. w.0)),
      λ d. (
        seen_by k s t at w.0 (omega arith) (λ i x. g.kept i (inl x)) (λ i x. g.signs i (inl x)),
        same_alike (f (seen k s at)) s t (at + width k) n a w.0 w.2 l rest,
      ),
    )

-- so it is read to the same answer and the same end
pub same_run : {A : Type 0} (p : Prog A) (s t : List ℕ) (n : ℕ) (a : A) → run p s 0 ≡ ok a n → n ≤ length t → Same p s t 0 → run p t 0 ≡ ok a n
same_run p s t n a e l g = sym (alike_run p s t 0 (same_alike p s t 0 n a (omega arith) e l g)) ∙ e

-- a kept position of what was read is one of the bytes used, and so is one whose sign alone counts
pub kept_used : {A : Type 0} (p : Prog A) (s : List ℕ) (at n i : ℕ) (a : A) → at ≤ length s → run p s at ≡ ok a n
    → Kept p s at i → i < n
kept_used (ret x) s at n i a h e k = absurd k
kept_used (refuse r) s at n i a h e k = absurd k
kept_used (read step f) s at n i a h e (inl k) =
    let w = read_ok s at n a step f e in
    let v = run_within (f (seen step s at)) s (at + width step) n a w.0 w.2 in
    let z = keeps_within s at i step k in
    omega arith
kept_used (read step f) s at n i a h e (inr k) =
    let w = read_ok s at n a step f e in
    kept_used (f (seen step s at)) s (at + width step) n i a w.0 w.2 k

pub signed_used : {A : Type 0} (p : Prog A) (s : List ℕ) (at n i : ℕ) (a : A) → at ≤ length s → run p s at ≡ ok a n
    → Signed p s at i → i < n
signed_used (ret x) s at n i a h e k = absurd k
signed_used (refuse r) s at n i a h e k = absurd k
signed_used (read step f) s at n i a h e (inl k) =
    let w = read_ok s at n a step f e in
    let v = run_within (f (seen step s at)) s (at + width step) n a w.0 w.2 in
    let z = signs_within s at i step k in
    omega arith
signed_used (read step f) s at n i a h e (inr k) =
    let w = read_ok s at n a step f e in
    signed_used (f (seen step s at)) s (at + width step) n i a w.0 w.2 k
