-- What holds of every run: a bind, each step by its test, where it ends, and the file cut before that.
use Prim.Native.Nat.{ℕ, zero, suc, ◌+◌, ◌≤◌, ◌<◌}
use native.Mathlib.Omega.{arith}
use native.Mathlib.Decide.{dec_le}
use native.Mathlib.Nat.{add-zero}
use mathlib.Core.Path.{◌≡◌, refl, ap, ◌∙◌}
use mathlib.Core.List.{List, [], ◌∷◌}
use mathlib.Core.Bool.{Bool, true, false}
use lib.ListN.{length, get_or, take, drop, length-take}
use lib.Seq.{get_or-take, get_or-drop, take-take}
use lib.Dec.{leb}
use borrow.Author.Tests.{le-leb, lt-leb, leb-true}
use Rattle.format.specs.declared.Counted.{Counted}
use Rattle.format.specs.declared.Stop.{Stop}
use Rattle.format.specs.declared.Stop.TheVariants.{Ends, Count}
use Rattle.format.specs.Text.{pick}
use Rattle.format.specs.Count.{too_many, word_at, as_word}
use Rattle.format.specs.Step.{Step, byte, counted, width, Handed, handed, seen, Judged, fine, stops, judged}
use Rattle.format.specs.Prog.{Prog, Refusal, stop_of, ret, refuse, read, Res, ok, stopped, onward, run, bind}

-- what comes after a part
abbrev pub and_then : {A B : Type 0} → Res A → (A → ℕ → Res B) → Res B
and_then (ok a n) f = f a n
and_then (stopped r) f = stopped r

-- the same of a read: what was read is fine, or refused, or cut off
judged_and_then : {A B : Type 0} (there : Bool) (j : Judged) (x : Res A) (f : A → ℕ → Res B)
    → pick there (onward j (and_then x f)) (stopped Ends) ≡ and_then (pick there (onward j x) (stopped Ends)) f
judged_and_then true fine x f = refl
judged_and_then true (stops r) x f = refl
judged_and_then false j x f = refl

pub run_bind : {A B : Type 0} (p : Prog A) (f : A → Prog B) (s : List ℕ) (at : ℕ) → run (bind p f) s at ≡ and_then (run p s at) (λ a n. run (f a) s n)
unfolding run bind
run_bind (ret a) f s at = refl
run_bind (refuse r) f s at = refl
run_bind (read k g) f s at =
    let v : Handed k = seen k s at in
    rw (run_bind (g v) f s (at + width k))
    (judged_and_then (leb (at + width k) (length s)) (judged k at v) (run (g v) s (at + width k)) (λ a n. run (f a) s n))

-- two results that are never equal are no facts
pub clash : {X : Type 0} → ◌≡◌ {A = ℕ} 0 1 → X
clash z = let w : ⊥ = omega arith in absurd w

-- ---- what a step does, by its test
module _ {A : Type 0} (s : List ℕ) (at : ℕ) where
  pub run_ret : (a : A) → run (ret a) s at ≡ ok a at
  unfolding run
  run_ret a = refl

  pub run_refuse : (r : Refusal) → run {A = A} (refuse r) s at ≡ stopped (stop_of r)
  unfolding run
  run_refuse r = refl

  module _ (k : Step) (f : Handed k → Prog A) where
    pub read_goes : at + width k ≤ length s → judged k at (seen k s at) ≡ fine
        → run (read k f) s at ≡ run (f (seen k s at)) s (at + width k)
    unfolding run
    read_goes h j = simp (le-leb _ _ h, j)

    pub read_stops : {x : Stop} → at + width k ≤ length s → judged k at (seen k s at) ≡ stops x → run (read k f) s at ≡ stopped x
    unfolding run
    read_stops h j = simp (le-leb _ _ h, j)

    pub read_ends : length s < at + width k → run (read k f) s at ≡ stopped Ends
    unfolding run
    read_ends h = simp (lt-leb _ _ h)

-- ---- the other way: what is known of a step that was read
passed : {A : Type 0} (there : Bool) (j : Judged) (x : Res A) (a : A) (n : ℕ) → pick there (onward j x) (stopped Ends) ≡ ok a n
    → (there ≡ true) × (j ≡ fine) × (x ≡ ok a n)
passed true fine x a n e = (refl, refl, e)
passed true (stops r) x a n e = clash (cc)
passed false j x a n e = clash (cc)

module _ {A : Type 0} (s : List ℕ) (at n : ℕ) (a : A) where
  pub ret_ok : (x : A) → run (ret x) s at ≡ ok a n → (x ≡ a) × (at ≡ n)
  unfolding run
  ret_ok x e = (cc, cc)

  pub refuse_ok : {X : Type 0} (r : Refusal) → run (refuse r) s at ≡ ok a n → X
  unfolding run
  refuse_ok r e = clash (cc)

  pub read_ok : (k : Step) (f : Handed k → Prog A) → run (read k f) s at ≡ ok a n
      → (at + width k ≤ length s) × (judged k at (seen k s at) ≡ fine) × (run (f (seen k s at)) s (at + width k) ≡ ok a n)
  unfolding run
  read_ok k f e =
      let w = passed (leb (at + width k) (length s)) (judged k at (seen k s at)) (run (f (seen k s at)) s (at + width k)) a n e in
      (leb-true _ _ w.0, w.1, w.2)

-- a program ends no earlier than it starts, and within the file
pub run_within : {A : Type 0} (p : Prog A) (s : List ℕ) (at n : ℕ) (a : A) → at ≤ length s → run p s at ≡ ok a n → (at ≤ n) × (n ≤ length s)
run_within (ret x) s at n a h e = let k : at ≡ n = (ret_ok s at n a x e).1 in omega arith
run_within (refuse r) s at n a h e = refuse_ok s at n a r e
run_within (read k f) s at n a h e =
    let w = read_ok s at n a k f e in
    let v = run_within (f (seen k s at)) s (at + width k) n a w.0 w.2 in
    omega arith

-- the bytes at a position are those of the file's beginning
pub part_take : (m at k : ℕ) (s : List ℕ) → at + k ≤ m → take k (drop at (take m s)) ≡ take k (drop at s)
part_take zero zero k s h = let z : k ≡ 0 = omega arith in rw z
part_take zero (suc at) k s h = let w : ⊥ = omega arith in absurd w
part_take (suc m) zero k s h = take-take k (suc m) s (omega arith)
part_take (suc m) (suc at) k [] h = refl
part_take (suc m) (suc at) k (x ∷ xs) h = part_take m at k xs (omega arith)

-- and so is what is handed on of them
pub same_seen : (k : Step) (s t : List ℕ) (at : ℕ) → take (width k) (drop at s) ≡ take (width k) (drop at t) → seen k s at ≡ seen k t at
same_seen k s t at e = ap (handed k at) e

-- a file that is cut before the program's end: the bytes end
pub run_cut : {A : Type 0} (p : Prog A) (s : List ℕ) (at n m : ℕ) (a : A) → at ≤ m → m < n → m ≤ length s → run p s at ≡ ok a n → run p (take m s) at ≡ stopped Ends
run_cut (ret x) s at n m a h l g e = let k : at ≡ n = (ret_ok s at n a x e).1 in let w : ⊥ = omega arith in absurd w
run_cut (refuse r) s at n m a h l g e = refuse_ok s at n a r e
run_cut (read k f) s at n m a h l g e =
    let w = read_ok s at n a k f e in
    elim (dec_le (at + width k) m) [
      | yes d ↦
          let same = same_seen k (take m s) s at (part_take m at (width k) s d) in
          read_goes (take m s) at k f (simp length-take (omega arith)) (ap (judged k at) same ∙ w.1)
          ∙ rw same (run_cut (f (seen k s at)) s (at + width k) n m a d l g w.2)
      | no d ↦ read_ends (take m s) at k f (simp length-take (omega arith))
    ]

-- ---- a byte is what stands there, and a count that was read is not over its limit
pub first_byte : (s : List ℕ) (at : ℕ) → get_or (take 1 (drop at s)) 0 0 ≡ get_or s at 0
first_byte s at = get_or-take 1 (drop at s) 0 0 (omega arith) ∙ get_or-drop at s 0 0 ∙ rw add-zero

module _ {A : Type 0} (s : List ℕ) (at : ℕ) where
  pub byte_goes : (f : ℕ → Prog A) → at < length s → run (read byte f) s at ≡ run (f (get_or s at 0)) s (at + 1)
  byte_goes f h = read_goes s at byte f (omega arith) refl ∙ rw (first_byte s at)

  module _ (c : Counted) (f : ℕ → Prog A) where
    pub count_goes : at + 4 ≤ length s → too_many c (word_at s at) ≡ false → run (read (counted c) f) s at ≡ run (f (word_at s at)) s (at + 4)
    count_goes h o = read_goes s at (counted c) f h (rw o)

    pub count_over : at + 4 ≤ length s → too_many c (word_at s at) ≡ true
        → run (read (counted c) f) s at ≡ stopped (Count c (word_at s at) (as_word at))
    count_over h o = read_stops s at (counted c) f h (rw o)

allowed : (x : Stop) (o : Bool) → pick o (stops x) fine ≡ fine → o ≡ false
allowed x true j = clash (cc)
allowed x false j = refl

module _ {A : Type 0} (s : List ℕ) (at n : ℕ) (a : A) where
  pub byte_ok : (f : ℕ → Prog A) → run (read byte f) s at ≡ ok a n → (at < length s) × (run (f (get_or s at 0)) s (at + 1) ≡ ok a n)
  byte_ok f e = let w = read_ok s at n a byte f e in (omega arith, rw (first_byte s at) at w.2)

  pub count_ok : (c : Counted) (f : ℕ → Prog A) → run (read (counted c) f) s at ≡ ok a n
      → (at + 4 ≤ length s) × (too_many c (word_at s at) ≡ false) × (run (f (word_at s at)) s (at + 4) ≡ ok a n)
  count_ok c f e =
      let w = read_ok s at n a (counted c) f e in
      (w.0, allowed (Count c (word_at s at) (as_word at)) (too_many c (word_at s at)) w.1, w.2)
