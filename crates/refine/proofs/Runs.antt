-- Laws of tables whose entries have the property that gives them K words: what is stored in one entry, and what is
-- loaded from it.
use Prim.Native.Nat.{ℕ, zero, suc, ◌+◌, ◌*◌, ◌≤◌, ◌<◌}
use mathlib.Core.Path.{◌≡◌, refl, ap, sym, ◌∙◌}
use mathlib.Core.List.{List, [], ◌∷◌, ◌++◌, append_assoc, append-nil}
use native.Mathlib.Omega.{arith}
use native.Mathlib.Nat.{zero-add, suc-add, zero-mul, suc-mul, add_comm, mul-le-mul_right}
use lib.ListN.{length, get_or, set, length-append, length-set, get_or-append}
use lib.Seq.{sets, set-append_left, get_or-append-add}
use Rattle.tables.specs.Table.{words, over, change}
use Rattle.tables.proofs.Laws.{over_set, over_get, over_sets, over_store}
use Rattle.refine.proofs.All.{All}

-- ---- a run of stores in a part of a list

set_after : (xs ys : List ℕ) (i v : ℕ) → set (xs ++ ys) (length xs + i) v ≡ xs ++ set ys i v
set_after [] ys i v = rw zero-add
set_after (x ∷ xs) ys i v = rw (suc-add, set_after xs ys i v)

pub sets_after : (u xs ys : List ℕ) (n i : ℕ) → n ≡ length xs + i → sets (xs ++ ys) n u ≡ xs ++ sets ys i u
sets_after [] xs ys n i e = refl
sets_after (v ∷ u) xs ys n i e =
    rw (e, set_after xs ys i v) (sets_after u xs (set ys i v) (suc (length xs + i)) (suc i) (omega arith))

pub sets_before : (u xs ys : List ℕ) (i : ℕ) → i + length u ≤ length xs → sets (xs ++ ys) i u ≡ sets xs i u ++ ys
sets_before [] xs ys i h = refl
sets_before (v ∷ u) xs ys i h =
    rw (set-append_left xs ys i v (omega arith))
    (sets_before u (set xs i v) ys (suc i) (omega (arith, length-set xs i v)))

-- a run as long as the list
pub sets_all : (u xs : List ℕ) → length u ≡ length xs → sets xs 0 u ≡ u
sets_all [] [] e = refl
sets_all [] (x ∷ xs) e = absurd (omega arith)
sets_all (v ∷ u) [] e = absurd (omega arith)
sets_all (v ∷ u) (x ∷ xs) e = sets_after u (v ∷ []) xs 1 0 refl ∙ rw (sets_all u xs (omega arith))

over_run : (u t w : List ℕ) (i : ℕ) → i + length u ≤ length w → sets (over t w) i u ≡ over t (sets w i u)
over_run [] t w i h = refl
over_run (v ∷ u) t w i h =
    rw (over_set t w i v (omega arith)) (over_run u t (set w i v) (suc i) (omega (arith, length-set w i v)))

-- ---- entries of K words

words_more : {A : Type 0} (f : A → List ℕ) (es : List A) (a : A) → words f (es ++ (a ∷ [])) ≡ words f es ++ f a
words_more f [] a = append-nil (f a)
words_more f (b ∷ es) a = rw (words_more f es a, append_assoc)

module _ {A : Type 0} (f : A → List ℕ) (K : ℕ) (P : A → Type 0) (len : (a : A) → P a → length (f a) ≡ K) where
  all_length : (es : List A) → All P es → length (words f es) ≡ length es * K
  all_length [] q = sym (zero-mul K)
  all_length (a ∷ es) q =
      rw (length-append, len a q.0, all_length es q.1, suc-mul) (add_comm K (length es * K))

  all_inside : (es : List A) (p k : ℕ) → All P es → p < length es → k ≤ K → p * K + k ≤ length (words f es)
  all_inside es p k q h l =
      let m : suc p * K ≤ length es * K = mul-le-mul_right K h in
      let s : suc p * K ≡ p * K + K = suc-mul p K in
      omega (arith, all_length es q)

  -- one word of entry p
  all_word : (es : List A) (p k : ℕ) (d : A) → All P es → p < length es → k < K
      → get_or (words f es) (p * K + k) 0 ≡ get_or (f (get_or es p d)) k 0
  all_word [] p k d q h l = absurd (omega arith)
  all_word (a ∷ es) zero k d q h l =
      rw (zero-mul, zero-add) (get_or-append (f a) (words f es) 0 k (omega (arith, len a q.0)))
  all_word (a ∷ es) (suc p) k d q h l =
      let e : suc p * K + k ≡ length (f a) + (p * K + k) = rw (suc-mul, len a q.0) (omega arith) in
      rw (e, get_or-append-add (f a) (words f es) (p * K + k) 0) (all_word es p k d q.1 (omega arith) l)

  -- a run of words of entry p that makes it another
  all_run : (g : A → A) (es : List A) (p k : ℕ) (u : List ℕ) (d : A) → All P es → p < length es → k + length u ≤ K
      → sets (f (get_or es p d)) k u ≡ f (g (get_or es p d)) → sets (words f es) (p * K + k) u ≡ words f (change g es p)
  all_run g [] p k u d q h l does = absurd (omega arith)
  all_run g (a ∷ es) zero k u d q h l does =
      rw (zero-mul, zero-add, sets_before u (f a) (words f es) k (omega (arith, len a q.0)), does)
  all_run g (a ∷ es) (suc p) k u d q h l does =
      let e : suc p * K + k ≡ length (f a) + (p * K + k) = rw (suc-mul, len a q.0) (omega arith) in
      sets_after u (f a) (words f es) (suc p * K + k) (p * K + k) e
      ∙ rw (all_run g es p k u d q.1 (omega arith) l does)

  module _ (t : List ℕ) (es : List A) (q : All P es) where
    -- one entry more
    pub shows_more : (a : A) (n : ℕ) → length es ≡ n
        → sets (over t (words f es)) (n * K) (f a) ≡ over t (words f (es ++ (a ∷ [])))
    shows_more a n e =
        rw (← e, words_more f es a) (over_sets (f a) t (words f es) (length es * K) (all_length es q))

    module _ (p : ℕ) (d : A) (h : p < length es) where
      -- a word that is loaded, where the table has room for the entries
      pub shows_word : (k : ℕ) → length es * K ≤ length t → k < K
          → get_or (over t (words f es)) (p * K + k) 0 ≡ get_or (f (get_or es p d)) k 0
      shows_word k r l =
          let n : p * K + suc k ≤ length (words f es) = all_inside es p (suc k) q h l in
          over_get t (words f es) (p * K + k) (omega (arith, all_length es q)) (omega arith) ∙ all_word es p k d q h l

      -- a run of words that is stored, whatever room the table has
      pub shows_run : (g : A → A) (k : ℕ) (u : List ℕ) → k + length u ≤ K
          → sets (f (get_or es p d)) k u ≡ f (g (get_or es p d))
          → sets (over t (words f es)) (p * K + k) u ≡ over t (words f (change g es p))
      shows_run g k u l does =
          over_run u t (words f es) (p * K + k) (omega (arith, all_inside es p (k + length u) q h l))
          ∙ ap (over t) (all_run g es p k u d q h l does)

      -- a word that is stored by what is loaded there, whatever room the table has
      pub shows_turn : (g : A → A) (k : ℕ) (v : ℕ → ℕ) → k < K
          → set (f (get_or es p d)) k (v (get_or (f (get_or es p d)) k 0)) ≡ f (g (get_or es p d))
          → let w : List ℕ = over t (words f es) in
          set w (p * K + k) (v (get_or w (p * K + k) 0)) ≡ over t (words f (change g es p))
      shows_turn g k v l does =
          let n : suc (p * K + k) ≤ length (words f es) = omega (arith, all_inside es p (suc k) q h l) in
          let turned : List ℕ = v (get_or (f (get_or es p d)) k 0) ∷ [] in
          over_store t (words f es) (words f es) (λ x y. v y) (p * K + k) (p * K + k) (omega arith) n n
          ∙ ap (over t) (rw (all_word es p k d q h l) (all_run g es p k turned d q h (omega arith) does))
