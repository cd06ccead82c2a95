-- Laws of tables, for every stride K and every kind of entry (f says its words, K of them). Laws only: Table.antt has the definitions.
use Prim.Native.Nat.{ℕ, zero, suc, ◌+◌, ◌*◌, ◌≤◌, ◌<◌, min}
use mathlib.Core.Path.{◌≡◌, refl, sym, ap, ◌∙◌}
use mathlib.Core.List.{List, [], ◌∷◌, ◌++◌, append_assoc, append-nil}
use native.Mathlib.Omega.{arith}
use native.Mathlib.Decide.{dec_le, dec_lt}
use native.Mathlib.Nat.{add-zero, zero-add, suc-add, zero-mul, suc-mul, add_comm, mul-le-mul_right, min-eq_left, min-eq_right}
use lib.ListN.{length, get_or, set, take, drop, length-append, get_or-append}
use lib.Seq.{length-take-le, length-sets, sets-eq, drop_at, sets, set_out, set-append_left, take_at, take-append-le, drop-append-add, get_or-append-add}
use borrow.Author.Tests.{le-leb}
use Rattle.tables.specs.Table.{entry, words, over, change}

-- ---- runs of stores

-- past the end nothing is stored
pub sets_out : {A : Type 0} (w t : List A) (i : ℕ) → length t ≤ i → sets t i w ≡ t
sets_out [] t i h = refl
sets_out (x ∷ w) t i h = rw (set_out t i x h) (sets_out w t (suc i) (omega arith))

-- a run from where an entry starts, cut at the table's end, is the run from where it would start
pub sets_start : (w t : List ℕ) (m at : ℕ) → at ≡ min m (length t) → sets t at w ≡ sets t m w
sets_start w t m at e = elim (dec_le m (length t)) [
  | yes d ↦ rw (e, min-eq_left d)
  | no d ↦
      let f : min m (length t) ≡ length t = min-eq_right (omega arith) in
      sets_out w t at (omega arith) ∙ sym (sets_out w t m (omega arith))
]

-- an entry that is stored is there, where the table has it whole
pub entry_stored : (w t : List ℕ) (i K : ℕ) → length w ≡ K → i * K + K ≤ length t → entry (sets t (i * K) w) i K ≡ w
unfolding entry
entry_stored w t i K e h =
    let m : length (sets t (i * K) w) ≡ length t = length-sets t (i * K) w in
    let g : i * K + K ≤ length (sets t (i * K) w) = omega arith in
    rw (le-leb _ _ g, sets-eq w t (i * K) (omega arith), append_assoc, drop_at (take (i * K) t) (w ++ drop (i * K + length w) t) (i * K) (length-take-le (i * K) t (omega arith)))
    (take_at w (drop (i * K + length w) t) K e)

-- two runs, one after the other, are one run
pub sets_append : {A : Type 0} (u v t : List A) (i n : ℕ) → length u ≡ n → sets (sets t i u) (i + n) v ≡ sets t i (u ++ v)
sets_append [] v t i n e = rw (← e, add-zero)
sets_append (x ∷ u) v t i n e =
    let k : i + n ≡ suc i + length u = omega arith in
    rw k (sets_append u v (set t i x) (suc i) (length u) refl)

-- ---- words over a table

pub over_nil : (t : List ℕ) → over t [] ≡ t
over_nil [] = refl
over_nil (x ∷ t) = refl

pub length_over : (t w : List ℕ) → length (over t w) ≡ length t
length_over [] w = refl
length_over (x ∷ t) [] = refl
length_over (x ∷ t) (y ∷ w) = ap suc (length_over t w)

-- the next word, whether there is room for it or not
pub over_next : (t w : List ℕ) (v : ℕ) → set (over t w) (length w) v ≡ over t (w ++ (v ∷ []))
over_next [] w v = refl
over_next (x ∷ t) [] v = ap (λ (l : List ℕ). v ∷ l) (sym (over_nil t))
over_next (x ∷ t) (y ∷ w) v = ap (λ (l : List ℕ). y ∷ l) (over_next t w v)

-- a run of words after those that are there
pub over_sets : (u t w : List ℕ) (n : ℕ) → length w ≡ n → sets (over t w) n u ≡ over t (w ++ u)
over_sets [] t w n e = rw append-nil
over_sets (v ∷ u) t w n e =
    rw (← e, over_next t w v) (over_sets u t (w ++ (v ∷ [])) (suc (length w)) (simp length-append (omega arith)) ∙ rw append_assoc)

-- where they fit, the words and then the table's own
pub over_fits : (t w : List ℕ) → length w ≤ length t → over t w ≡ w ++ drop (length w) t
over_fits [] [] h = refl
over_fits [] (y ∷ w) h = absurd (omega arith)
over_fits (x ∷ t) [] h = refl
over_fits (x ∷ t) (y ∷ w) h = ap (λ (l : List ℕ). y ∷ l) (over_fits t w (omega arith))

-- what stands past the words is untouched, whether they fit or not
pub over_past : (t w : List ℕ) (n : ℕ) → length w ≤ n → drop n (over t w) ≡ drop n t
over_past [] w n h = refl
over_past (x ∷ t) [] n h = refl
over_past (x ∷ t) (y ∷ w) zero h = absurd (omega arith)
over_past (x ∷ t) (y ∷ w) (suc n) h = over_past t w n (omega arith)

pub over_set : (t w : List ℕ) (i v : ℕ) → i < length w → set (over t w) i v ≡ over t (set w i v)
over_set [] w i v h = refl
over_set (x ∷ t) [] i v h = absurd (omega arith)
over_set (x ∷ t) (y ∷ w) zero v h = refl
over_set (x ∷ t) (y ∷ w) (suc i) v h = ap (λ (l : List ℕ). y ∷ l) (over_set t w i v (omega arith))

pub over_get : (t w : List ℕ) (i : ℕ) → i < length t → i < length w → get_or (over t w) i 0 ≡ get_or w i 0
over_get [] w i h k = absurd (omega arith)
over_get (x ∷ t) [] i h k = absurd (omega arith)
over_get (x ∷ t) (y ∷ w) zero h k = refl
over_get (x ∷ t) (y ∷ w) (suc i) h k = over_get t w i (omega arith) (omega arith)

-- a word that is cut off may be any
pub over_out : (t w : List ℕ) (j v : ℕ) → length t ≤ j → over t (set w j v) ≡ over t w
over_out [] w j v h = refl
over_out (x ∷ t) [] j v h = refl
over_out (x ∷ t) (y ∷ w) zero v h = absurd (omega arith)
over_out (x ∷ t) (y ∷ w) (suc j) v h = ap (λ (l : List ℕ). y ∷ l) (over_out t w j v (omega arith))

-- a store by what was loaded at or before its place is the same over every table: where it is cut off, a wrong load does no harm
pub over_store : (t w u : List ℕ) (h : ℕ → ℕ → ℕ) (i j : ℕ) → i ≤ j → j < length w → j < length u
    → set (over t u) j (h (get_or (over t w) i 0) (get_or (over t w) j 0)) ≡ over t (set u j (h (get_or w i 0) (get_or w j 0)))
over_store t w u h i j e k k2 = over_set t u j _ k2 ∙ elim (dec_lt j (length t)) [
  | yes d ↦ rw (over_get t w i (omega arith) (omega arith), over_get t w j d k)
  | no d ↦ over_out t u j _ (omega arith) ∙ sym (over_out t u j _ (omega arith))
]

-- ---- changed entries

pub length-change : {A : Type 0} (g : A → A) (es : List A) (p : ℕ) → length (change g es p) ≡ length es
length-change g [] p = refl
length-change g (a ∷ es) zero = refl
length-change g (a ∷ es) (suc p) = ap suc (length-change g es p)

set_append_add : (xs ys : List ℕ) (i v : ℕ) → set (xs ++ ys) (length xs + i) v ≡ xs ++ set ys i v
set_append_add [] ys i v = rw zero-add
set_append_add (x ∷ xs) ys i v = rw (suc-add, set_append_add xs ys i v)

-- ---- entries of K words

module _ {A : Type 0} (f : A → List ℕ) (K : ℕ) (len : (a : A) → length (f a) ≡ K) where
  pub length-words : (es : List A) → length (words f es) ≡ length es * K
  length-words [] = sym (zero-mul K)
  length-words (a ∷ es) = rw (length-append, len a, length-words es, suc-mul) (add_comm K (length es * K))

  -- entries past the count are untouched
  pub over_rest : (t : List ℕ) (es : List A) → drop (length es * K) (over t (words f es)) ≡ drop (length es * K) t
  over_rest t es = over_past t (words f es) (length es * K) (omega (arith, length-words es))

  -- the words of entry p
  pub words_entry : (es : List A) (p : ℕ) (d : A) → p < length es → take K (drop (p * K) (words f es)) ≡ f (get_or es p d)
  words_entry [] p d h = absurd (omega arith)
  words_entry (a ∷ es) zero d h = rw zero-mul (take_at (f a) (words f es) K (len a))
  words_entry (a ∷ es) (suc p) d h =
      let e : suc p * K ≡ length (f a) + p * K = rw (suc-mul, len a) (omega arith) in
      rw (e, drop-append-add (f a) (words f es) (p * K)) (words_entry es p d (omega arith))

  inside : (es : List A) (p k : ℕ) → p < length es → k < K → p * K + k < length (words f es)
  inside es p k h l =
      let m : suc p * K ≤ length es * K = mul-le-mul_right K h in
      let s : suc p * K ≡ p * K + K = suc-mul p K in
      omega (arith, length-words es)

  -- a word of entry p set by what is loaded from it there and before: that entry changed, over every table
  pub over_turn : (g : A → A) (j k : ℕ) (h : ℕ → ℕ → ℕ) → j ≤ k → k < K → ((a : A) → set (f a) k (h (get_or (f a) j 0) (get_or (f a) k 0)) ≡ f (g a))
      → (t : List ℕ) (es : List A) (p : ℕ) → p < length es
      → set (over t (words f es)) (p * K + k) (h (get_or (over t (words f es)) (p * K + j) 0) (get_or (over t (words f es)) (p * K + k) 0)) ≡ over t (words f (change g es p))
  over_turn g j k h e l does t es p q =
      over_store t (words f es) (words f es) h (p * K + j) (p * K + k) (omega arith) (inside es p k q l) (inside es p k q l)
      ∙ ap (over t) (turn_words es p q)
    where
      turn_words : (es : List A) (p : ℕ) → p < length es → set (words f es) (p * K + k) (h (get_or (words f es) (p * K + j) 0) (get_or (words f es) (p * K + k) 0)) ≡ words f (change g es p)
      turn_words [] p q = absurd (omega arith)
      turn_words (a ∷ es) zero q = rw (zero-mul, zero-add, zero-add, get_or-append (f a) (words f es) 0 j (omega (arith, len a)), get_or-append (f a) (words f es) 0 k (omega (arith, len a)), set-append_left (f a) (words f es) k _ (omega (arith, len a)), does a)
      turn_words (a ∷ es) (suc p) q =
          let ej : suc p * K + j ≡ length (f a) + (p * K + j) = rw (suc-mul, len a) (omega arith) in
          let ek : suc p * K + k ≡ length (f a) + (p * K + k) = rw (suc-mul, len a) (omega arith) in
          rw (ej, ek, get_or-append-add (f a) (words f es) (p * K + j) 0, get_or-append-add (f a) (words f es) (p * K + k) 0, set_append_add (f a) (words f es) (p * K + k) _, turn_words es p (omega arith))

  -- entry p of a table that shows entries, as far as it has room
  pub entry_is : (t : List ℕ) (es : List A) (p : ℕ) (d : A) → length es * K ≤ length t → p < length es → entry (over t (words f es)) p K ≡ f (get_or es p d)
  unfolding entry
  entry_is t es p d r h =
      let n : length (words f es) ≡ length es * K = length-words es in
      let m : suc p * K ≤ length es * K = mul-le-mul_right K h in
      let s : suc p * K ≡ p * K + K = suc-mul p K in
      let i : p * K + K ≤ length (over t (words f es)) = rw (length_over t (words f es)) (omega arith) in
      rw (le-leb _ _ i, over_fits t (words f es) (omega arith)) (cut (words f es) (drop (length (words f es)) t) (p * K) K (omega arith) ∙ words_entry es p d h)
    where
      cut : (xs ys : List ℕ) (n k : ℕ) → n + k ≤ length xs → take k (drop n (xs ++ ys)) ≡ take k (drop n xs)
      cut xs ys zero k e = take-append-le k xs ys (omega arith)
      cut [] ys (suc n) k e = absurd (omega arith)
      cut (x ∷ xs) ys (suc n) k e = cut xs ys n k (omega arith)
