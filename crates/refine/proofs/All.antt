-- A property of every entry of a list.
use Prim.Native.Nat.{ℕ, zero, suc, ◌<◌}
use mathlib.Core.List.{List, [], ◌∷◌, ◌++◌}
use native.Mathlib.Omega.{arith}
use lib.ListN.{length, get_or, set, replicate}
use Rattle.tables.specs.Table.{change}

module _ {A : Type 0} (P : A → Type 0) where
  abbrev pub All : List A → Type 0
  All [] = Unit {0}
  All (a ∷ es) = P a × All es

  pub all_get : (es : List A) (i : ℕ) (d : A) → All es → i < length es → P (get_or es i d)
  all_get [] i d f h = absurd (omega arith)
  all_get (a ∷ es) zero d f h = f.0
  all_get (a ∷ es) (suc i) d f h = all_get es i d f.1 (omega arith)

  -- where the default has it too, of every number
  pub all_get_d : (es : List A) (i : ℕ) (d : A) → All es → P d → P (get_or es i d)
  all_get_d [] i d f h = h
  all_get_d (a ∷ es) zero d f h = f.0
  all_get_d (a ∷ es) (suc i) d f h = all_get_d es i d f.1 h

  pub all_append : (es qs : List A) → All es → All qs → All (es ++ qs)
  all_append [] qs f g = g
  all_append (a ∷ es) qs f g = (f.0, all_append es qs f.1 g)

  pub all_more : (es : List A) (a : A) → All es → P a → All (es ++ (a ∷ []))
  all_more es a f h = all_append es (a ∷ []) f (h, tt)

  pub all_change : (g : A → A) → ((a : A) → P a → P (g a)) → (es : List A) (i : ℕ) → All es → All (change g es i)
  all_change g keeps [] i f = tt
  all_change g keeps (a ∷ es) zero f = (keeps a f.0, f.1)
  all_change g keeps (a ∷ es) (suc i) f = (f.0, all_change g keeps es i f.1)

  pub all_set : (es : List A) (i : ℕ) (a : A) → All es → P a → All (set es i a)
  all_set [] i a f h = tt
  all_set (b ∷ es) zero a f h = (h, f.1)
  all_set (b ∷ es) (suc i) a f h = (f.0, all_set es i a f.1 h)

  pub all_replicate : (n : ℕ) (a : A) → P a → All (replicate n a)
  all_replicate zero a h = tt
  all_replicate (suc n) a h = (h, all_replicate n a h)

  pub all_always : ((a : A) → P a) → (es : List A) → All es
  all_always is [] = tt
  all_always is (a ∷ es) = (is a, all_always is es)

module _ {A : Type 0} (P Q : A → Type 0) (so : (a : A) → P a → Q a) where
  pub all_weaker : (es : List A) → All P es → All Q es
  all_weaker [] f = tt
  all_weaker (a ∷ es) f = (so a f.0, all_weaker es f.1)
