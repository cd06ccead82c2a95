-- The words of a voice: what is said after a store, and the words that are kept.
use Rattle.std.specs.Prelude.{None, Option, Some}
use Prim.Native.Nat.{ℕ, zero, suc, ◌+◌, ◌-◌, ◌%◌}
use mathlib.Core.Path.{◌≡◌, refl, ap, ◌∙◌}
use mathlib.Core.List.{List, [], ◌∷◌, ◌++◌, append_assoc}
use native.Mathlib.Omega.{arith}
use lib.ListN.{length, get_or, set}
use borrow.Rule.Slice.PartMut.{post_of, put_mid}
use Rattle.model.specs.Kinds.{flag_of}
use Rattle.model.specs.declared.Span.{Span}
use Rattle.score.specs.declared.Hammer.{Hammer}
use Rattle.score.specs.declared.OttavaRun.{OttavaRun}
use Rattle.score.specs.Page.{with_frets}
use Rattle.words.specs.Words.{fret_word, fret_of, hammer_words, hammer_of, run_words, run_of, voice_words, voice_from}
use Rattle.words.specs.Voices.{frets_in, with_hammer, with_last, with_run}
use Rattle.words.proofs.Back.{run_back}

-- ---- what holds of every n words holds of a list with n

abbrev ForWords : ℕ → (List ℕ → Type 0) → Type 0
ForWords zero P = P []
ForWords (suc n) P = (a : ℕ) → ForWords n (λ l. P (a ∷ l))

by_words : (n : ℕ) (P : List ℕ → Type 0) → ForWords n P → (w : List ℕ) → length w ≡ n → P w
by_words zero P f [] e = f
by_words zero P f (a ∷ w) e = absurd (omega arith)
by_words (suc n) P f [] e = absurd (omega arith)
by_words (suc n) P f (a ∷ w) e = by_words n (λ l. P (a ∷ l)) (f a) w (omega arith)

-- ---- frets, hammer and ottava by their words

pub fret_kept : (word : ℕ) → (word ≡ 0 → ⊥) → (word - 1) % 256 + 1 ≡ fret_word (fret_of word)
unfolding fret_of
fret_kept zero h = absurd (h refl)
fret_kept (suc f) h = let e : suc f - 1 ≡ f = omega arith in rw e

pub no_hammer : hammer_of 0 0 0 ≡ None
unfolding hammer_of flag_of
no_hammer = refl

-- ---- a voice after a store

module _ (w : List ℕ) (long : length w ≡ 15) where
  pub frets_put : (frets : List ℕ) → length frets ≡ 7 → voice_from 0 (frets ++ post_of 0 7 w) ≡ with_frets (voice_from 0 w) (frets_in frets)
  unfolding voice_from
  frets_put frets seven =
      by_words 7 (λ x. voice_from 0 (x ++ post_of 0 7 w) ≡ with_frets (voice_from 0 w) (frets_in x))
      (λ x₀ x₁ x₂ x₃ x₄ x₅ x₆.
      by_words 15 (λ l. voice_from 0 ((x₀ ∷ x₁ ∷ x₂ ∷ x₃ ∷ x₄ ∷ x₅ ∷ x₆ ∷ []) ++ post_of 0 7 l) ≡ with_frets (voice_from 0 l) (frets_in (x₀ ∷ x₁ ∷ x₂ ∷ x₃ ∷ x₄ ∷ x₅ ∷ x₆ ∷ [])))
      (λ a b c d e f g h i j k l m n o. refl) w long)
      frets seven

  pub hammer_put : (words : List ℕ) {x : Option Hammer} → length words ≡ 3 → hammer_of (get_or words 0 0) (get_or words 1 0) (get_or words 2 0) ≡ x
      → voice_from 0 (put_mid 7 3 w words) ≡ with_hammer (voice_from 0 w) x
  unfolding voice_from
  hammer_put words three is =
      rw (← is)
      (by_words 3 (λ x. voice_from 0 (put_mid 7 3 w x) ≡ with_hammer (voice_from 0 w) (hammer_of (get_or x 0 0) (get_or x 1 0) (get_or x 2 0)))
      (λ x₀ x₁ x₂.
      by_words 15 (λ l. voice_from 0 (put_mid 7 3 l (x₀ ∷ x₁ ∷ x₂ ∷ [])) ≡ with_hammer (voice_from 0 l) (hammer_of x₀ x₁ x₂))
      (λ a b c d e f g h i j k l m n o. refl) w long)
      words three)

  pub last_put : (x : Span) → voice_from 0 (set (set w 10 x.first) 11 x.count) ≡ with_last (voice_from 0 w) x
  unfolding voice_from
  last_put x =
      by_words 15 (λ l. voice_from 0 (set (set l 10 x.first) 11 x.count) ≡ with_last (voice_from 0 l) x)
      (λ a b c d e f g h i j k l m n o. refl) w long

  run_said : (words : List ℕ) → length words ≡ 3
      → voice_from 0 (put_mid 12 3 w words) ≡ with_run (voice_from 0 w) (run_of (get_or words 0 0) (get_or words 1 0) (get_or words 2 0))
  unfolding voice_from
  run_said words three =
      by_words 3 (λ x. voice_from 0 (put_mid 12 3 w x) ≡ with_run (voice_from 0 w) (run_of (get_or x 0 0) (get_or x 1 0) (get_or x 2 0)))
      (λ x₀ x₁ x₂.
      by_words 15 (λ l. voice_from 0 (put_mid 12 3 l (x₀ ∷ x₁ ∷ x₂ ∷ [])) ≡ with_run (voice_from 0 l) (run_of x₀ x₁ x₂))
      (λ a b c d e f g h i j k l m n o. refl) w long)
      words three

  pub run_put : (x : Option OttavaRun) {words : List ℕ} → length words ≡ 3 → words ≡ run_words x
      → voice_from 0 (put_mid 12 3 w words) ≡ with_run (voice_from 0 w) x
  run_put x {words} three is = run_said words three ∙ rw is (ap (with_run (voice_from 0 w)) (run_back x))

-- ---- the words that are kept

hammer_shown : (x : Option Hammer) (more : List ℕ)
    → get_or (hammer_words x) 0 0 ∷ get_or (hammer_words x) 1 0 ∷ get_or (hammer_words x) 2 0 ∷ more ≡ hammer_words x ++ more
hammer_shown None more = refl
hammer_shown (Some w) more = refl

run_shown : (x : Option OttavaRun) → get_or (run_words x) 0 0 ∷ get_or (run_words x) 1 0 ∷ get_or (run_words x) 2 0 ∷ [] ≡ run_words x
run_shown None = refl
run_shown (Some o) = refl

module _ (w : List ℕ) where
  abbrev fret_at : ℕ → ℕ
  fret_at k = fret_word (fret_of (get_or w k 0))

  pub words_kept : {waits over : List ℕ} {a b c d e f g : ℕ}
      → a ≡ fret_at 0 → b ≡ fret_at 1 → c ≡ fret_at 2 → d ≡ fret_at 3 → e ≡ fret_at 4 → f ≡ fret_at 5 → g ≡ fret_at 6
      → waits ≡ hammer_words (voice_from 0 w).hammer → over ≡ run_words (voice_from 0 w).run
      → a ∷ b ∷ c ∷ d ∷ e ∷ f ∷ g ∷ get_or waits 0 0 ∷ get_or waits 1 0 ∷ get_or waits 2 0
      ∷ get_or w 10 0 ∷ get_or w 11 0 ∷ get_or over 0 0 ∷ get_or over 1 0 ∷ get_or over 2 0 ∷ []
      ≡ voice_words (voice_from 0 w)
  unfolding voice_words voice_from
  words_kept ea eb ec ed ee ef eg ew eo =
      rw (ea, eb, ec, ed, ee, ef, eg, ew, eo)
      (rw (hammer_shown (voice_from 0 w).hammer _, run_shown (voice_from 0 w).run) (simp append_assoc))
