-- Entries and ties in the tables of words: one after another, and whatever the file.
use Rattle.std.specs.Prelude.{None, Option, Some}
use Prim.Native.Nat.{ℕ, zero, suc, ◌+◌, ◌*◌, ◌-◌, ◌<◌}
use native.Mathlib.Omega.{arith}
use native.Mathlib.Nat.{add-zero}
use mathlib.Core.Path.{◌≡◌, refl, ◌∙◌}
use mathlib.Core.List.{List, [], ◌∷◌}
use mathlib.Core.Bool.{true, false}
use lib.ListN.{get_or, set}
use Rattle.format.specs.Text.{pick}
use Rattle.model.specs.declared.Member.{Member}
use Rattle.model.specs.declared.Point.{Point}
use Rattle.model.specs.declared.Span.{Span}
use Rattle.model.specs.Kinds.{flag_word}
use Rattle.tables.specs.Table.{stores}
use Rattle.entries.specs.Words.{member_stride, member_words, point_stride, point_words, tie_start_at}
use Rattle.score.specs.declared.Hammer.{Hammer}
use Rattle.score.specs.declared.OttavaRun.{OttavaRun}
use Rattle.score.specs.Page as Page
use Rattle.score.specs.Page.{add_all, start_ties, turn_hammer, turn_run}
use Rattle.score.specs.Rows.{RowIs}
use Rattle.words.specs.Words.{answers_word, start_words, words}

-- a tie starts at the first member of some that answers, or at one of those after it
module _ (i k : ℕ) (tied : Member) (t : List ℕ) {key string : ℕ} (more : 0 < k)
    (its-key : key ≡ get_or t (i * member_stride + 0) 0) (its-string : string ≡ get_or t (i * member_stride + 2) 0) where
  abbrev start : ℕ → (key string : ℕ) → List ℕ
  start k key string =
      pick (answers_word tied key string)
      (set t (i * member_stride + tie_start_at) (flag_word true))
      (start_words (i + 1) (k - 1) tied t)

  start_step : start_words i k tied t ≡ start k key string
  start_step = rw (its-key, its-string, add-zero) (at k more)
    where
      at : (k : ℕ) → 0 < k
          → start_words i k tied t ≡ start k (get_or t (i * member_stride) 0) (get_or t (i * member_stride + 2) 0)
      at zero h = absurd (omega arith)
      at (suc k) h = let e : suc k - 1 ≡ k = omega arith in rw e

  pub start_here : answers_word tied key string ≡ true
      → start_words i k tied t ≡ set t (i * member_stride + tie_start_at) (flag_word true)
  start_here e = start_step ∙ rw e

  pub start_later : answers_word tied key string ≡ false → start_words i k tied t ≡ start_words (i + 1) (k - 1) tied t
  start_later e = start_step ∙ rw e

-- ---- whatever the file
module _ (s : List ℕ) where
  pub members_stored : (n : ℕ) (ms : List Member) (t : List ℕ)
      → add_all (words s) Page.members n ms t ≡ stores member_words member_stride t n ms
  members_stored n [] t = refl
  members_stored n (m ∷ ms) t = members_stored (n + 1) ms _

  pub points_stored : (n : ℕ) (ps : List Point) (t : List ℕ)
      → add_all (words s) Page.points n ps t ≡ stores point_words point_stride t n ps
  points_stored n [] t = refl
  points_stored n (p ∷ ps) t = points_stored (n + 1) ps _

  pub ties_started : (last : Span) (ms : List Member) (t : List ℕ)
      → start_ties (words s) last ms t ≡ start_ties (words []) last ms t
  ties_started last [] t = refl
  ties_started last (m ∷ ms) t = ties_started last ms _

  pub hammer_turned : (h : Option Hammer) (r : RowIs) (t : List ℕ) → turn_hammer (words s) h r t ≡ turn_hammer (words []) h r t
  hammer_turned None r t = refl
  hammer_turned (Some w) r t = refl

  pub run_turned : (run : Option OttavaRun) (r : RowIs) (t : List ℕ) → turn_run (words s) run r t ≡ turn_run (words []) run r t
  run_turned None r t = refl
  run_turned (Some o) r t = refl
