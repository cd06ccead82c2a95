-- Reports one after another: the counts after some are the counts that the next are added to.
use Prim.Native.Nat.{ℕ, ◌+◌}
use mathlib.Core.Path.{◌≡◌, refl}
use mathlib.Core.List.{List, [], ◌∷◌, ◌++◌}
use native.Mathlib.Omega.{arith}
use native.Mathlib.Decide.{dec_lt}
use borrow.Author.Tests.{lt-ltb, le-ltb, le-leb, lt-leb}
use mir.Syntax.{w32}
use mir.Val.{Fits}
use lib.ListN.{get_or, set}
use Rattle.tables.specs.Table.{one_more}
use Rattle.model.specs.declared.Loss.{Loss}
use Rattle.model.specs.Answers.{loss_number}
use Rattle.score.specs.Page.{report}
use Rattle.words.specs.Words.{LARGEST, word_plus, words}
use Rattle.words.specs.Reports.{reports}

-- the counts are the same in every file
pub reports_in : (s : List ℕ) (ls : List Loss) (counts : List ℕ) → reports ls counts ≡ report (words s) ls counts
unfolding reports
reports_in s [] counts = refl
reports_in s (l ∷ ls) counts = reports_in s ls (set counts (loss_number l) (word_plus (get_or counts (loss_number l) 0) 1))

pub reports_none : (counts : List ℕ) → reports [] counts ≡ counts
unfolding reports
reports_none counts = refl

pub reports_append : (xs ys : List Loss) (counts : List ℕ) → reports (xs ++ ys) counts ≡ reports ys (reports xs counts)
unfolding reports
reports_append [] ys counts = refl
reports_append (x ∷ xs) ys counts =
    reports_append xs ys (set counts (loss_number x) (word_plus (get_or counts (loss_number x) 0) 1))

pub one_more_lem : (n : ℕ) → Fits w32 n → one_more n ≡ word_plus n 1
unfolding one_more word_plus
one_more_lem n h = elim (dec_lt n LARGEST) [
  | yes d ↦ rw (lt-ltb n LARGEST d, le-leb (n + 1) LARGEST (omega arith))
  | no d ↦ rw (le-ltb n LARGEST (omega arith), lt-leb (n + 1) LARGEST (omega arith)) (omega arith)
]
