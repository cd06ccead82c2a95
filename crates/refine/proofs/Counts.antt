-- Numbers of entries and of reports: a sum that stops at the largest word is the sum while it stays below it.
use Prim.Native.Nat.{ℕ, ◌+◌, ◌≤◌}
use mathlib.Core.Path.{◌≡◌, refl}
use mathlib.Core.List.{List, [], ◌∷◌}
use native.Mathlib.Omega.{arith}
use borrow.Author.Tests.{le-leb}
use lib.ListN.{length, get_or, set}
use Rattle.model.specs.declared.Loss.{Loss}
use Rattle.model.specs.Answers.{loss_number}
use Rattle.score.specs.Page.{report}
use Rattle.score.specs.Score.{lists}
use Rattle.words.specs.Words.{LARGEST, word_plus, words}
use Rattle.refine.proofs.All.{All, all_get_d, all_set, all_weaker}

pub plus_is : (a b : ℕ) → a + b ≤ LARGEST → word_plus a b ≡ a + b
unfolding word_plus
plus_is a b h = rw (le-leb (a + b) LARGEST h)

abbrev pub UpTo : ℕ → ℕ → Type 0
UpTo bound n = n ≤ bound

-- one report more, on lists
abbrev counted : Loss → List ℕ → List ℕ
counted l counts = set counts (loss_number l) (get_or counts (loss_number l) 0 + 1)

count_up_to : (l : Loss) (counts : List ℕ) (bound : ℕ) → All (UpTo bound) counts → get_or counts (loss_number l) 0 ≤ bound
count_up_to l counts bound f = all_get_d (UpTo bound) counts (loss_number l) 0 f (omega arith)

counted_up_to : (l : Loss) (counts : List ℕ) (bound : ℕ) → All (UpTo bound) counts
    → All (UpTo (bound + 1)) (counted l counts)
counted_up_to l counts bound f =
    all_set (UpTo (bound + 1)) counts (loss_number l) _
    (all_weaker (UpTo bound) (UpTo (bound + 1)) (λ a h. omega arith) counts f)
    (omega (arith, count_up_to l counts bound f))

pub report_up_to : (ls : List Loss) (counts : List ℕ) (bound : ℕ) → All (UpTo bound) counts
    → All (UpTo (bound + length ls)) (report lists ls counts)
report_up_to [] counts bound f = all_weaker (UpTo bound) (UpTo (bound + 0)) (λ a h. omega arith) counts f
report_up_to (l ∷ ls) counts bound f =
    let e : bound + 1 + length ls ≡ bound + length (l ∷ ls) = omega arith in
    rw e at (report_up_to ls (counted l counts) (bound + 1) (counted_up_to l counts bound f))

pub report_is : (s : List ℕ) (ls : List Loss) (counts : List ℕ) (bound : ℕ)
    → All (UpTo bound) counts → bound + length ls ≤ LARGEST → report (words s) ls counts ≡ report lists ls counts
report_is s [] counts bound f h = refl
report_is s (l ∷ ls) counts bound f h =
    rw (plus_is (get_or counts (loss_number l) 0) 1 (omega (arith, count_up_to l counts bound f)))
    (report_is s ls (counted l counts) (bound + 1) (counted_up_to l counts bound f) (omega arith))
