-- What a lent table shows of a list of entries, and one or more entries more.
use Prim.Native.Nat.{ℕ, ◌+◌}
use mathlib.Core.Path.{◌≡◌, ◌∙◌}
use mathlib.Core.Bool.{Bool, true, false}
use mathlib.Core.List.{List, [], ◌∷◌, ◌++◌, append-nil, append_assoc}
use native.Mathlib.Omega.{arith}
use lib.ListN.{length, length-append}
use Rattle.format.specs.Text.{pick}
use Rattle.tables.specs.Table as Table
use Rattle.tables.specs.Table.{over}
use Rattle.entries.proofs.Laws.{bar_length, track_length, row_length, member_length, point_length, text_length}
use Rattle.score.specs.Page.{Kind, bars, tracks, rows, members, points, texts, parts, Entry, add_all}
use Rattle.score.specs.Score.{lists}
use Rattle.words.specs.Words.{stride, words_of, text_entry, words}
use Rattle.refine.proofs.All.{All, all_always, all_more}
use Rattle.refine.proofs.Runs.{shows_more}
use Rattle.refine.proofs.Parts.{PartFits, part_length}

-- t are the words of the table as it was lent
abbrev pub shown : (k : Kind) → List ℕ → List (Entry k) → List ℕ
shown k t es = over t (Table.words (words_of k) es)

-- ---- how many words an entry has: a part that fits, and every entry of another table

abbrev pub Sized : (k : Kind) → Entry k → Type 0
Sized bars e = Unit {0}
Sized tracks e = Unit {0}
Sized rows e = Unit {0}
Sized members e = Unit {0}
Sized points e = Unit {0}
Sized texts e = Unit {0}
Sized parts e = PartFits e

pub length_of_lem : (k : Kind) (e : Entry k) → Sized k e → length (words_of k e) ≡ stride k
length_of_lem bars e f = bar_length e
length_of_lem tracks e f = track_length e
length_of_lem rows e f = row_length e
length_of_lem members e f = member_length e
length_of_lem points e f = point_length e
length_of_lem texts e f = text_length (text_entry e)
length_of_lem parts e f = part_length e f

abbrev pub AllSized : (k : Kind) → List (Entry k) → Type 0
AllSized bars es = Unit {0}
AllSized tracks es = Unit {0}
AllSized rows es = Unit {0}
AllSized members es = Unit {0}
AllSized points es = Unit {0}
AllSized texts es = Unit {0}
AllSized parts es = All PartFits es

pub all_sized : (k : Kind) (es : List (Entry k)) → AllSized k es → All (Sized k) es
all_sized bars es f = all_always (Sized bars) (λ e. tt) es
all_sized tracks es f = all_always (Sized tracks) (λ e. tt) es
all_sized rows es f = all_always (Sized rows) (λ e. tt) es
all_sized members es f = all_always (Sized members) (λ e. tt) es
all_sized points es f = all_always (Sized points) (λ e. tt) es
all_sized texts es f = all_always (Sized texts) (λ e. tt) es
all_sized parts es f = f

-- ---- a choice: on words it shows the choice on entries, and it has what both have

pub pick_shows : {A B : Type 0} (show : A → B) (b : Bool) (x y : A) {u v : B}
    → u ≡ show x → v ≡ show y → pick b u v ≡ show (pick b x y)
pick_shows show true x y p q = p
pick_shows show false x y p q = q

pub pick_both : {A : Type 0} (P : A → Type 0) (b : Bool) (x y : A) → P x → P y → P (pick b x y)
pick_both P true x y p q = p
pick_both P false x y p q = q

-- ---- entries more

module _ (s t : List ℕ) (k : Kind) where
  pub add_shows : (n : ℕ) (e : Entry k) (es : List (Entry k)) → AllSized k es → length es ≡ n
      → (words s).add k n e (shown k t es) ≡ shown k t (lists.add k n e es)
  add_shows n e es f h = shows_more (words_of k) (stride k) (Sized k) (length_of_lem k) t es (all_sized k es f) e n h

  all_add_shows : (n : ℕ) (qs es : List (Entry k)) → All (Sized k) qs → All (Sized k) es → length es ≡ n
      → add_all (words s) k n qs (shown k t es) ≡ shown k t (es ++ qs)
  all_add_shows n [] es g f h = rw append-nil
  all_add_shows n (e ∷ qs) es g f h =
      let m : length (es ++ (e ∷ [])) ≡ n + 1 = simp length-append (omega arith) in
      rw (shows_more (words_of k) (stride k) (Sized k) (length_of_lem k) t es f e n h)
      (all_add_shows (n + 1) qs (es ++ (e ∷ [])) g.1 (all_more (Sized k) es e f g.0) m ∙ rw append_assoc)

  pub add_all_shows : (n : ℕ) (qs es : List (Entry k)) → AllSized k qs → AllSized k es → length es ≡ n
      → add_all (words s) k n qs (shown k t es) ≡ shown k t (es ++ qs)
  add_all_shows n qs es g f h = all_add_shows n qs es (all_sized k qs g) (all_sized k es f) h

pub add_all_is : (k : Kind) (n : ℕ) (qs es : List (Entry k)) → add_all lists k n qs es ≡ es ++ qs
add_all_is k n [] es = rw append-nil
add_all_is k n (e ∷ qs) es = add_all_is k (n + 1) qs (es ++ (e ∷ [])) ∙ rw append_assoc
