-- Which member of a chord one tied member starts a tie at; that a tie starts has no part in which member answers.
use Prim.Native.Nat.{ℕ, zero, suc, ◌<◌}
use native.Mathlib.Omega.{arith}
use mathlib.Core.Path.{◌≡◌, refl, sym, ap, ◌∙◌}
use mathlib.Core.Bool.{Bool, true, false, not, ◌&&◌, ◌||◌}
use mathlib.Core.List.{List, [], ◌∷◌, map}
use lib.ListN.{length, get_or}
use Rattle.format.specs.Text.{pick}
use Rattle.model.specs.declared.Member.{Member}
use Rattle.entries.specs.Changed.{with_tie_start}
use Rattle.score.specs.Score.{answers, no_member}
use Rattle.refine.proofs.Shown.{pick_both}
use Rattle.neighbours.specs.Ties.{first_answers, answers_one}
use Rattle.neighbours.proofs.Chords.{start_one, tie_one, start_all}

or_true : (b : Bool) → b || true ≡ true
or_true true = refl
or_true false = refl

pub or_false : (b : Bool) → b || false ≡ b
or_false true = refl
or_false false = refl

pub or_assoc : (a b c : Bool) → (a || b) || c ≡ a || (b || c)
or_assoc true b c = refl
or_assoc false b c = refl

-- ---- whether a tie starts has no part in which member answers

abbrev pub bare : List Member → List Member
bare ms = map (with_tie_start false) ms

bare_one : (t : Member) (ms : List Member) → bare (start_one t ms) ≡ bare ms
bare_one t [] = refl
bare_one t (m ∷ ms) =
    pick_both (λ l. bare l ≡ bare (m ∷ ms)) (answers t m) (with_tie_start true m ∷ ms) (m ∷ start_one t ms) refl
    (ap (λ (l : List Member). with_tie_start false m ∷ l) (bare_one t ms))

pub bare_tie : (t : Member) (ms : List Member) → bare (tie_one t ms) ≡ bare ms
bare_tie t ms = pick_both (λ l. bare l ≡ bare ms) t.ties.end (start_one t ms) ms (bare_one t ms) refl

pub bare_all : (next ms : List Member) → bare (start_all next ms) ≡ bare ms
bare_all [] ms = refl
bare_all (t ∷ next) ms = bare_all next (tie_one t ms) ∙ bare_tie t ms

first_bare : (t : Member) (ms : List Member) (i : ℕ) → first_answers t (bare ms) i ≡ first_answers t ms i
first_bare t [] i = refl
first_bare t (m ∷ ms) zero = refl
first_bare t (m ∷ ms) (suc i) = rw (first_bare t ms i)

chord_bare : (ms : List Member) (i : ℕ) (next : List Member) → answers_one (bare ms) i next ≡ answers_one ms i next
chord_bare ms i [] = refl
chord_bare ms i (t ∷ next) = rw (first_bare t ms i, chord_bare ms i next)

tied_bare : (t : Member) (ms : List Member) (i : ℕ) → first_answers (with_tie_start false t) ms i ≡ first_answers t ms i
tied_bare t [] i = refl
tied_bare t (m ∷ ms) zero = refl
tied_bare t (m ∷ ms) (suc i) = ap (λ (b : Bool). not (answers t m) && b) (tied_bare t ms i)

next_bare : (ms : List Member) (i : ℕ) (next : List Member) → answers_one ms i (bare next) ≡ answers_one ms i next
next_bare ms i [] = refl
next_bare ms i (t ∷ next) = rw (tied_bare t ms i, next_bare ms i next)

-- two chords, and two that follow, that differ in tie starts alone
pub answers_same : (ms ns : List Member) (i : ℕ) (next after : List Member) → bare ms ≡ bare ns → bare next ≡ bare after
    → answers_one ms i next ≡ answers_one ns i after
answers_same ms ns i next after e f =
    sym (chord_bare ms i next) ∙ sym (next_bare (bare ms) i next)
    ∙ ap (λ (l : List Member). answers_one l i (bare next)) e
    ∙ ap (answers_one (bare ns) i) f ∙ next_bare (bare ns) i after ∙ chord_bare ns i after

-- ---- where ties start on one chord

pub one_starts : (t : Member) (ms : List Member) (i : ℕ) → i < length ms
    → (get_or (start_one t ms) i no_member).ties.start ≡ (get_or ms i no_member).ties.start || first_answers t ms i
one_starts t [] i h = absurd (omega arith)
one_starts t (m ∷ ms) zero h = go (answers t m)
  where
    go : (b : Bool) → (get_or (pick b (with_tie_start true m ∷ ms) (m ∷ start_one t ms)) zero no_member).ties.start
        ≡ m.ties.start || b
    go true = sym (or_true m.ties.start)
    go false = sym (or_false m.ties.start)
one_starts t (m ∷ ms) (suc i) h = go (answers t m) (one_starts t ms i (omega arith))
  where
    go : (b : Bool)
        → (get_or (start_one t ms) i no_member).ties.start ≡ (get_or ms i no_member).ties.start || first_answers t ms i
        → (get_or (pick b (with_tie_start true m ∷ ms) (m ∷ start_one t ms)) (suc i) no_member).ties.start
        ≡ (get_or ms i no_member).ties.start || (not b && first_answers t ms i)
    go true f = sym (or_false (get_or ms i no_member).ties.start)
    go false f = f
