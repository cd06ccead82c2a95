-- Rows one after another whose bytes rise: how they stay so while rows are added and neighbours change them.
use Rattle.std.specs.Prelude.{None, Option, Some}
use Prim.Native.Nat.{ℕ, zero, suc, ◌+◌, ◌≤◌, ◌<◌}
use native.Mathlib.Omega.{arith}
use mathlib.Core.Logic.{inl, inr}
use mathlib.Core.Path.{◌≡◌, refl, sym, ap, ◌∙◌}
use mathlib.Core.Bool.{Bool, true, false, ◌&&◌, true≢false}
use mathlib.Core.List.{List, [], ◌∷◌, ◌++◌}
use lib.ListN.{length, get_or}
use Rattle.format.specs.declared.Range.{Range}
use Rattle.tables.specs.Table.{change}
use Rattle.model.specs.declared.Row.{Row}
use Rattle.model.specs.declared.RowKind.{RowKind}
use Rattle.model.specs.declared.RowKind.TheVariants.{Grace, Beat}
use Rattle.model.specs.declared.Technique.TheVariants.{PullOff}
use Rattle.entries.specs.Changed.{with_technique, with_ottava_end}
use Rattle.beat.specs.Beat.{BeatIs}
use Rattle.score.specs.declared.Hammer.{Hammer}
use Rattle.score.specs.declared.OttavaRun.{OttavaRun}
use Rattle.score.specs.Rows.{RowIs}
use Rattle.score.specs.Page.{pulls, under, same_kind, turn_hammer, turn_run}
use Rattle.score.specs.Score.{lists}
use Rattle.refine.proofs.All.{All, all_more, all_change, all_weaker}
use Rattle.refine.proofs.Shown.{pick_both}
use Rattle.ranges.specs.Ranges.{alone, RowOf, Shows, Within, GraceOf, Follows, RisingFrom, Rising, Apart}

-- ---- the last of some rows

module _ (P : Row → Type 0) where
  abbrev LastFrom : Row → List Row → Type 0
  LastFrom r [] = P r
  LastFrom r (q ∷ rs) = LastFrom q rs

  abbrev pub Last : List Row → Type 0
  Last [] = Unit {0}
  Last (r ∷ rs) = LastFrom r rs

  last_of_all_from : (r : Row) (rs : List Row) → P r → All P rs → LastFrom r rs
  last_of_all_from r [] h f = h
  last_of_all_from r (q ∷ rs) h f = last_of_all_from q rs f.0 f.1

  pub last_of_all : (rs : List Row) → All P rs → Last rs
  last_of_all [] f = tt
  last_of_all (r ∷ rs) f = last_of_all_from r rs f.0 f.1

  last_more_from : (r : Row) (rs : List Row) (q : Row) → P q → LastFrom r (rs ++ (q ∷ []))
  last_more_from r [] q h = h
  last_more_from r (p ∷ rs) q h = last_more_from p rs q h

  pub last_more : (rs : List Row) (q : Row) → P q → Last (rs ++ (q ∷ []))
  last_more [] q h = h
  last_more (r ∷ rs) q h = last_more_from r rs q h

  module _ (g : Row → Row) (keeps : (r : Row) → P r → P (g r)) where
    last_change_from : (r : Row) (rs : List Row) (i : ℕ) → LastFrom r rs → LastFrom r (change g rs i)
    last_change_from r [] i f = f
    last_change_from r (q ∷ []) zero f = keeps q f
    last_change_from r (q ∷ p ∷ rs) zero f = f
    last_change_from r (q ∷ rs) (suc i) f = last_change_from q rs i f

    last_change : (rs : List Row) (i : ℕ) → Last rs → Last (change g rs i)
    last_change [] i f = f
    last_change (r ∷ []) zero f = keeps r f
    last_change (r ∷ q ∷ rs) zero f = f
    last_change (r ∷ rs) (suc i) f = last_change_from r rs i f

-- ---- rising rows, and one more

rising_more_from : (r : Row) (rs : List Row) (q : Row) → RisingFrom r rs → LastFrom (λ p. Follows p q) r rs
    → RisingFrom r (rs ++ (q ∷ []))
rising_more_from r [] q f l = (l, tt)
rising_more_from r (p ∷ rs) q f l = (f.0, rising_more_from p rs q f.1 l)

rising_more : (rs : List Row) (q : Row) → Rising rs → Last (λ p. Follows p q) rs → Rising (rs ++ (q ∷ []))
rising_more [] q f l = tt
rising_more (r ∷ rs) q f l = rising_more_from r rs q f l

-- a change of a row that leaves how it follows, and is followed
module _ (g : Row → Row) (left : (r q : Row) → Follows r q → Follows (g r) q)
    (right : (r q : Row) → Follows r q → Follows r (g q)) where
  rising_head : (r : Row) (rs : List Row) → RisingFrom r rs → RisingFrom (g r) rs
  rising_head r [] f = tt
  rising_head r (q ∷ rs) f = (left r q f.0, f.1)

  rising_change_from : (r : Row) (rs : List Row) (i : ℕ) → RisingFrom r rs → RisingFrom r (change g rs i)
  rising_change_from r [] i f = tt
  rising_change_from r (q ∷ rs) zero f = (right r q f.0, rising_head q rs f.1)
  rising_change_from r (q ∷ rs) (suc i) f = (f.0, rising_change_from q rs i f.1)

  rising_change : (rs : List Row) (i : ℕ) → Rising rs → Rising (change g rs i)
  rising_change [] i f = tt
  rising_change (r ∷ rs) zero f = rising_head r rs f
  rising_change (r ∷ rs) (suc i) f = rising_change_from r rs i f

-- ---- rows as far as a position of the file, of which the last has a property

pub record Stands (s : List ℕ) (v at : ℕ) (r : Row) : Type 0 where
  pub shows : Shows s v r
  pub within : Within at r

-- further on in the file they stand as they stood
pub stands_later : (s : List ℕ) (v at n : ℕ) → at ≤ n → (rs : List Row) → All (Stands s v at) rs → All (Stands s v n) rs
stands_later s v at n h =
    all_weaker (Stands s v at) (Stands s v n) (λ r st. record {
      shows = st.shows;
      within = record { starts = st.within.starts; ends = omega (arith, st.within.ends, h) };
    })

pub record Risen (s : List ℕ) (v at : ℕ) (P : Row → Type 0) (rs : List Row) : Type 0 where
  pub each : All (Stands s v at) rs
  pub rising : Rising rs
  pub last : Last P rs

-- a change of a row by its neighbours: it stays where it stands, and is of the same beat
pub record Neighbourly (g : Row → Row) : Type 0 where
  pub kind : (r : Row) → (g r).kind ≡ r.kind
  pub place : (r : Row) → (g r).place ≡ r.place
  pub beat : (r : Row) → (g r).beat ≡ r.beat
  pub alone : (r : Row) → alone (g r) ≡ alone r

module _ (g : Row → Row) (k : Neighbourly g) where
  changed_row : (b : BeatIs) (r : Row) → RowOf b r → RowOf b (g r)
  changed_row b r f =
      record {
        board = f.board;
        frets = f.frets;
        flat = f.flat;
        running = f.running;
        before = f.before;
        row = f.row;
        after = f.after;
        among = rw (k.place r) f.among;
        marks = f.marks;
        kept = f.kept;
        is = k.alone r ∙ f.is;
      }

  changed_stands : (s : List ℕ) (v at : ℕ) (r : Row) → Stands s v at r → Stands s v at (g r)
  changed_stands s v at r f =
      record {
        shows = record {
          beat = f.shows.beat;
          read = rw (k.beat r) f.shows.read;
          kept = f.shows.kept;
          row_of = changed_row f.shows.beat r f.shows.row_of;
        };
        within = record { starts = rw (k.beat r) f.within.starts; ends = rw (k.beat r) f.within.ends };
      }

  changed_first : (r q : Row) → Follows r q → Follows (g r) q
  changed_first r q f = elim f [
    | inl x ↦ inl (record {
      grace = k.kind r ∙ x.grace;
      beat = x.beat;
      place = k.place r ∙ x.place;
      range = k.beat r ∙ x.range;
    })
    | inr h ↦ inr (rw (k.beat r) h)
  ]

  changed_second : (r q : Row) → Follows r q → Follows r (g q)
  changed_second r q f = elim f [
    | inl x ↦ inl (record {
      grace = x.grace;
      beat = k.kind q ∙ x.beat;
      place = x.place ∙ sym (k.place q);
      range = x.range ∙ sym (k.beat q);
    })
    | inr h ↦ inr (rw (k.beat q) h)
  ]

  changed_risen : (s : List ℕ) (v at : ℕ) (P : Row → Type 0) → ((r : Row) → P r → P (g r)) → (rs : List Row) (i : ℕ)
      → Risen s v at P rs → Risen s v at P (change g rs i)
  changed_risen s v at P keeps rs i f =
      record {
        each = all_change (Stands s v at) g (changed_stands s v at) rs i f.each;
        rising = rising_change g changed_first changed_second rs i f.rising;
        last = last_change P g keeps rs i f.last;
      }

pull_off : Neighbourly (with_technique PullOff)
pull_off = record { kind = λ r. refl; place = λ r. refl; beat = λ r. refl; alone = λ r. refl }

carry_on : Neighbourly (with_ottava_end false)
carry_on = record { kind = λ r. refl; place = λ r. refl; beat = λ r. refl; alone = λ r. refl }

-- what the next row does to those before it
module _ (s : List ℕ) (v at : ℕ) (next : Row) (r : RowIs) where
  abbrev Ready : List Row → Type 0
  Ready rs = Risen s v at (λ q. Follows q next) rs

  hammer_risen : (h : Option Hammer) (rs : List Row) → Ready rs → Ready (turn_hammer lists h r rs)
  hammer_risen None rs f = f
  hammer_risen (Some w) rs f =
      pick_both Ready (pulls r w.key) (lists.pull_off w.row rs) rs
      (changed_risen _ pull_off s v at _ (λ q. changed_first _ pull_off q next) rs w.row f) f

  run_risen : (o : Option OttavaRun) (rs : List Row) → Ready rs → Ready (turn_run lists o r rs)
  run_risen None rs f = f
  run_risen (Some o) rs f =
      pick_both Ready (under r && same_kind r (Some o)) (lists.carry_on o.row rs) rs
      (changed_risen _ carry_on s v at _ (λ q. changed_first _ carry_on q next) rs o.row f) f

  -- and the next row itself
  pub row_risen : (h : Option Hammer) (o : Option OttavaRun) (rs : List Row) (P : Row → Type 0) → Ready rs → Stands s v at next → P next
      → Risen s v at P (turn_run lists o r (turn_hammer lists h r rs) ++ (next ∷ []))
  row_risen h o rs P f stands p =
      let turned : List Row = turn_run lists o r (turn_hammer lists h r rs) in
      let so : Ready turned = run_risen o (turn_hammer lists h r rs) (hammer_risen h rs f) in
      record {
        each = all_more (Stands s v at) turned next so.each stands;
        rising = rising_more turned next so.rising so.last;
        last = last_more P turned next p;
      }

-- ---- any two rows of them

same_start : {r q : Range} → r ≡ q → r.start ≡ q.start
same_start e = ap (λ (r : Range). r.start) e

same_end : {r q : Range} → r ≡ q → r.end ≡ q.end
same_end e = ap (λ (r : Range). r.end) e

abbrev is_grace : RowKind → Bool
is_grace Grace = true
is_grace Beat = false

-- the row after a grace is a beat's, and so no grace itself
grace_once : {X : Type 0} {r q p : Row} → GraceOf r q → GraceOf q p → X
grace_once x y = absurd (true≢false (ap is_grace (sym y.grace ∙ x.beat)))

apart_next : (i j k l : ℕ) {r q p : Row} → Follows r q → q.beat.start < q.beat.end → Apart i j q p
    → Apart k l r p
apart_next i j k l f has g = elim f [
  | inl x ↦ elim g [
    | inl y ↦ grace_once x y.1
    | inr m ↦ inr (omega (arith, m, same_end x.range))
  ]
  | inr h ↦ elim g [
    | inl y ↦ inr (omega (arith, h, same_start y.1.range))
    | inr m ↦ inr (omega (arith, h, has, m))
  ]
]

module _ (s : List ℕ) (v at : ℕ) (none : Row) where
  apart_from : (r : Row) (rs : List Row) (j : ℕ) → RisingFrom r rs → All (Stands s v at) rs → j < length rs
      → Apart 0 (j + 1) r (get_or rs j none)
  apart_from r [] j f k h = absurd (omega arith)
  apart_from r (q ∷ rs) zero f k h = elim f.0 [
    | inl x ↦ inl (refl, x)
    | inr b ↦ inr b
  ]
  apart_from r (q ∷ rs) (suc j) f k h =
      apart_next 0 (j + 1) 0 (suc j + 1) f.0 k.0.within.starts (apart_from q rs j f.1 k.1 (omega arith))

  rising_rest : (r : Row) (rs : List Row) → RisingFrom r rs → Rising rs
  rising_rest r [] f = tt
  rising_rest r (q ∷ rs) f = f.1

  -- of any two, the first is the grace directly before the second, or its bytes end before the second's start
  pub rows_apart : (rs : List Row) (i j : ℕ) → Rising rs → All (Stands s v at) rs → i < j → j < length rs
      → Apart i j (get_or rs i none) (get_or rs j none)
  rows_apart [] i j f k l h = absurd (omega arith)
  rows_apart (r ∷ rs) i zero f k l h = absurd (omega arith)
  rows_apart (r ∷ rs) zero (suc j) f k l h = elim (apart_from r rs j f k.1 (omega arith)) [
    | inl x ↦ inl (omega (arith, x.0), x.1)
    | inr b ↦ inr b
  ]
  rows_apart (r ∷ rs) (suc i) (suc j) f k l h =
      elim (rows_apart rs i j (rising_rest r rs f) k.1 (omega arith) (omega arith)) [
        | inl x ↦ inl (omega (arith, x.0), x.1)
        | inr b ↦ inr b
      ]
