-- What is seen of the rows that are kept: each new row stands after those before it, and what is seen of those stays.
use Rattle.std.specs.Prelude.{None, Option, Some}
use Prim.Native.Nat.{ℕ, zero, suc, ◌+◌, ◌≤◌}
use native.Mathlib.Omega.{arith}
use mathlib.Core.Path.{◌≡◌, refl, sym, ◌∙◌}
use mathlib.Core.Bool.{Bool, true, false, ◌&&◌}
use mathlib.Core.List.{List, [], ◌∷◌, ◌++◌, map, map-append, append-nil, append_assoc}
use borrow.Author.Tests.{eqb-true}
use lib.Dec.{eqb}
use lib.ListN.{length, get_or, drop, length-append, length-map, length-drop}
use lib.Seq.{take-append-le, drop-append-le, take-length, drop_at}
use Rattle.format.specs.Text.{pick}
use Rattle.tables.specs.Table.{change}
use Rattle.model.specs.declared.Member.{Member}
use Rattle.model.specs.declared.Row.{Row}
use Rattle.model.specs.declared.Span.{Span}
use Rattle.model.specs.declared.Technique.TheVariants.{PullOff}
use Rattle.entries.specs.Changed.{with_technique, with_ottava_end, with_tie_start}
use Rattle.score.specs.declared.Hammer.{Hammer}
use Rattle.score.specs.declared.OttavaRun.{OttavaRun}
use Rattle.score.specs.Rows.{RowIs}
use Rattle.score.specs.Page as Page
use Rattle.score.specs.Page.{Rowing, span_of, fingered, row_entry, pulls, under, same_kind, ottava_marks}
use Rattle.score.specs.Page.{turn_hammer, turn_run, start_ties, keep_row, keep_rows}
use Rattle.score.specs.Score.{Lists, lists, answers, no_member, start_first}
use Rattle.refine.proofs.All.{All, all_more, all_change, all_weaker}
use Rattle.refine.proofs.Shown.{pick_both, add_all_is}
use Rattle.teacher.specs.Teacher.{Seen, seen, SeenRow, in_span, seen_row, page}

-- ---- a change that is not seen
unseen : {A B : Type 0} (f : A → B) (g : A → A) → ((a : A) → f (g a) ≡ f a) → (es : List A) (i : ℕ)
    → map f (change g es i) ≡ map f es
unseen f g same [] i = refl
unseen f g same (a ∷ es) zero = rw (same a)
unseen f g same (a ∷ es) (suc i) = rw (unseen f g same es i)

start_unseen : (tied : Member) (ms : List Member) (i n : ℕ) → map seen (start_first i n tied ms) ≡ map seen ms
start_unseen tied ms i zero = refl
start_unseen tied ms i (suc n) =
    pick_both (λ l. map seen l ≡ map seen ms) (answers tied (get_or ms i no_member))
    (change (with_tie_start true) ms i) (start_first (i + 1) n tied ms)
    (unseen seen (with_tie_start true) (λ m. refl) ms i) (start_unseen tied ms (i + 1) n)

ties_unseen : (last : Span) (tied ms : List Member) → map seen (start_ties lists last tied ms) ≡ map seen ms
ties_unseen last [] ms = refl
ties_unseen last (m ∷ tied) ms =
    ties_unseen last tied _
    ∙ pick_both (λ l. map seen l ≡ map seen ms) m.ties.end (lists.start_tie last m ms) ms
    (start_unseen m ms last.first last.count) refl

fingers_unseen : (ms : List Member) → map seen (fingered ms) ≡ map seen ms
fingers_unseen [] = refl
fingers_unseen (m ∷ []) = refl
fingers_unseen (m ∷ n ∷ ms) = refl

hammer_unseen : (q : List Seen) (h : Option Hammer) (r : RowIs) (rs : List Row)
    → map (seen_row q) (turn_hammer lists h r rs) ≡ map (seen_row q) rs
hammer_unseen q None r rs = refl
hammer_unseen q (Some w) r rs =
    pick_both (λ l. map (seen_row q) l ≡ map (seen_row q) rs) (pulls r w.key) (lists.pull_off w.row rs) rs
    (unseen (seen_row q) (with_technique PullOff) (λ a. refl) rs w.row) refl

run_unseen : (q : List Seen) (o : Option OttavaRun) (r : RowIs) (rs : List Row)
    → map (seen_row q) (turn_run lists o r rs) ≡ map (seen_row q) rs
run_unseen q None r rs = refl
run_unseen q (Some o) r rs =
    pick_both (λ l. map (seen_row q) l ≡ map (seen_row q) rs) (under r && same_kind r (Some o)) (lists.carry_on o.row rs) rs
    (unseen (seen_row q) (with_ottava_end false) (λ a. refl) rs o.row) refl

-- ---- the members of a row stand inside the table of n members
abbrev pub Within : ℕ → Row → Type 0
Within n r = r.members.first + r.members.count ≤ n

hammer_within : (n : ℕ) (h : Option Hammer) (r : RowIs) (rs : List Row) → All (Within n) rs
    → All (Within n) (turn_hammer lists h r rs)
hammer_within n None r rs f = f
hammer_within n (Some w) r rs f =
    pick_both (All (Within n)) (pulls r w.key) (lists.pull_off w.row rs) rs
    (all_change (Within n) (with_technique PullOff) (λ a g. g) rs w.row f) f

run_within : (n : ℕ) (o : Option OttavaRun) (r : RowIs) (rs : List Row) → All (Within n) rs
    → All (Within n) (turn_run lists o r rs)
run_within n None r rs f = f
run_within n (Some o) r rs f =
    pick_both (All (Within n)) (under r && same_kind r (Some o)) (lists.carry_on o.row rs) rs
    (all_change (Within n) (with_ottava_end false) (λ a g. g) rs o.row f) f

-- more members don't disturb the rows before
row_stays : (q more : List Seen) (r : Row) → Within (length q) r → seen_row (q ++ more) r ≡ seen_row q r
row_stays q more r f =
    let inside : r.members.count ≤ length (drop r.members.first q) = rw length-drop (omega arith) in
    rw (
      drop-append-le r.members.first q more (omega arith),
      take-append-le r.members.count (drop r.members.first q) more inside,
    )

rows_stay : (q more : List Seen) (rs : List Row) → All (Within (length q)) rs
    → map (seen_row (q ++ more)) rs ≡ map (seen_row q) rs
rows_stay q more [] f = refl
rows_stay q more (r ∷ rs) f = rw (row_stays q more r f.0, rows_stay q more rs f.1)

-- ---- a row that is entered shows its own members
abbrev pub seen_is : RowIs → SeenRow
seen_is r = record { place = r.place; kind = r.kind; members = map seen r.members }

nothing_long : {A : Type 0} (x : List A) → length x ≡ 0 → x ≡ []
nothing_long [] e = refl
nothing_long (a ∷ x) e = absurd (omega arith)

-- x stand after q
module _ (q x : List Seen) where
  span_shows : (n first : ℕ) → n ≡ length x → first ≡ length q → in_span (q ++ x) (span_of first n) ≡ x
  span_shows n first e f = go (eqb n 0) refl
    where
      go : (t : Bool) → eqb n 0 ≡ t
          → in_span (q ++ x) (pick t (record { first = 0; count = 0 }) (record { first = first; count = n })) ≡ x
      go true g = sym (nothing_long x (sym e ∙ eqb-true n 0 g))
      go false g = rw (drop_at q x first (sym f), e) (take-length x)

span_within : (n first room : ℕ) → first + n ≤ room → (span_of first n).first + (span_of first n).count ≤ room
span_within n first room h =
    pick_both (λ (s : Span). s.first + s.count ≤ room) (eqb n 0)
    (record { first = 0; count = 0 }) (record { first = first; count = n }) (omega arith) h

-- ---- the page so far: as many members as are counted, spans inside them, and what is seen of the rows
pub record Stands (rs : List Row) (ms : List Member) (kept : ℕ) (p : List SeenRow) : Type 0 where
  pub count : kept ≡ length ms
  pub within : All (Within (length ms)) rs
  pub seen : page rs ms ≡ p

module _ (r : RowIs) (w : Rowing Lists) (p : List SeenRow) (f : Stands w.rows w.members w.kept.members p) where
  abbrev entry : Row
  entry = row_entry r (ottava_marks r w.voice.run) w.kept

  abbrev turned : List Row
  turned = turn_run lists w.voice.run r (turn_hammer lists w.voice.hammer r w.rows)

  members_after : map seen (keep_row lists r w).members ≡ map seen w.members ++ map seen r.members
  unfolding keep_row
  members_after =
      rw (add_all_is Page.members w.kept.members (fingered r.members))
      (map-append seen (start_ties lists w.voice.last r.members w.members) (fingered r.members)
      ∙ rw (ties_unseen w.voice.last r.members w.members, fingers_unseen r.members))

  many_after : length (keep_row lists r w).members ≡ length w.members + length r.members
  many_after =
      sym (length-map (keep_row lists r w).members seen)
      ∙ rw members_after
      (length-append (map seen w.members) (map seen r.members)
      ∙ rw (length-map w.members seen, length-map r.members seen))

  rows_after : (keep_row lists r w).rows ≡ turned ++ (entry ∷ [])
  unfolding keep_row
  rows_after = refl

  within_after : All (Within (length (keep_row lists r w).members)) (keep_row lists r w).rows
  unfolding row_entry
  within_after =
      let n : ℕ = length w.members + length r.members in
      rw (many_after, rows_after)
      (all_more (Within n) turned entry
      (run_within n w.voice.run r _
      (hammer_within n w.voice.hammer r w.rows
      (all_weaker (Within (length w.members)) (Within n) (λ a h. omega arith) w.rows f.within)))
      (span_within (length r.members) w.kept.members n (omega (arith, f.count))))

  -- what is seen of the members before, and of those of the row
  abbrev before : List Seen
  before = map seen w.members

  abbrev own : List Seen
  own = map seen r.members

  entry_shows : seen_row (before ++ own) entry ≡ seen_is r
  unfolding row_entry
  entry_shows =
      let e : in_span (before ++ own) (span_of w.kept.members (length r.members)) ≡ own =
      span_shows before own (length r.members) w.kept.members (sym (length-map r.members seen))
      (f.count ∙ sym (length-map w.members seen)) in
      λ i. record { place = r.place; kind = r.kind; members = e i }

  turned_shows : map (seen_row (before ++ own)) turned ≡ p
  turned_shows =
      let inside : All (Within (length before)) w.rows = rw (length-map w.members seen) f.within in
      run_unseen (before ++ own) w.voice.run r _
      ∙ hammer_unseen (before ++ own) w.voice.hammer r w.rows
      ∙ rows_stay before own w.rows inside
      ∙ f.seen

  page_after : page (keep_row lists r w).rows (keep_row lists r w).members ≡ p ++ (seen_is r ∷ [])
  page_after =
      rw (rows_after, members_after)
      (map-append (seen_row (before ++ own)) turned (entry ∷ []) ∙ rw (turned_shows, entry_shows))

  counted : (keep_row lists r w).kept.members ≡ length w.members + length r.members
  unfolding keep_row
  counted = rw f.count

  keep_row_stands : Stands (keep_row lists r w).rows (keep_row lists r w).members (keep_row lists r w).kept.members
      (p ++ (seen_is r ∷ []))
  keep_row_stands = record { count = counted ∙ sym many_after; within = within_after; seen = page_after }

pub keep_rows_stand : (rs : List RowIs) (w : Rowing Lists) (p : List SeenRow)
    → Stands w.rows w.members w.kept.members p
    → Stands (keep_rows lists rs w).rows (keep_rows lists rs w).members (keep_rows lists rs w).kept.members
    (p ++ map seen_is rs)
keep_rows_stand [] w p f = rw append-nil f
keep_rows_stand (r ∷ rs) w p f =
    rw append_assoc at (keep_rows_stand rs (keep_row lists r w) (p ++ (seen_is r ∷ [])) (keep_row_stands r w p f))
