-- Rows that are kept one after another: how many entries there are then, what the voice remembers, and that words show
-- it.
use Rattle.std.specs.Prelude.{None, Option, Some}
use Prim.Native.Nat.{ℕ, ◌+◌, ◌*◌, ◌≤◌}
use mathlib.Core.Path.{◌≡◌, refl, sym, ◌∙◌}
use mathlib.Core.Bool.{◌&&◌}
use mathlib.Core.List.{List, [], ◌∷◌}
use native.Mathlib.Omega.{arith}
use lib.Dec.{eqb}
use lib.ListN.{length, length-append}
use Rattle.format.specs.Text.{pick}
use Rattle.model.specs.declared.Member.{Member}
use Rattle.model.specs.declared.Row.{Row}
use Rattle.model.specs.declared.RowKind.{RowKind}
use Rattle.model.specs.declared.RowKind.TheVariants.{Grace, Beat}
use Rattle.model.specs.declared.Span.{Span}
use Rattle.entries.specs.Words.{member_stride}
use Rattle.score.specs.declared.Hammer.{Hammer}
use Rattle.score.specs.declared.OttavaRun.{OttavaRun}
use Rattle.score.specs.declared.Voice.{Voice}
use Rattle.score.specs.Rows.{RowIs}
use Rattle.score.specs.Page.{rows, members, points, Rowing, span_of, fingered, marked, pulls, first_key, hammer_after}
use Rattle.score.specs.Page.{under, same_kind, run_after, last_after, turn_hammer, turn_run, start_ties, keep_row, keep_rows}
use Rattle.score.specs.Score.{Lists, lists}
use Rattle.words.specs.Lent.{Lent}
use Rattle.words.specs.Words.{LARGEST, Words, words}
use Rattle.refine.proofs.All.{All}
use Rattle.refine.proofs.Alike.{HammerWithin, RunWithin, VoiceWithin}
use Rattle.refine.proofs.Counts.{plus_is}
use Rattle.refine.proofs.Given.{Stringed, RowFit, members_in, points_in, AlikeRow, alike_self, AlikeRows}
use Rattle.refine.proofs.Keeps.{length-add_all, length-pull_off, length-carry_on, length-start_tie}
use Rattle.refine.proofs.Ops.{pull_off_shows, carry_on_shows, start_tie_shows}
use Rattle.refine.proofs.Parts.{HammerFits, VoiceFits}
use Rattle.refine.proofs.Shown.{shown, pick_shows, pick_both, add_shows, add_all_shows, add_all_is}

-- ---- how many entries there are

length_hammer : (h : Option Hammer) (r : RowIs) (rs : List Row) → length (turn_hammer lists h r rs) ≡ length rs
length_hammer None r rs = refl
length_hammer (Some w) r rs =
    pick_both (λ l. length l ≡ length rs) (pulls r w.key) (lists.pull_off w.row rs) rs (length-pull_off w.row rs) refl

length_run : (h : Option OttavaRun) (r : RowIs) (rs : List Row) → length (turn_run lists h r rs) ≡ length rs
length_run None r rs = refl
length_run (Some o) r rs =
    pick_both (λ l. length l ≡ length rs) (under r && same_kind r (Some o)) (lists.carry_on o.row rs) rs
    (length-carry_on o.row rs) refl

-- a member's tie, where it ends one
abbrev tie_by : Span → Member → List Member → List Member
tie_by last m ms = pick m.ties.end (lists.start_tie last m ms) ms

length-tie : (last : Span) (m : Member) (ms : List Member) → length (tie_by last m ms) ≡ length ms
length-tie last m ms =
    pick_both (λ l. length l ≡ length ms) m.ties.end (lists.start_tie last m ms) ms
    (length-start_tie m ms last) refl

length-ties : (last : Span) (tied ms : List Member) → length (start_ties lists last tied ms) ≡ length ms
length-ties last [] ms = refl
length-ties last (m ∷ tied) ms =
    length-ties last tied (tie_by last m ms) ∙ length-tie last m ms

length-fingered : (ms : List Member) → length (fingered ms) ≡ length ms
length-fingered [] = refl
length-fingered (m ∷ []) = refl
length-fingered (m ∷ n ∷ ms) = refl

module _ (r : RowIs) (w : Rowing Lists) where
  kept_rows : length (keep_row lists r w).rows ≡ length w.rows + 1
  unfolding keep_row
  kept_rows =
      let struck : List Row = turn_hammer lists w.voice.hammer r w.rows in
      rw length-append
      (omega (arith, length_run w.voice.run r struck, length_hammer w.voice.hammer r w.rows))

  kept_members : length (keep_row lists r w).members ≡ length w.members + length r.members
  unfolding keep_row
  kept_members =
      let tied : List Member = start_ties lists w.voice.last r.members w.members in
      length-add_all members w.kept.members (fingered r.members) tied
      ∙ rw (length-ties w.voice.last r.members w.members, length-fingered r.members)

  kept_points : length (keep_row lists r w).points ≡ length w.points + length r.curve
  unfolding keep_row
  kept_points = length-add_all points w.kept.points r.curve w.points

pub rows_after : (rs : List RowIs) (w : Rowing Lists)
    → length (keep_rows lists rs w).rows ≡ length w.rows + length rs
rows_after [] w = omega arith
rows_after (r ∷ rs) w = omega (arith, rows_after rs (keep_row lists r w), kept_rows r w)

pub members_after : (rs : List RowIs) (w : Rowing Lists)
    → length (keep_rows lists rs w).members ≡ length w.members + members_in rs
members_after [] w = omega arith
members_after (r ∷ rs) w = omega (arith, members_after rs (keep_row lists r w), kept_members r w)

pub points_after : (rs : List RowIs) (w : Rowing Lists)
    → length (keep_rows lists rs w).points ≡ length w.points + points_in rs
points_after [] w = omega arith
points_after (r ∷ rs) w = omega (arith, points_after rs (keep_row lists r w), kept_points r w)

-- ---- what the voice remembers is there

pub record RowingFits (w : Rowing Lists) : Type 0 where
  pub rows : w.kept.rows ≡ length w.rows
  pub members : w.kept.members ≡ length w.members
  pub points : w.kept.points ≡ length w.points
  pub within : VoiceWithin (length w.rows) (length w.members) w.voice
  pub fits : VoiceFits w.voice

hammer_later : (m n : ℕ) (h : Option Hammer) → HammerWithin m h → m ≤ n → HammerWithin n h
hammer_later m n None f l = tt
hammer_later m n (Some w) f l = omega arith

run_later : (m n : ℕ) (r : Option OttavaRun) → RunWithin m r → m ≤ n → RunWithin n r
run_later m n None f l = tt
run_later m n (Some o) f l = omega arith

-- where there are more rows and members
pub voice_later : {i j m n : ℕ} {v : Voice} → VoiceWithin i m v → i ≤ j → m ≤ n → VoiceWithin j n v
voice_later {i} {j} {m} {n} {v} f h k =
    record {
      hammer = hammer_later i j v.hammer f.hammer h;
      run = run_later i j v.run f.run h;
      last = omega (arith, f.last);
    }

hammer_there : (n : ℕ) (r : RowIs) → HammerWithin (n + 1) (hammer_after n r)
hammer_there n r =
    pick_both (HammerWithin (n + 1)) (marked r.text) (Some (record { row = n; key = first_key r.members })) None (omega arith) tt

hammer_fits : (n : ℕ) (r : RowIs) → RowFit r → HammerFits (hammer_after n r)
hammer_fits n r f = pick_both HammerFits (marked r.text) (Some (record { row = n; key = first_key r.members })) None f.key tt

run_there : (n : ℕ) (r : RowIs) (run : Option OttavaRun) → RunWithin n run → RunWithin (n + 1) (run_after n r run)
run_there n r run f =
    pick_both (RunWithin (n + 1)) (under r) (Some (record { row = n; kind = r.ottava })) (pick (r.rest && same_kind r run) run None)
    (omega arith)
    (pick_both (RunWithin (n + 1)) (r.rest && same_kind r run) run None (run_later n (n + 1) run f (omega arith)) tt)

abbrev SpanWithin : ℕ → Span → Type 0
SpanWithin n x = x.first + x.count ≤ n

last_there : (k : RowKind) (first count : ℕ) (last : Span) → SpanWithin first last
    → SpanWithin (first + count) (last_after k (span_of first count) last)
last_there Grace first count last f = omega arith
last_there Beat first count last f =
    pick_both (SpanWithin (first + count)) (eqb count 0) _ _ (omega arith) (omega arith)

keep_row_fits : (r : RowIs) (w : Rowing Lists) → RowFit r → RowingFits w → RowingFits (keep_row lists r w)
unfolding keep_row
keep_row_fits r w q f =
    let n : w.kept.rows ≡ length w.rows = f.rows in
    let m : w.kept.members ≡ length w.members = f.members in
    record {
      rows = omega (arith, kept_rows r w);
      members = omega (arith, kept_members r w);
      points = omega (arith, kept_points r w, f.points);
      within =
          rw (kept_rows r w, kept_members r w, n, m)
          (record {
            hammer = hammer_there (length w.rows) r;
            run = run_there (length w.rows) r w.voice.run f.within.run;
            last = last_there r.kind (length w.members) (length r.members) w.voice.last f.within.last;
          });
      fits =
          record {
            strings = f.fits.strings;
            frets = f.fits.frets;
            hammer = hammer_fits w.kept.rows r q;
          };
    }

pub keep_rows_fits : (rs : List RowIs) (w : Rowing Lists) → All RowFit rs → RowingFits w
    → RowingFits (keep_rows lists rs w)
keep_rows_fits [] w q f = f
keep_rows_fits (r ∷ rs) w q f = keep_rows_fits rs (keep_row lists r w) q.1 (keep_row_fits r w q.0 f)

-- ---- numbers and voice are the same on words, whatever the tables hold and whatever flats the members have

pub record SameKept (x : Rowing Lists) (y : Rowing Words) : Type 0 where
  pub kept : y.kept ≡ x.kept
  pub voice : y.voice ≡ x.voice

module _ (r q : RowIs) (a : AlikeRow r q) (n : ℕ) where
  hammer_alike : hammer_after n q ≡ hammer_after n r
  hammer_alike = rw (a.text, a.key)

  last_alike : (last : Span) → last_after q.kind (span_of n (length q.members)) last
      ≡ last_after r.kind (span_of n (length r.members)) last
  last_alike last = rw (a.kind, a.members)

  run_alike : (run : Option OttavaRun) → run_after n q run ≡ run_after n r run
  run_alike None = rw (a.ottava, a.rest)
  run_alike (Some o) = rw (a.ottava, a.rest)

-- the numbers stay below the largest word
pub record Below (w : Rowing Lists) (rs : List RowIs) : Type 0 where
  pub rows : w.kept.rows + length rs ≤ LARGEST
  pub members : w.kept.members + members_in rs ≤ LARGEST
  pub points : w.kept.points + points_in rs ≤ LARGEST

below_next : (r : RowIs) (rs : List RowIs) (w : Rowing Lists) → Below w (r ∷ rs) → Below (keep_row lists r w) rs
unfolding keep_row
below_next r rs w h =
    record { rows = omega (arith, h.rows); members = omega (arith, h.members); points = omega (arith, h.points) }

module _ (s : List ℕ) where
  keep_row_same : (r q : RowIs) (rs : List RowIs) → AlikeRow r q → (x : Rowing Lists) (y : Rowing Words)
      → Below x (r ∷ rs) → SameKept x y → SameKept (keep_row lists r x) (keep_row (words s) q y)
  unfolding keep_row
  keep_row_same r q rs a x y h e =
      let n : x.kept.rows + 1 ≤ LARGEST = omega (arith, h.rows) in
      let m : x.kept.members + length r.members ≤ LARGEST = omega (arith, h.members) in
      let k : x.kept.points + length r.curve ≤ LARGEST = omega (arith, h.points) in
      record {
        kept =
            rw (e.kept, a.members, a.curve)
            (λ i. record {
              rows = plus_is x.kept.rows 1 n i;
              members = plus_is x.kept.members (length r.members) m i;
              points = plus_is x.kept.points (length r.curve) k i;
            });
        voice =
            rw (e.kept, e.voice)
            (λ i. record {
              frets = x.voice.frets;
              hammer = hammer_alike r q a x.kept.rows i;
              last = last_alike r q a x.kept.members x.voice.last i;
              run = run_alike r q a x.kept.rows x.voice.run i;
            });
      }

  pub keep_rows_same : (rs qs : List RowIs) → AlikeRows rs qs → (x : Rowing Lists) (y : Rowing Words) → Below x rs
      → SameKept x y → SameKept (keep_rows lists rs x) (keep_rows (words s) qs y)
  keep_rows_same [] [] a x y h e = e
  keep_rows_same [] (q ∷ qs) a x y h e = absurd a
  keep_rows_same (r ∷ rs) [] a x y h e = absurd a
  keep_rows_same (r ∷ rs) (q ∷ qs) a x y h e =
      keep_rows_same rs qs a.1 (keep_row lists r x) (keep_row (words s) q y) (below_next r rs x h)
      (keep_row_same r q rs a.0 x y h e)

-- ---- and the tables are shown, where there is room for the members that ties may start on

abbrev pub on_words : Lent → Rowing Lists → Rowing Words
on_words t w =
    record {
      rows = shown rows t.rows w.rows;
      members = shown members t.members w.members;
      points = shown points t.points w.points;
      kept = w.kept;
      voice = w.voice;
    }

module _ (s t : List ℕ) (r : RowIs) (rs : List Row) where
  hammer_shows : (h : Option Hammer) → HammerWithin (length rs) h
      → turn_hammer (words s) h r (shown rows t rs) ≡ shown rows t (turn_hammer lists h r rs)
  hammer_shows None f = refl
  hammer_shows (Some w) f =
      pick_shows (shown rows t) (pulls r w.key) (lists.pull_off w.row rs) rs (pull_off_shows s t w.row rs f) refl

  run_shows : (run : Option OttavaRun) → RunWithin (length rs) run
      → turn_run (words s) run r (shown rows t rs) ≡ shown rows t (turn_run lists run r rs)
  run_shows None f = refl
  run_shows (Some o) f =
      pick_shows (shown rows t) (under r && same_kind r (Some o)) (lists.carry_on o.row rs) rs
      (carry_on_shows s t o.row rs f) refl

ties_show : (s t : List ℕ) (last : Span) (tied ms : List Member) → All Stringed tied
    → length ms * member_stride ≤ length t → SpanWithin (length ms) last
    → start_ties (words s) last tied (shown members t ms) ≡ shown members t (start_ties lists last tied ms)
ties_show s t last [] ms q h l = refl
ties_show s t last (m ∷ tied) ms q h l =
    let same : length (tie_by last m ms) ≡ length ms = length-tie last m ms in
    rw (pick_shows (shown members t) m.ties.end (lists.start_tie last m ms) ms
    (start_tie_shows s t last m ms q.0 h l) refl)
    (ties_show s t last tied (tie_by last m ms) q.1 (omega arith) (omega arith))

module _ (s : List ℕ) (t : Lent) (r : RowIs) (w : Rowing Lists) (f : RowingFits w) where
  rows_show : (keep_row (words s) r (on_words t w)).rows ≡ shown rows t.rows (keep_row lists r w).rows
  unfolding keep_row
  rows_show =
      let struck : List Row = turn_hammer lists w.voice.hammer r w.rows in
      let same : length struck ≡ length w.rows = length_hammer w.voice.hammer r w.rows in
      let run : RunWithin (length struck) w.voice.run = rw same f.within.run in
      rw (
        hammer_shows s t.rows r w.rows w.voice.hammer f.within.hammer,
        run_shows s t.rows r struck w.voice.run run,
      )
      (add_shows s t.rows rows w.kept.rows _ (turn_run lists w.voice.run r struck) tt
      (omega (arith, length_run w.voice.run r struck, f.rows)))

  members_show : All Stringed r.members → length w.members * member_stride ≤ length t.members
      → (keep_row (words s) r (on_words t w)).members ≡ shown members t.members (keep_row lists r w).members
  unfolding keep_row
  members_show q h =
      let tied : List Member = start_ties lists w.voice.last r.members w.members in
      rw (
        ties_show s t.members w.voice.last r.members w.members q h f.within.last,
        add_all_is members w.kept.members (fingered r.members) tied,
      )
      (add_all_shows s t.members members w.kept.members (fingered r.members) tied tt tt
      (omega (arith, length-ties w.voice.last r.members w.members, f.members)))

  points_show : (keep_row (words s) r (on_words t w)).points ≡ shown points t.points (keep_row lists r w).points
  unfolding keep_row
  points_show =
      rw (add_all_is points w.kept.points r.curve w.points)
      (add_all_shows s t.points points w.kept.points r.curve w.points tt tt (sym f.points))

  keep_row_shows : (rs : List RowIs) → RowFit r → Below w (r ∷ rs)
      → length w.members * member_stride ≤ length t.members
      → keep_row (words s) r (on_words t w) ≡ on_words t (keep_row lists r w)
  keep_row_shows rs q b h =
      let e : SameKept (keep_row lists r w) (keep_row (words s) r (on_words t w)) =
      keep_row_same s r r rs (alike_self r) w (on_words t w) b (record { kept = refl; voice = refl }) in
      λ i. record {
        rows = rows_show i;
        members = members_show q.strings h i;
        points = points_show i;
        kept = e.kept i;
        voice = e.voice i;
      }

pub keep_rows_show : (s : List ℕ) (t : Lent) (rs : List RowIs) (w : Rowing Lists) → RowingFits w → All RowFit rs
    → Below w rs → length (keep_rows lists rs w).members * member_stride ≤ length t.members
    → keep_rows (words s) rs (on_words t w) ≡ on_words t (keep_rows lists rs w)
keep_rows_show s t [] w f q b h = refl
keep_rows_show s t (r ∷ rs) w f q b h =
    rw (keep_row_shows s t r w f rs q.0 b (omega (arith, members_after (r ∷ rs) w)))
    (keep_rows_show s t rs (keep_row lists r w) (keep_row_fits r w q.0 f) q.1 (below_next r rs w b) h)
