-- What the promise of `shelf` comes to, beside that of `read`: document 02's words stand before each theorem.
use Prim.Native.Nat.{ℕ, ◌≤◌}
use native.Mathlib.Omega.{arith}
use mathlib.Core.Logic.{◌↔◌}
use mathlib.Core.Path.{◌≡◌, refl, sym, ap, ◌∙◌}
use mathlib.Core.Bool.{Bool, true, false}
use mathlib.Core.List.{List}
use lib.Dec.{leb}
use lib.ListN.{length, take}
use Rattle.format.specs.declared.Stop.{Stop}
use Rattle.format.specs.declared.Stop.TheVariants as S
use Rattle.format.specs.Text.{pick}
use Rattle.format.specs.Prog.{Res, ok, stopped, run}
use Rattle.format.specs.Verdict as Ends
use Rattle.format.specs.Verdict.{LIMIT, Verdict, whole, bad_version, bad_count, stop_verdict, as_verdict, up_to, verdict}
use Rattle.format.proofs.Run.{run_bind}
use Rattle.format.proofs.Fits.{reads}
use Rattle.format.proofs.Verdict.{end_of, verdict_upto, verdict_whole}
use Rattle.model.specs.declared.Outcome.TheVariants as O
use Rattle.model.specs.Answers.{refusal, no_room_answer}
use Rattle.score.specs.File.{Opening, opening, file}
use Rattle.score.specs.Score.{scored}
use Rattle.score.specs.Reading.{Tables, Result, Score, song_of, needed, enough, file_answer, refused, result_of, reading}
use Rattle.theorems.specs.Promise.{Promise, outcome_in, Beginning}
use Rattle.theorems.proofs.Laws.{begins_after, read_begins, short_begins, fits_read, fits_short}
use Rattle.theorems.proofs.Theorems.{one_of_seven}
use Rattle.shelves.specs.declared.view.Shelf.{Shelf}
use Rattle.shelves.specs.Shelf.{shown, shelf_of, shelving, on_shelf, shelf_number, Opened}
use Rattle.shelves.proofs.Numbers.{Opens, opens_first}

-- ---- laws

pub opened_shown : {d : List ℕ} {g : Opening} {n : ℕ} → Opened d g n → shelving d ≡ shown g
unfolding shelving
opened_shown {d} {g} {n} o = rw ((verdict_whole opening d g n).1 (o.limit, o.begins))

module _ {d : List ℕ} {x : Score} {n : ℕ} (b : Beginning d x n) where
  abbrev first : Opens d x n
  first = opens_first d x n ((reads scored d x n).1 b.begins)

  -- the counts end within what is read
  pub read_opened : Opened d x.song first.end
  read_opened =
      record { limit = omega (arith, first.within, b.limit); begins = (reads opening d x.song first.end).0 first.opens }

  pub score_shown : shelving d ≡ on_shelf (file_answer x n)
  unfolding song_of
  score_shown = opened_shown read_opened ∙ λ i. record {
    outcome = O.Read;
    version = x.song.version;
    title = x.song.info.title;
    composer = x.song.info.composer;
    bars = sym first.bars i;
    tracks = sym first.tracks i;
  }

-- a reading that stops before the counts end stops there when it is to go on
stops_alike : (s : List ℕ) (why : Stop) → run opening s 0 ≡ stopped why → run scored s 0 ≡ stopped why
unfolding scored file
stops_alike s why e = run_bind opening _ s 0 ∙ rw e

module _ (d : List ℕ) (t : Tables) where
  end_alike : (b : Bool) → result_of t (pick b Ends.truncated Ends.too_long)
      ≡ refused (refusal (shelf_of (pick b Ends.truncated Ends.too_long)).outcome) t
  end_alike true = refl
  end_alike false = refl

  stop_alike : (why : Stop) → result_of t (stop_verdict (end_of d) why) ≡ refused (refusal (shelf_of (stop_verdict (end_of d) why)).outcome) t
  stop_alike S.Ends = end_alike (leb (length d) LIMIT)
  stop_alike S.Text = refl
  stop_alike S.Version = refl
  stop_alike (S.Count which value offset) = refl
  stop_alike S.Empty = refl

  refused_by : (x : Res Opening) → run opening (up_to LIMIT d) 0 ≡ x → (shelf_number (shelf_of (as_verdict (end_of d) x)) ≡ 0 → ⊥)
      → result_of t (as_verdict (end_of d) (run scored (up_to LIMIT d) 0)) ≡ refused (refusal (shelf_of (as_verdict (end_of d) x)).outcome) t
  refused_by (ok g n) e h = absurd (h refl)
  refused_by (stopped why) e h = rw (stops_alike (up_to LIMIT d) why e) (stop_alike why)

  reading_refused : (shelf_number (shelving d) ≡ 0 → ⊥) → reading d t ≡ refused (refusal (shelving d).outcome) t
  unfolding reading shelving
  reading_refused h =
      rw (verdict_upto scored d, verdict_upto opening d)
      (refused_by (run opening (up_to LIMIT d) 0) refl (rw (verdict_upto opening d) at h))

up_to_five : (v : Verdict Opening) → shelf_number (shelf_of v) ≤ 5
up_to_five (whole g n) = omega arith
up_to_five Ends.truncated = omega arith
up_to_five Ends.too_long = omega arith
up_to_five bad_version = omega arith
up_to_five (bad_count which value offset) = omega arith
up_to_five Ends.empty = omega arith

was_whole : (v : Verdict Opening) → shelf_number (shelf_of v) ≡ 0 → (g : Opening) × (n : ℕ) × (v ≡ whole g n)
was_whole (whole g n) h = (g, n, refl)
was_whole Ends.truncated h = absurd (omega arith)
was_whole Ends.too_long h = absurd (omega arith)
was_whole bad_version h = absurd (omega arith)
was_whole (bad_count which value offset) h = absurd (omega arith)
was_whole Ends.empty h = absurd (omega arith)

-- ==== document 02, c

-- "Refusals: 1 to 5 as far as that place, in file order; 6 never"
pub six_never : (d : List ℕ) → shelf_number (shelving d) ≤ 5
unfolding shelving
six_never d = up_to_five (verdict opening d)

-- "It should stop right after the bar and track counts": it is 0 exactly where a beginning of the file ends with them,
pub shown_exactly : (d : List ℕ) → shelf_number (shelving d) ≡ 0 ↔ ((g : Opening) × (n : ℕ) × Opened d g n)
unfolding shelving
shown_exactly d = (
  λ h. let w = was_whole (verdict opening d) h in
      let v = (verdict_whole opening d w.0 w.1).0 w.2 in (w.0, w.1, record { limit = v.0; begins = v.1 }),
  λ w. ap shelf_number (opened_shown w.2),
)

-- and no byte after them has a part in the answer: those that follow may be others, more of them or fewer
pub shelf_altered_after : {d : List ℕ} {g : Opening} {n : ℕ} → Opened d g n → (e : List ℕ) → take n d ≡ take n e → shelving d ≡ shelving e
shelf_altered_after {d} {g} {n} o e same =
    let other : Opened e g n = record { limit = o.limit; begins = begins_after o.begins e same } in
    opened_shown o ∙ sym (opened_shown other)

module _ {d : List ℕ} {t : Tables} {r : Result} (p : Promise d t r) where
  -- "For each file that the full reading accepts, .. the shelf answer equals the full one."
  pub read_is_shown : outcome_in r ≡ 0 → shelving d ≡ on_shelf r.answer
  read_is_shown h =
      let w = read_begins (one_of_seven p) h in
      score_shown w.1 ∙ ap (λ (q : Result). on_shelf q.answer) (sym (p.is ∙ fits_read w.1 t w.2))

  -- "given room": a file that the tables have no room for is shown as the score that it has, and as it is read into others with room;
  -- its bars and tracks are the rooms that the refusal names
  pub no_room_is_shown : outcome_in r ≡ 6 → (x : Score) × (n : ℕ) × Beginning d x n × (shelving d ≡ on_shelf (file_answer x n))
  no_room_is_shown h = let w = short_begins (one_of_seven p) h in (w.0, w.1, w.2, score_shown w.2)

  pub no_room_read_is_shown : {u : Tables} {q : Result} → outcome_in r ≡ 6 → Promise d u q → enough r.answer.rooms u ≡ true
      → shelving d ≡ on_shelf q.answer
  no_room_read_is_shown h o e =
      let w = short_begins (one_of_seven p) h in
      let is : r ≡ refused (no_room_answer (needed w.0)) t = p.is ∙ fits_short w.2 t w.3 in
      score_shown w.2 ∙ ap (λ (q : Result). on_shelf q.answer) (sym (o.is ∙ fits_read w.2 _ (rw is at e)))

  pub no_room_names_both : outcome_in r ≡ 6 → ((shelving d).bars ≡ r.answer.rooms.bars) × ((shelving d).tracks ≡ r.answer.rooms.tracks)
  no_room_names_both h =
      let w = short_begins (one_of_seven p) h in
      let is : r ≡ refused (no_room_answer (needed w.0)) t = p.is ∙ fits_short w.2 t w.3 in
      rw is (ap (λ (x : Shelf). x.bars) (score_shown w.2), ap (λ (x : Shelf). x.tracks) (score_shown w.2))

  -- where the shelf is refused, so is the reading, alike and into any tables
  pub refused_alike : (shelf_number (shelving d) ≡ 0 → ⊥) → r ≡ refused (refusal (shelving d).outcome) t
  refused_alike h = p.is ∙ reading_refused d t h
