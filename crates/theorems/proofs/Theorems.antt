-- What the promise of `read` comes to, demand by demand: the demand's words stand before each theorem. Promise.antt has
-- the words that they use, Laws.antt, Filled.antt and FitFile.antt the longer proofs.
use Prim.Native.Nat.{ℕ, ◌+◌, ◌≤◌, ◌<◌}
use mathlib.Core.Logic.{◌↔◌}
use mathlib.Core.Path.{◌≡◌, refl, sym, ap, ◌∙◌}
use mathlib.Core.Bool.{true, false}
use mathlib.Core.List.{List}
use lib.ListN.{length, get_or, take}
use lib.IntN.{ℤ}
use Rattle.bin.specs.Signed.{signed}
use Rattle.format.specs.declared.Counted.{Counted}
use Rattle.format.specs.Count.{too_many, word_at}
use Rattle.format.specs.Sign.{not_negative}
use Rattle.format.specs.Alike.{Alike, Kept, Signed}
use Rattle.format.specs.Passed.{Skipped}
use Rattle.format.specs.Yields.{Bytes}
use Rattle.format.proofs.Fits.{begins_unique}
use Rattle.format.proofs.Passed.{skipped_not_kept, skipped_not_signed, signed_not_kept}
use Rattle.format.proofs.Count.{CountRefused, count_refused}
use Rattle.model.specs.declared.Outcome.TheVariants as O
use Rattle.model.specs.Answers.{numbers_of, refusal, no_room_answer}
use Rattle.score.specs.Score.{scored}
use Rattle.score.specs.Reading.{Tables, Result, Score, song_of, needed, enough, filled, file_answer, refused}
use Rattle.theorems.proofs.Worked.{Worked, worked}
use Rattle.theorems.specs.Promise.{Promise, outcome_in, used, Beginning, Seven}
use Rattle.theorems.proofs.Filled.{Untouched, HandedOut, handed_out}
use Rattle.theorems.proofs.FitFile.{score_fits}
use Rattle.theorems.proofs.Laws.{seven_outcomes, up_to_six, refusal_keeps, read_begins, short_begins, past_counts}
use Rattle.theorems.proofs.Laws.{fits_read, fits_short, fits_cut, same_reading}
use Rattle.theorems.proofs.Laws.{no_offset, count_verdict, verdict_reading}
use Rattle.theorems.proofs.Laws.{alike_begins, kept_begins, after_begins}

-- ==== document 01, "How much each promise says"

-- "Every public function has one, which leaves a single possible result and content of each table, for refused files as
-- well. That uniqueness is proved."
pub unique : {d : List ℕ} {t : Tables} {r q : Result} → Promise d t r → Promise d t q → r ≡ q
unique p o = p.is ∙ sym o.is

-- "Proved as a single table under a single theorem"
pub worked_examples : Worked
worked_examples = worked

-- ==== demand 1

module _ {d : List ℕ} {t : Tables} {r : Result} (p : Promise d t r) where
  -- "Any file and any lent tables get one of the seven outcomes in document 01. No call may rely on its caller having
  -- checked anything."
  pub one_of_seven : Seven d t r
  one_of_seven = rw p.is (seven_outcomes d t)

  pub numbered_0_to_6 : outcome_in r ≤ 6
  numbered_0_to_6 = up_to_six one_of_seven

  -- "A refusal changes no table."
  pub refusal_changes_no_table : (outcome_in r ≡ 0 → ⊥) → r.tables ≡ t
  refusal_changes_no_table = refusal_keeps one_of_seven

  -- document 01: "On 0, rows past the count are untouched, on a refusal all." So it is in each of the six tables
  pub past_count_untouched : Untouched r.answer.counts t r.tables
  past_count_untouched = past_counts one_of_seven

  -- "'No room' is given only for a file that would otherwise be read": where a beginning fits and a table is short,
  pub no_room_exactly : outcome_in r ≡ 6 ↔ ((x : Score) × (n : ℕ) × Beginning d x n × (enough (needed x) t ≡ false))
  no_room_exactly = (short_begins one_of_seven, λ w. rw (p.is, fits_short w.2 t w.3))

  -- with all six rooms in the answer,
  pub no_room_names_rooms : {x : Score} {n : ℕ} → Beginning d x n → enough (needed x) t ≡ false
      → r ≡ refused (no_room_answer (needed x)) t
  no_room_names_rooms b e = p.is ∙ fits_short b t e

  -- and into tables of these rooms the file is read
  pub no_room_else_read : {u : Tables} {q : Result} → outcome_in r ≡ 6 → Promise d u q
      → enough r.answer.rooms u ≡ true → outcome_in q ≡ 0
  no_room_else_read {u} h o e =
      let w = short_begins one_of_seven h in
      let is : r ≡ refused (no_room_answer (needed w.0)) t = no_room_names_rooms w.2 w.3 in
      rw (o.is, fits_read w.2 u (rw is at e))

-- ==== demand 2

-- "the tables, loss counts and refusals .. are proved equal to document 01's definition": those of a file that is read
-- are its score's; the refusals are in `one_of_seven`
module _ {d : List ℕ} {t : Tables} {r : Result} {x : Score} {n : ℕ} (p : Promise d t r) (b : Beginning d x n)
    (room : enough (needed x) t ≡ true) where
  pub read_is : r ≡ record { answer = file_answer x n; tables = filled t x }
  read_is = p.is ∙ fits_read b t room

  -- and `bar_at`, `track_at`, `row_at`, `member_at`, `point_at` and `text_at` hand out the score's entries as they are
  pub read_is_handed_out : Bytes d → HandedOut x r.tables
  read_is_handed_out bytes = rw read_is (handed_out t x room (score_fits bytes b))

-- ==== demand 3

module _ {d : List ℕ} {t : Tables} {r : Result} (p : Promise d t r) where
  -- "With room enough, a file is read exactly when some beginning of it, of at most 16,777,216 bytes, fits the format."
  pub read_with_room : ((x : Score) (n : ℕ) → Beginning d x n → enough (needed x) t ≡ true)
      → outcome_in r ≡ 0 ↔ ((x : Score) × (n : ℕ) × Beginning d x n)
  read_with_room room = (
    λ h. let w = read_begins (one_of_seven p) h in (w.0, used r, w.1),
    λ w. rw (p.is, fits_read w.2 t (room w.0 w.1 w.2)),
  )

  -- "Say n bytes are used."
  pub read_exactly : (n : ℕ)
      → ((outcome_in r ≡ 0) × (used r ≡ n)) ↔ ((x : Score) × Beginning d x n × (enough (needed x) t ≡ true))
  unfolding song_of
  read_exactly n = (
    λ h. rw h.1 at (read_begins (one_of_seven p) h.0),
    λ w. rw (p.is, fits_read w.1 t w.2) (refl, refl),
  )

-- there is one such beginning, with one score
pub one_beginning : {d : List ℕ} {x y : Score} {n m : ℕ} → Beginning d x n → Beginning d y m → (x ≡ y) × (n ≡ m)
one_beginning {d} {x} {y} {n} {m} b c = begins_unique scored d x y n m b.begins c.begins

-- what a publisher may make of byte i of the file d in the file e: nothing; anything, where the byte is passed over; or another byte
-- of the same sign, where the sign alone counts
pub data Altered (d e : List ℕ) (i : ℕ) : Type 0 where
  unaltered : get_or d i 0 ≡ get_or e i 0 → Altered d e i
  overwritten : Skipped d scored 0 i → Altered d e i
  within_sign : Signed scored d 0 i → not_negative (get_or d i 0) ≡ not_negative (get_or e i 0) → Altered d e i

module _ {d : List ℕ} {x : Score} {n : ℕ} (b : Beginning d x n) where
  -- "Every shorter beginning is refused as truncated."
  pub shorter_is_truncated : {m : ℕ} {t : Tables} {r : Result} → m < n → Promise (take m d) t r
      → r ≡ refused (refusal O.Truncated) t
  shorter_is_truncated {m} {t} l p = p.is ∙ fits_cut b m l t

  module _ {e : List ℕ} {t : Tables} {r q : Result} (p : Promise d t r) (o : Promise e t q) where
    -- "Now alter bytes after n", also more of them or fewer,
    pub altered_after : take n d ≡ take n e → r ≡ q
    altered_after same = p.is ∙ same_reading b (after_begins b e same) t ∙ sym o.is

    -- "or inside the first n only bytes that document 01 names as passed over": none that is kept; and a mix-table value only
    -- within its sign (document 02, n). That none of document 01's list is kept, nor what document 02 adds to it, item by item, is
    -- said in the crate passed (PassedOver.antt)
    pub altered_passed_over : n ≤ length e → ((i : ℕ) → i < n → Kept scored d 0 i → get_or d i 0 ≡ get_or e i 0)
        → ((i : ℕ) → i < n → Signed scored d 0 i → not_negative (get_or d i 0) ≡ not_negative (get_or e i 0)) → r ≡ q
    altered_passed_over l same signs = p.is ∙ same_reading b (kept_begins b e l same signs) t ∙ sym o.is

    -- so each of the first n bytes is the same, or it is one that is passed over, or one whose sign alone counts and is the same
    pub altered_skipped : n ≤ length e → ((i : ℕ) → i < n → Altered d e i) → r ≡ q
    altered_skipped l each = altered_passed_over l
        (λ i h k. elim (each i h) [
          | unaltered same ↦ same
          | overwritten z ↦ absurd (skipped_not_kept z.skips i z.from z.below k)
          | within_sign x same ↦ absurd (signed_not_kept scored d 0 i x k)
        ])
        (λ i h k. elim (each i h) [
          | unaltered same ↦ ap not_negative same
          | overwritten z ↦ absurd (skipped_not_signed z.skips i z.from z.below k)
          | within_sign x same ↦ same
        ])

    -- files that are alike field by field: a text's bytes too may differ where the text that is handed out does not
    pub altered_alike : Alike scored d e 0 → r ≡ q
    altered_alike same = p.is ∙ same_reading b (alike_begins b e same) t ∙ sym o.is

-- "Into tables of the same sizes and contents the altered file gives the same n, rows, ranges and loss counts, and all
-- else in the answer and the tables alike." A row's words have the start and end of its beat among them, so the same rows
-- have the same bytes of the file (document 02, f; what these are: the crate ranges)
pub altered_is_read_alike : {d e : List ℕ} {t : Tables} {r q : Result} → Promise d t r → Promise e t q → outcome_in r ≡ 0
    → used r ≤ length e → ((i : ℕ) → i < used r → Kept scored d 0 i → get_or d i 0 ≡ get_or e i 0)
    → ((i : ℕ) → i < used r → Signed scored d 0 i → not_negative (get_or d i 0) ≡ not_negative (get_or e i 0)) → q ≡ r
altered_is_read_alike p o h l same signs = sym (altered_passed_over (read_begins (one_of_seven p) h).1 p o l same signs)

-- ==== document 02, k

-- "All other returns stay": no other outcome has an offset
pub offset_of_a_count_alone : {d : List ℕ} {t : Tables} {r : Result} → Promise d t r → (outcome_in r ≡ 3 → ⊥)
    → (numbers_of r.answer.outcome).offset ≡ 0
offset_of_a_count_alone p = no_offset (one_of_seven p)

module _ {d : List ℕ} {t : Tables} {r : Result} {which : Counted} {value : ℤ} {offset : ℕ} (p : Promise d t r)
    (told : r.answer.outcome ≡ O.Count which value offset) where
  found : (word : ℕ) × (value ≡ signed 2147483648 word) × CountRefused scored d which word offset
  found = let v = count_verdict t d (rw p.is at told) in (v.0, v.1, count_refused scored d which v.0 offset v.2)

  -- "the offset of the four count bytes": they are in the file, the value is theirs, and it is over the count's limit
  pub count_stands_there : (offset + 4 ≤ length d) × (value ≡ signed 2147483648 (word_at d offset)) × (too_many which (word_at d offset) ≡ true)
  count_stands_there =
      let c = found.2 in
      (c.there, found.1 ∙ ap (signed 2147483648) c.value, rw c.value at c.high)

  -- "The offset depends only on bytes before it": another file, whose bytes before it are the same,
  module _ {e : List ℕ} {u : Tables} {q : Result} (o : Promise e u q) (same : take offset d ≡ take offset e) where
    -- is truncated where it ends within the count,
    pub count_cut_off : length e < offset + 4 → q ≡ refused (refusal O.Truncated) u
    count_cut_off short = o.is ∙ verdict_reading e u _ (found.2.ends e same short)

    module _ (there : offset + 4 ≤ length e) where
      -- is refused for its own four bytes where these are over the limit,
      pub count_judged : too_many which (word_at e offset) ≡ true
          → q ≡ refused (refusal (O.Count which (signed 2147483648 (word_at e offset)) offset)) u
      count_judged high = o.is ∙ verdict_reading e u _ (found.2.refuses e same there high)

      -- so alike where they are the same,
      pub count_refused_alike : word_at d offset ≡ word_at e offset → q ≡ refused (refusal (O.Count which value offset)) u
      count_refused_alike equal =
          count_judged (rw equal at count_stands_there.2)
          ∙ rw (count_stands_there.1, equal)

      -- and else is refused for no count that stands before their end
      pub count_behind : too_many which (word_at e offset) ≡ false → {which' : Counted} {value' : ℤ} {offset' : ℕ}
          → q.answer.outcome ≡ O.Count which' value' offset' → offset + 4 ≤ offset'
      count_behind low {which'} {value'} {offset'} h =
          let v = count_verdict u e (rw o.is at h) in
          found.2.behind e same there low which' v.0 offset' v.2
