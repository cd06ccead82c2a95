-- What the theorems rest on: the outcome of a file's fields, and the result that it comes to. Laws only.
use Prim.Native.Nat.{ℕ, ◌≤◌, ◌<◌}
use native.Mathlib.Omega.{arith}
use native.Mathlib.Decide.{dec_le}
use mathlib.Core.Logic.{inl, inr}
use mathlib.Core.Path.{◌≡◌, refl, sym, ap, ◌∙◌}
use mathlib.Core.Bool.{Bool, true, false}
use mathlib.Core.List.{List, ◌++◌}
use lib.ListN.{length, get_or, take, drop, take-append-drop}
use lib.Seq.{take_at}
use lib.IntN.{ℤ}
use Rattle.bin.specs.Signed.{signed}
use Rattle.format.specs.declared.Counted.{Counted}
use Rattle.format.specs.declared.Stop.TheVariants as S
use Rattle.format.specs.Text.{pick}
use Rattle.format.specs.Prog.{Prog, Res, ok, stopped, run}
use Rattle.format.specs.Fits.{Begins}
use Rattle.format.specs.Sign.{not_negative}
use Rattle.format.specs.Alike.{Alike, Kept, Signed}
use Rattle.format.specs.Verdict as Ends
use Rattle.format.specs.Verdict.{LIMIT, Verdict, whole, bad_count, as_verdict, up_to, verdict}
use Rattle.format.proofs.Run.{clash}
use Rattle.format.proofs.Fits.{reads}
use Rattle.format.proofs.Alike.{alike_run, kept_used, signed_used, same_run}
use Rattle.format.proofs.Verdict.{upto_all, verdict_short, verdict_long, verdict_whole, verdict_cut}
use Rattle.score.specs.Score.{scored}
use Rattle.score.specs.Reading.{Tables, Result, Score, song_of, needed, enough, filled, file_answer, refused, result_of}
use Rattle.score.specs.Reading.{reading}
use Rattle.model.specs.declared.Outcome.TheVariants as O
use Rattle.model.specs.Answers.{numbers_of, refusal, no_room_answer}
use Rattle.theorems.proofs.Filled.{Untouched, untouched, filled_past}
use Rattle.theorems.specs.Promise.{outcome_in, used, Beginning, Stops, Seven, read, truncated, version, count, empty}
use Rattle.theorems.specs.Promise.{too_long, no_room}

-- ---- a file and tables get one of the seven outcomes

module _ (d : List ℕ) (t : Tables) (ends : Verdict Score)
    (is : verdict scored d ≡ as_verdict ends (run scored (up_to LIMIT d) 0))
    (cut : Stops d S.Ends → Seven d t (result_of t ends)) where
  of_whole : (x : Score) (n : ℕ) → Beginning d x n → (room : Bool) → enough (needed x) t ≡ room
      → Seven d t
      (pick room (record { answer = file_answer x n; tables = filled t x }) (refused (no_room_answer (needed x)) t))
  of_whole x n b true e = read b e
  of_whole x n b false e = no_room b e

  of_run : (x : Res Score) → run scored (up_to LIMIT d) 0 ≡ x → Seven d t (result_of t (as_verdict ends x))
  of_run (ok x n) e =
      let w = (verdict_whole scored d x n).0 (is ∙ ap (as_verdict ends) e) in
      of_whole x n (record { limit = w.0; begins = w.1 }) (enough (needed x) t) refl
  of_run (stopped S.Ends) e = cut (record { stops = e })
  of_run (stopped S.Text) e = truncated (inr (record { stops = e }))
  of_run (stopped S.Version) e = version (record { stops = e })
  of_run (stopped (S.Count which value offset)) e = count (record { stops = e })
  of_run (stopped S.Empty) e = empty (record { stops = e })

  of_reading : Seven d t (reading d t)
  unfolding reading
  of_reading = rw is (of_run (run scored (up_to LIMIT d) 0) refl)

pub seven_outcomes : (d : List ℕ) (t : Tables) → Seven d t (reading d t)
seven_outcomes d t = elim (dec_le (length d) LIMIT) [
  | yes h ↦
      of_reading d t Ends.truncated (verdict_short scored d h ∙ rw (upto_all LIMIT d h)) (λ s. truncated (inl (h, s)))
  | no h ↦ of_reading d t Ends.too_long (verdict_long scored d (omega arith)) (λ s. too_long (omega arith) s)
]

-- ---- what each of them says, by its number

pub up_to_six : {d : List ℕ} {t : Tables} {r : Result} → Seven d t r → outcome_in r ≤ 6
up_to_six (read b e) = omega arith
up_to_six (truncated s) = omega arith
up_to_six (version s) = omega arith
up_to_six (count s) = omega arith
up_to_six (empty s) = omega arith
up_to_six (too_long l s) = omega arith
up_to_six (no_room b e) = omega arith

pub refusal_keeps : {d : List ℕ} {t : Tables} {r : Result} → Seven d t r → (outcome_in r ≡ 0 → ⊥) → r.tables ≡ t
refusal_keeps (read b e) h = absurd (h refl)
refusal_keeps (truncated s) h = refl
refusal_keeps (version s) h = refl
refusal_keeps (count s) h = refl
refusal_keeps (empty s) h = refl
refusal_keeps (too_long l s) h = refl
refusal_keeps (no_room b e) h = refl

pub read_begins : {d : List ℕ} {t : Tables} {r : Result} → Seven d t r → outcome_in r ≡ 0
    → (x : Score) × Beginning d x (used r) × (enough (needed x) t ≡ true)
unfolding song_of
read_begins (read {x = x} b e) h = (x, b, e)
read_begins (truncated s) h = absurd (omega arith)
read_begins (version s) h = absurd (omega arith)
read_begins (count s) h = absurd (omega arith)
read_begins (empty s) h = absurd (omega arith)
read_begins (too_long l s) h = absurd (omega arith)
read_begins (no_room b e) h = absurd (omega arith)

pub short_begins : {d : List ℕ} {t : Tables} {r : Result} → Seven d t r → outcome_in r ≡ 6
    → (x : Score) × (n : ℕ) × Beginning d x n × (enough (needed x) t ≡ false)
short_begins (read b e) h = absurd (omega arith)
short_begins (truncated s) h = absurd (omega arith)
short_begins (version s) h = absurd (omega arith)
short_begins (count s) h = absurd (omega arith)
short_begins (empty s) h = absurd (omega arith)
short_begins (too_long l s) h = absurd (omega arith)
short_begins (no_room {x = x} {n = n} b e) h = (x, n, b, e)

pub past_counts : {d : List ℕ} {t : Tables} {r : Result} → Seven d t r → Untouched r.answer.counts t r.tables
past_counts {t = t} (read {x = x} b e) = filled_past t x
past_counts {t = t} (truncated s) = untouched _ t
past_counts {t = t} (version s) = untouched _ t
past_counts {t = t} (count s) = untouched _ t
past_counts {t = t} (empty s) = untouched _ t
past_counts {t = t} (too_long l s) = untouched _ t
past_counts {t = t} (no_room b e) = untouched _ t

-- a count that was refused, and its offset, are in outcome 3 alone
pub no_offset : {d : List ℕ} {t : Tables} {r : Result} → Seven d t r → (outcome_in r ≡ 3 → ⊥)
    → (numbers_of r.answer.outcome).offset ≡ 0
no_offset (read b e) h = refl
no_offset (truncated s) h = refl
no_offset (version s) h = refl
no_offset (count s) h = absurd (h refl)
no_offset (empty s) h = refl
no_offset (too_long l s) h = refl
no_offset (no_room b e) h = refl

-- ---- a count that was refused

module _ (t : Tables) {which : Counted} {value : ℤ} {offset : ℕ} where
  was_refused : (v : Verdict Score) → (result_of t v).answer.outcome ≡ O.Count which value offset
      → (word : ℕ) × (value ≡ signed 2147483648 word) × (v ≡ bad_count which word offset)
  was_refused (whole x n) e = go (enough (needed x) t) e
    where
      go : {X : Type 0} (room : Bool)
          → (pick room (record { answer = file_answer x n; tables = filled t x }) (refused (no_room_answer (needed x)) t)).answer.outcome
          ≡ O.Count which value offset → X
      go true h = clash (cc)
      go false h = clash (cc)
  was_refused Ends.truncated e = clash (cc)
  was_refused Ends.too_long e = clash (cc)
  was_refused Ends.bad_version e = clash (cc)
  was_refused (bad_count b word j) e = (word, cc, cc)
  was_refused Ends.empty e = clash (cc)

  -- the verdict says which count it was and where
  pub count_verdict : (d : List ℕ) → (reading d t).answer.outcome ≡ O.Count which value offset
      → (word : ℕ) × (value ≡ signed 2147483648 word) × (verdict scored d ≡ bad_count which word offset)
  unfolding reading
  count_verdict d e = was_refused (verdict scored d) e

pub verdict_reading : (d : List ℕ) (t : Tables) (v : Verdict Score) → verdict scored d ≡ v → reading d t ≡ result_of t v
unfolding reading
verdict_reading d t v e = rw e

-- ---- a beginning that fits

-- what follows it is free, of any program
pub begins_after : {A : Type 0} {p : Prog A} {d : List ℕ} {a : A} {n : ℕ} → Begins p d a n → (e : List ℕ) → take n d ≡ take n e
    → Begins p e a n
begins_after {n = n} f e same =
    let l : take n e ≡ f.0 = sym same ∙ ap (take n) f.2 ∙ take_at f.0 f.1 n f.3 in
    let cut : e ≡ f.0 ++ drop n e = sym (take-append-drop n e) ∙ ap (λ (u : List ℕ). u ++ drop n e) l in
    (f.0, drop n e, cut, f.3, f.4)

module _ {d : List ℕ} {x : Score} {n : ℕ} (b : Beginning d x n) where
  is_whole : verdict scored d ≡ whole x n
  is_whole = (verdict_whole scored d x n).1 (b.limit, b.begins)

  pub fits_read : (t : Tables) → enough (needed x) t ≡ true
      → reading d t ≡ record { answer = file_answer x n; tables = filled t x }
  unfolding reading
  fits_read t e = rw (is_whole, e)

  pub fits_short : (t : Tables) → enough (needed x) t ≡ false → reading d t ≡ refused (no_room_answer (needed x)) t
  unfolding reading
  fits_short t e = rw (is_whole, e)

  pub fits_cut : (m : ℕ) → m < n → (t : Tables) → reading (take m d) t ≡ refused (refusal O.Truncated) t
  unfolding reading
  fits_cut m l t = rw (verdict_cut scored d x n is_whole m l)

  -- another file, of which a beginning fits too and gives the same
  pub same_reading : {e : List ℕ} → Beginning e x n → (t : Tables) → reading d t ≡ reading e t
  unfolding reading
  same_reading c t = rw (is_whole, (verdict_whole scored _ x n).1 (c.limit, c.begins))

  pub alike_begins : (e : List ℕ) → Alike scored d e 0 → Beginning e x n
  alike_begins e a =
      record {
        limit = b.limit;
        begins = (reads scored e x n).0 (sym (alike_run scored d e 0 a) ∙ (reads scored d x n).1 b.begins);
      }

  pub after_begins : (e : List ℕ) → take n d ≡ take n e → Beginning e x n
  after_begins e same = record { limit = b.limit; begins = begins_after b.begins e same }

  pub kept_begins : (e : List ℕ) → n ≤ length e
      → ((i : ℕ) → i < n → Kept scored d 0 i → get_or d i 0 ≡ get_or e i 0)
      → ((i : ℕ) → i < n → Signed scored d 0 i → not_negative (get_or d i 0) ≡ not_negative (get_or e i 0)) → Beginning e x n
  kept_begins e l same signs =
      let w = (reads scored d x n).1 b.begins in
      record {
        limit = b.limit;
        begins =
            (reads scored e x n).0
            (same_run scored d e n x w l (record {
              kept = λ i k. same i (kept_used scored d 0 n i x (omega arith) w k) k;
              signs = λ i k. signs i (signed_used scored d 0 n i x (omega arith) w k) k;
            }));
      }
