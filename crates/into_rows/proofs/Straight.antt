-- The row of a beat of plain notes: its words, what it does to the rows before it, and its tables.
use Rattle.std.specs.Prelude.{None, Option, Some, ℕ}
use Prim.Native.Nat.{ℕ, ◌+◌, ◌*◌, ◌≤◌, ◌%◌, min}
use native.Mathlib.Omega.{arith}
use native.Mathlib.Nat.{add-zero}
use mathlib.Core.Path.{◌≡◌, refl, sym, ap, ◌∙◌}
use mathlib.Core.List.{List, [], ◌∷◌, map}
use mathlib.Core.Bool.{Bool, not, ◌&&◌}
use borrow.Author.Tests.{ne_eqb, le-leb}
use lib.Dec.{eqb, ltb}
use lib.ListN.{length}
use lib.Seq.{sets}
use Rattle.format.specs.Prog.{has}
use Rattle.format.specs.Text.{pick}
use Rattle.tables.specs.Table.{stores}
use Rattle.tables.proofs.Laws.{sets_append, sets_start}
use Rattle.model.specs.declared.Member.{Member}
use Rattle.model.specs.declared.Ottava.{Ottava}
use Rattle.model.specs.declared.Ottava.TheVariants as O
use Rattle.model.specs.declared.RowPlace.{RowPlace}
use Rattle.model.specs.declared.Span.{Span}
use Rattle.model.specs.Kinds.{duration_word, actual_word, normal_word, dynamic_word, note_head_word, ottava_word, finger_word, flag_word}
use Rattle.entries.specs.Words.{row_stride, front_words, back_words, row_words, member_stride, member_words}
use Rattle.curve.specs.Bend.{curve_height}
use Rattle.beat.specs.Beat.{BeatIs}
use Rattle.score.specs.declared.Fretboard.{Fretboard}
use Rattle.score.specs.declared.KeptCounts.{KeptCounts}
use Rattle.score.specs.declared.OttavaRun.{OttavaRun}
use Rattle.score.specs.declared.Voice.{Voice}
use Rattle.score.specs.Losses.{is_rest}
use Rattle.score.specs.Members.{Keyed, member_of}
use Rattle.score.specs.Page.{span_of, fingered, dynamic_at, row_entry, pulls, run_after, turn_hammer, turn_run, start_ties, keep_row}
use Rattle.score.specs.Rows.{RowIs, row_head}
use Rattle.words.specs.Words.{LARGEST, word_plus, words}
use Rattle.words.specs.Meant.{rowing_of}
use Rattle.words.specs.Voices.{with_hammer, with_last, with_run}
use Rattle.into_rows.specs.declared.members.Company.{Company}
use Rattle.into_rows.specs.Entry.{Sums}
use Rattle.into_rows.specs.Plain.{plain_row, no_marks}
use Rattle.into_rows.proofs.Entering.{hammer_turned}
use Rattle.into_rows.proofs.Rowing.{members_kept}

pub none_more : (a : ℕ) → a ≤ LARGEST → a ≡ word_plus a 0
unfolding word_plus
none_more a h = rw (add-zero a, le-leb a LARGEST h)

-- one of none is under no ottava
no_ottava : (kind : Ottava) → eqb (ottava_word kind) 0 ≡ eqb 0 (ottava_word kind)
no_ottava O.NoOttava = refl
no_ottava O.Va8 = refl
no_ottava O.Vb8 = refl
no_ottava O.Ma15 = refl
no_ottava O.Mb15 = refl

module _ (place : RowPlace) (board : Fretboard) (flat : Bool) (mark : Option ℕ) (b : BeatIs) where
  abbrev members_of : List Keyed → List Member
  members_of xs = map (member_of board flat) xs

  abbrev row : List Keyed → RowIs
  row xs = plain_row place board flat mark b xs

  -- ---- before it
  pub rest_counted : (xs : List Keyed) {company : Company} → Sums (members_of xs) company → eqb company.count 0 ≡ is_rest xs
  rest_counted [] sums = rw (← sums.count)
  rest_counted (x ∷ xs) sums = rw (← sums.count) (ne_eqb (length (members_of (x ∷ xs))) 0 (λ e. omega arith))

  pub pulls_off : (xs : List Keyed) (company : Company) (key : ℕ) → Sums (members_of xs) company
      → not (eqb company.count 0) && ltb company.key key ≡ pulls (row xs) key
  unfolding plain_row
  pulls_off [] company key sums = rw (← sums.count)
  pulls_off (x ∷ xs) company key sums =
      rw (← sums.count, ← sums.key, ne_eqb (length (members_of (x ∷ xs))) 0 (λ e. omega arith))

  pub no_run : (n : ℕ) (xs : List Keyed) → None ≡ run_after n (row xs) None
  unfolding plain_row
  no_run n [] = refl
  no_run n (x ∷ xs) = refl

  pub run_over : (n : ℕ) (xs : List Keyed) {k : ℕ} {kind : Ottava} {run : Option OttavaRun} {rest is : Bool} → run ≡ Some (record { row = k; kind = kind })
      → rest ≡ is_rest xs
      → rest && eqb (ottava_word kind) 0 ≡ is
      → pick is (Some (record { row = k; kind = kind })) None ≡ run_after n (row xs) run
  unfolding plain_row
  run_over n xs {kind = kind} o e t = rw (o, ← t, e, no_ottava kind)

  no_turn : (s : List ℕ) (run : Option OttavaRun) (xs : List Keyed) (t : List ℕ) → t ≡ turn_run (words s) run (row xs) t
  unfolding plain_row
  no_turn s None xs t = refl
  no_turn s (Some o) xs t = refl

  -- ---- its words
  pub plain_stored : (rows : List ℕ) (xs : List Keyed) (kept : KeptCounts) {company : Company} {own : Span}
      {at rest duration dot actual normal dynamic head finger start end : ℕ} {r t : List ℕ}
      → r ≡ sets t (at + 28) (start ∷ end ∷ [])
      → t
      ≡ sets rows at
      (place.bar ∷ place.track ∷ place.voice ∷ 0 ∷ rest ∷ duration ∷ dot ∷ actual ∷ normal ∷ own.first ∷ own.count
      ∷ 0 ∷ 0 ∷ 0 ∷ 0 ∷ 0 ∷ 0 ∷ dynamic ∷ 0 ∷ 0 ∷ 0 ∷ 0 ∷ head ∷ 0 ∷ 0 ∷ 0 ∷ 0 ∷ finger ∷ [])
      → at ≡ min (kept.rows * row_stride) (length rows)
      → Sums (members_of xs) company
      → own ≡ span_of kept.members company.count
      → rest ≡ flag_word (eqb company.count 0)
      → duration ≡ duration_word b.head.duration
      → dot ≡ flag_word (has b.head.flags 0x01)
      → actual ≡ actual_word b.head.tuplet
      → normal ≡ normal_word b.head.tuplet
      → dynamic ≡ dynamic_word (dynamic_at mark)
      → head ≡ note_head_word (row_head xs)
      → finger ≡ finger_word company.finger
      → start ≡ b.range.start % 4294967296
      → end ≡ b.range.end % 4294967296
      → r ≡ sets rows (kept.rows * row_stride) (row_words (row_entry (row xs) no_marks kept))
  unfolding row_words front_words back_words row_entry plain_row curve_height
  plain_stored rows xs kept {at = at} {start = start} {end = end} e e₀ ep sums eo er ed et ea en ey eh ef es el =
      rw (e, e₀, sets_append _ (start ∷ end ∷ []) rows at 28 refl, sets_start _ rows (kept.rows * row_stride) at ep)
      (rw (er, ed, et, ea, en, ey, eh, ef, es, el, eo, ← (rest_counted xs sums), sums.count, sums.finger))

  -- ---- its tables
  module _ (s : List ℕ) (xs : List Keyed) (kept : KeptCounts) (voice : Voice) (rows members points : List ℕ) where
    row_stored : {t r : List ℕ} → t ≡ turn_hammer (words []) voice.hammer (row xs) rows
        → r ≡ sets t (kept.rows * row_stride) (row_words (row_entry (row xs) no_marks kept))
        → r
        ≡ sets (turn_run (words s) voice.run (row xs) (turn_hammer (words s) voice.hammer (row xs) rows)) (kept.rows * row_stride)
        (row_words (row_entry (row xs) no_marks kept))
    row_stored et er =
        er
        ∙ ap (λ (l : List ℕ). sets l (kept.rows * row_stride) (row_words (row_entry (row xs) no_marks kept)))
        (et ∙ sym (hammer_turned s voice.hammer (row xs) rows) ∙ no_turn s voice.run xs _)

    pub plain_kept : {company : Company} {own : Span} {run : Option OttavaRun} {t r n m : List ℕ} {k₁ k₂ k₃ : ℕ} {v₁ v₂ v₃ : Voice}
        → Sums (members_of xs) company
        → t ≡ turn_hammer (words []) voice.hammer (row xs) rows
        → r ≡ sets t (kept.rows * row_stride) (row_words (row_entry (row xs) no_marks kept))
        → n ≡ start_ties (words []) voice.last (members_of xs) members
        → m ≡ stores member_words member_stride n kept.members (fingered (members_of xs))
        → own ≡ span_of kept.members company.count
        → k₁ ≡ word_plus kept.rows 1
        → k₂ ≡ word_plus kept.members company.count
        → k₃ ≡ word_plus kept.points 0
        → run ≡ run_after kept.rows (row xs) voice.run
        → v₁ ≡ with_hammer voice None
        → v₂ ≡ with_last v₁ own
        → v₃ ≡ with_run v₂ run
        → rowing_of r m points (record { rows = k₁; members = k₂; points = k₃ }) v₃
        ≡ keep_row (words s) (row xs) (rowing_of rows members points kept voice)
    unfolding keep_row plain_row
    plain_kept {own = own} {run = run} {m = m} {k₂ = k₂} {v₃ = v₃} sums et er en em eo e₁ e₂ e₃ eu eh el ev =
        let its-row = row_stored et er in
        let its_members : m ≡ (keep_row (words s) (row xs) (rowing_of rows members points kept voice)).members = rw (em, en) (sym (members_kept s kept voice rows members points (row xs))) in
        let span : own ≡ span_of kept.members (length (members_of xs)) = rw sums.count eo in
        let more : k₂ ≡ word_plus kept.members (length (members_of xs)) = rw sums.count e₂ in
        let after : v₃ ≡ record { frets = voice.frets; hammer = None; last = own; run = run } = rw (ev, el, eh) in
        ap (rowing_of _ _ _ _) after
        ∙ (λ i.
        rowing_of (its-row i) (its_members i) points (record { rows = e₁ i; members = more i; points = e₃ i })
        (record { frets = voice.frets; hammer = None; last = span i; run = eu i }))
