-- Each operation on the words of a table shows the operation on its entries. One that stores only by what it loads
-- at the same word does so whatever room the table has; one that tells something of the entries needs room for them.
use Rattle.std.specs.Prelude.{None, Option, Some}
use Prim.Native.Nat.{ℕ, zero, suc, ◌+◌, ◌*◌, ◌%◌, ◌≤◌, ◌<◌}
use mathlib.Core.Path.{◌≡◌, refl, ap, sym, ◌∙◌}
use mathlib.Core.Bool.{true, false}
use mathlib.Core.List.{List, [], ◌∷◌}
use native.Mathlib.Omega.{arith}
use native.Mathlib.Nat.{mod-eq_of_lt, add-zero, add_assoc}
use borrow.Author.Tests.{ne_eqb}
use lib.Dec.{eqb}
use lib.ListN.{length, get_or, set}
use lib.Seq.{sets, slice}
use Rattle.format.specs.declared.Range.{Range}
use Rattle.format.specs.Text.{TextRead, pick, text_in}
use Rattle.tables.specs.Table.{change}
use Rattle.tables.proofs.Laws.{over_turn}
use Rattle.model.specs.declared.Bar.{Bar}
use Rattle.model.specs.declared.Member.{Member}
use Rattle.model.specs.declared.Row.{Row}
use Rattle.model.specs.declared.Span.{Span}
use Rattle.model.specs.declared.TabPosition.{TabPosition}
use Rattle.model.specs.declared.Technique.TheVariants.{PullOff}
use Rattle.model.proofs.Fits.{KeyFits, TempoFits}
use Rattle.model.proofs.KindLaws.{ending_place_back, key_back, tempo_back}
use Rattle.model.specs.Kinds.{ending_place_word, ending_place_of, tempo_word, tempo_of, technique_word, flag_word, string_word}
use Rattle.entries.specs.Changed.{with_place, with_tempo, with_technique, with_ottava_end, with_tie_start}
use Rattle.entries.proofs.Changed.{technique_set, ottava_end_set, tie_start_set}
use Rattle.entries.proofs.Fits.{RangeFits}
use Rattle.entries.proofs.Laws.{row_length}
use Rattle.entries.specs.Words.{bar_words, bar_stride, place_at, tempo_at, row_words, row_stride, technique_at, ottava_end_at, member_words, member_stride, tie_start_at, text_words, text_stride}
use Rattle.score.specs.declared.Part.{Part}
use Rattle.score.specs.declared.Voice.{Voice}
use Rattle.score.specs.Bars.{followed, no_bar}
use Rattle.score.specs.Page.{Kind, bars, rows, members, texts, parts, Entry, TextIs}
use Rattle.score.specs.Score.{lists, first_tempo, same_place, answers, no_member, start_first, no_words, no_part, voice_of, with_voice, with_running}
use Rattle.words.specs.Words.{stride, words_of, words, go_on_words, key_words, first_word, tempo_words, answers_word, start_words, part_stride, running_place, voice_place, board_words, voice_words}
use Rattle.refine.proofs.All.{All, all_get}
use Rattle.refine.proofs.Runs.{shows_word, shows_run, shows_turn}
use Rattle.refine.proofs.Parts.{PartFits, VoiceFits, voice_of_fits, voice_length}
use Rattle.refine.proofs.PartWords.{board_back, voice_back, board_loads, voice_loads, board_word, running_word, voice_word, running_set, voice_set}
use Rattle.refine.proofs.Shown.{shown, Sized, AllSized, all_sized, length_of_lem, pick_shows}

-- ---- entry i of a table of any kind, d for none

module _ (k : Kind) (t : List ℕ) (es : List (Entry k)) (f : AllSized k es) (i : ℕ) (d : Entry k) where
  abbrev e : Entry k
  e = get_or es i d

  abbrev l : List ℕ
  l = shown k t es

  module _ (h : i < length es) where
    word_shows : (j : ℕ) → length es * stride k ≤ length t → j < stride k
        → get_or l (i * stride k + j) 0 ≡ get_or (words_of k e) j 0
    word_shows = shows_word (words_of k) (stride k) (Sized k) (length_of_lem k) t es (all_sized k es f) i d h

    first_shows : length es * stride k ≤ length t → 0 < stride k → get_or l (i * stride k) 0 ≡ get_or (words_of k e) 0 0
    first_shows r p = rw add-zero at (word_shows 0 r p)

    run_shows : (g : Entry k → Entry k) (j : ℕ) (u : List ℕ) → j + length u ≤ stride k
        → sets (words_of k e) j u ≡ words_of k (g e) → sets l (i * stride k + j) u ≡ shown k t (change g es i)
    run_shows = shows_run (words_of k) (stride k) (Sized k) (length_of_lem k) t es (all_sized k es f) i d h

    turn_shows : (g : Entry k → Entry k) (j : ℕ) (v : ℕ → ℕ) → j < stride k
        → set (words_of k e) j (v (get_or (words_of k e) j 0)) ≡ words_of k (g e)
        → set l (i * stride k + j) (v (get_or l (i * stride k + j) 0)) ≡ shown k t (change g es i)
    turn_shows = shows_turn (words_of k) (stride k) (Sized k) (length_of_lem k) t es (all_sized k es f) i d h

-- ---- bars

abbrev place_after : ℕ → ℕ
place_after w = ending_place_word (followed (ending_place_of w))

place_turned : (b : Bar)
    → set (bar_words b) place_at (place_after (get_or (bar_words b) place_at 0)) ≡ bar_words (with_place (followed b.place) b)
unfolding bar_words
place_turned b = rw (ending_place_back b.place)

first_word_lem : (old new : Option ℕ) → TempoFits old
    → first_word (tempo_word old) (tempo_word new) ≡ tempo_word (first_tempo old new)
first_word_lem None new f = refl
first_word_lem (Some n) new f = rw (ne_eqb n 0 (omega arith))

tempo_turned : (x : Option ℕ) (b : Bar) → TempoFits b.tempo
    → set (bar_words b) tempo_at (first_word (get_or (bar_words b) tempo_at 0) (tempo_word x))
    ≡ bar_words (with_tempo (first_tempo b.tempo x) b)
unfolding bar_words
tempo_turned x b f = rw (first_word_lem b.tempo x f)

module _ (s t : List ℕ) (i : ℕ) (bs : List Bar) (h : i < length bs) where
  abbrev bar : Bar
  bar = get_or bs i no_bar

  pub go_on_shows : (words s).go_on i (shown bars t bs) ≡ shown bars t (lists.go_on i bs)
  unfolding go_on_words
  go_on_shows =
      turn_shows bars t bs tt i no_bar h (λ b. with_place (followed b.place) b) place_at place_after (omega arith)
      (place_turned bar)

  pub tempo_shows : (x : Option ℕ) → TempoFits (get_or bs i no_bar).tempo
      → (words s).tempo_at i x (shown bars t bs) ≡ shown bars t (lists.tempo_at i x bs)
  unfolding tempo_words
  tempo_shows x f =
      turn_shows bars t bs tt i no_bar h (λ b. with_tempo (first_tempo b.tempo x) b) tempo_at
      (λ w. first_word w (tempo_word x)) (omega arith) (tempo_turned x bar f)

  pub key_shows : length bs * bar_stride ≤ length t → KeyFits (get_or bs i no_bar).key
      → (words s).key_at i (shown bars t bs) ≡ lists.key_at i bs
  unfolding key_words bar_words
  key_shows r f =
      let word = word_shows bars t bs tt i no_bar h in
      rw (word 2 r (omega arith), word 3 r (omega arith)) (key_back bar.key f)

  pub tempo_loads : length bs * bar_stride ≤ length t → TempoFits (get_or bs i no_bar).tempo
      → tempo_of (get_or (shown bars t bs) (i * bar_stride + tempo_at) 0) ≡ (get_or bs i no_bar).tempo
  unfolding bar_words
  tempo_loads r f = rw (word_shows bars t bs tt i no_bar h tempo_at r (omega arith)) (tempo_back bar.tempo f)

-- ---- rows

module _ (s t : List ℕ) (i : ℕ) (rs : List Row) (h : i < length rs) where
  pub pull_off_shows : (words s).pull_off i (shown rows t rs) ≡ shown rows t (lists.pull_off i rs)
  pull_off_shows =
      over_turn row_words row_stride row_length (with_technique PullOff) technique_at technique_at
      (λ a b. technique_word PullOff) (omega arith) (omega arith) (technique_set PullOff) t rs i h

  pub carry_on_shows : (words s).carry_on i (shown rows t rs) ≡ shown rows t (lists.carry_on i rs)
  carry_on_shows =
      over_turn row_words row_stride row_length (with_ottava_end false) ottava_end_at ottava_end_at
      (λ a b. flag_word false) (omega arith) (omega arith) (ottava_end_set false) t rs i h

-- ---- members

-- string 0 would be off tablature
abbrev pub OnString : Option TabPosition → Type 0
OnString None = Unit {0}
OnString (Some at) = 0 < at.string

same_place_lem : (p q : Option TabPosition) (x y : ℕ) → OnString p
    → pick (eqb (string_word p) 0) (eqb x y) (eqb (string_word p) (string_word q)) ≡ same_place p q (eqb x y)
same_place_lem None None x y f = refl
same_place_lem None (Some q) x y f = refl
same_place_lem (Some p) None x y f = rw (ne_eqb p.string 0 (omega arith))
same_place_lem (Some p) (Some q) x y f = rw (ne_eqb p.string 0 (omega arith))

module _ (t : List ℕ) (tied : Member) (f : OnString tied.position) (ms : List Member) where
  abbrev m : ℕ → Member
  m i = get_or ms i no_member

  abbrev word : ℕ → ℕ
  word j = get_or (shown members t ms) j 0

  module _ (r : length ms * member_stride ≤ length t) where
    answers_shows : (i : ℕ) → i < length ms
        → answers_word tied (word (i * member_stride)) (word (i * member_stride + 2)) ≡ answers tied (m i)
    unfolding member_words
    answers_shows i h =
        rw (first_shows members t ms tt i no_member h r (omega arith))
        (rw (word_shows members t ms tt i no_member h 2 r (omega arith))
        (same_place_lem tied.position (m i).position tied.key (m i).key f))

    start_first_shows : (i count : ℕ) → i + count ≤ length ms
        → start_words i count tied (shown members t ms) ≡ shown members t (start_first i count tied ms)
    start_first_shows i zero h = refl
    start_first_shows i (suc n) h =
        rw (answers_shows i (omega arith))
        (pick_shows (shown members t) (answers tied (m i))
        (change (with_tie_start true) ms i) (start_first (i + 1) n tied ms)
        (run_shows members t ms tt i no_member (omega arith) (with_tie_start true) tie_start_at (flag_word true ∷ [])
        (omega arith) (tie_start_set true (m i)))
        (start_first_shows (i + 1) n (omega arith)))

pub start_tie_shows : (s t : List ℕ) (span : Span) (tied : Member) (ms : List Member) → OnString tied.position
    → length ms * member_stride ≤ length t → span.first + span.count ≤ length ms
    → (words s).start_tie span tied (shown members t ms) ≡ shown members t (lists.start_tie span tied ms)
start_tie_shows s t span tied ms f r h = start_first_shows t tied f ms r span.first span.count h

-- ---- texts

-- a text whose bytes are those of the file at its range
pub record TextHeld (s : List ℕ) (u : TextIs) : Type 0 where
  pub is : u.text ≡ text_in s u.text.range
  pub range : RangeFits u.text.range

held_bytes : (s : List ℕ) (u : TextIs) → TextHeld s u → let r : Range = u.text.range in
    slice (r.start % 4294967296) (r.end % 4294967296) s ≡ u.text.bytes
held_bytes s u f =
    rw (mod-eq_of_lt f.range.start, mod-eq_of_lt f.range.end) (sym (ap (λ (x : TextRead). x.bytes) f.is))

module _ (s t : List ℕ) (x : TextIs) (ts : List TextIs) (f : All (TextHeld s) ts) where
  pub entered_shows : (n : ℕ) → n ≤ length ts → length ts * text_stride ≤ length t
      → (words s).entered n x (shown texts t ts) ≡ lists.entered n x ts
  unfolding text_words
  entered_shows zero h r = refl
  entered_shows (suc n) h r =
      let l : n < length ts = omega arith in
      let held : TextHeld s (get_or ts n no_words) = all_get (TextHeld s) ts n no_words f l in
      let word = word_shows texts t ts tt n no_words l in
      rw (first_shows texts t ts tt n no_words l r (omega arith))
      (rw (word 1 r (omega arith), word 2 r (omega arith), word 3 r (omega arith))
      (rw (held_bytes s (get_or ts n no_words) held, entered_shows n (omega arith) r)))

-- ---- parts

place_inside : (n k : ℕ) → k ≤ 15 → voice_place n + k ≤ part_stride
place_inside zero k h = omega arith
place_inside (suc n) k h = omega arith

module _ (s t : List ℕ) (ps : List Part) (f : All PartFits ps) (i : ℕ) (h : i < length ps) where
  abbrev part : Part
  part = get_or ps i no_part

  part_fits : PartFits part
  part_fits = all_get PartFits ps i no_part f h

  pub put_voice_shows : (n : ℕ) (v : Voice) → VoiceFits v
      → (words s).put_voice i n v (shown parts t ps) ≡ shown parts t (lists.put_voice i n v ps)
  put_voice_shows n v q =
      let m : length (voice_words v) ≡ 15 = voice_length v q in
      run_shows parts t ps f i no_part h (with_voice n v) (voice_place n) (voice_words v)
      (place_inside n (length (voice_words v)) (omega arith)) (voice_set part part_fits n v q)

  pub put_running_shows : (n : ℕ)
      → (words s).put_running i n (shown parts t ps) ≡ shown parts t (lists.put_running i n ps)
  put_running_shows n =
      run_shows parts t ps f i no_part h (with_running n) running_place (n ∷ []) (omega arith)
      (running_set part part_fits n)

  module _ (r : length ps * part_stride ≤ length t) where
    part_word : (k : ℕ) → k < part_stride
        → get_or (shown parts t ps) (i * part_stride + k) 0 ≡ get_or (words_of parts part) k 0
    part_word k l = word_shows parts t ps f i no_part h k r l

    pub board_shows : (words s).board_at i (shown parts t ps) ≡ lists.board_at i ps
    board_shows =
        board_loads (shown parts t ps) (board_words part.board) (i * part_stride)
        (λ k l. part_word k (omega arith) ∙ board_word part part_fits k l)
        ∙ board_back part.board part_fits.board

    pub voice_shows : (n : ℕ) → (words s).voice_at i n (shown parts t ps) ≡ lists.voice_at i n ps
    voice_shows n =
        voice_loads (shown parts t ps) (voice_words (voice_of n part)) (i * part_stride + voice_place n)
        (λ k l. rw add_assoc (part_word (voice_place n + k) (omega (arith, place_inside n (suc k) l))
        ∙ voice_word part part_fits n k l))
        ∙ voice_back (voice_of n part) (voice_of_fits n part part_fits)

    pub running_shows : (words s).running_at i (shown parts t ps) ≡ lists.running_at i ps
    running_shows =
        rw (part_word running_place (omega arith), running_word part part_fits, mod-eq_of_lt part_fits.running)
