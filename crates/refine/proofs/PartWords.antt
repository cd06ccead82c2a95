-- The words of a part that fits them: what is loaded of them, and what a store makes of them.
use Rattle.std.specs.Prelude.{None, Option, Some}
use Prim.Native.Nat.{ℕ, zero, suc, ◌+◌, ◌%◌, ◌<◌}
use mathlib.Core.Path.{◌≡◌, refl, ap, sym, ◌∙◌}
use mathlib.Core.Bool.{Bool}
use mathlib.Core.List.{List, [], ◌∷◌, ◌++◌, append_assoc}
use native.Mathlib.Omega.{arith}
use native.Mathlib.Nat.{mod-eq_of_lt, add-zero}
use lib.ListN.{length, get_or, set, drop, length-append, get_or-append}
use lib.Seq.{sets, drop-cons, drop-length, get_or-append-add, get_or_at, set_at}
use Rattle.model.specs.declared.Span.{Span}
use Rattle.model.proofs.KindLaws.{flag_back}
use Rattle.model.specs.Kinds.{flag_of}
use Rattle.score.specs.declared.Fretboard.{Fretboard}
use Rattle.score.specs.declared.Hammer.{Hammer}
use Rattle.score.specs.declared.OttavaRun.{OttavaRun}
use Rattle.score.specs.declared.Part.{Part}
use Rattle.score.specs.declared.Voice.{Voice}
use Rattle.score.specs.Sounding.{nothing}
use Rattle.score.specs.Score.{voice_of, with_voice, with_running}
use Rattle.words.specs.Words.{running_place, voice_place, fret_word, fret_of, hammer_words, hammer_of, run_words, run_of, voice_words, board_words, part_words, board_from, voice_from}
use Rattle.words.proofs.Back.{fret_back, hammer_back, run_back}
use Rattle.refine.proofs.All.{all_get_d}
use Rattle.refine.proofs.Runs.{sets_after, sets_before, sets_all}
use Rattle.refine.proofs.Parts.{Byte, LastFits, HammerFits, VoiceFits, BoardFits, PartFits, voice_length, board_length}

-- ---- a list by its elements: n of them from i on

abbrev cells : {A : Type 0} → ℕ → ℕ → (ℕ → A) → List A
cells zero i at = []
cells (suc n) i at = at i ∷ cells n (suc i) at

cells_are : {A : Type 0} (l : List A) (d : A) (n i : ℕ) → length l ≡ i + n → drop i l ≡ cells n i (λ j. get_or l j d)
cells_are l d zero i e = let f : length l ≡ i = omega arith in rw (← f) (drop-length l)
cells_are l d (suc n) i e = drop-cons l i d (omega arith) ∙ rw (cells_are l d n (suc i) (omega arith))

seven : {A : Type 0} (l : List A) (d : A) → length l ≡ 7 → l ≡ cells 7 0 (λ j. get_or l j d)
seven l d e = cells_are l d 7 0 e

-- ---- a voice

last_fret_back : (x : Option ℕ) → LastFits x → fret_of (fret_word x) ≡ x
unfolding fret_of
last_fret_back None f = refl
last_fret_back (Some n) f = fret_back n f

-- the words after those of the frets
module _ (x : Span) (r : Option OttavaRun) where
  abbrev later : Option Hammer → ℕ → ℕ
  later h j = get_or (hammer_words h ++ (x.first ∷ x.count ∷ []) ++ run_words r) j 0

  waits_back : (h : Option Hammer) → HammerFits h → hammer_of (later h 0) (later h 1) (later h 2) ≡ h
  unfolding hammer_of flag_of
  waits_back None f = refl
  waits_back (Some w) f = hammer_back w.row w.key f

  last_back : (h : Option Hammer) → ◌≡◌ {A = Span} (record { first = later h 3; count = later h 4 }) x
  last_back None = refl
  last_back (Some w) = refl

  over_back : (h : Option Hammer) → run_of (later h 5) (later h 6) (later h 7) ≡ r
  over_back None = run_back r
  over_back (Some w) = run_back r

abbrev voice : List (Option ℕ) → Option Hammer → Span → Option OttavaRun → Voice
voice f h l r = record { frets = f; hammer = h; last = l; run = r }

same_voice_lem : {f g : List (Option ℕ)} {h i : Option Hammer} {l m : Span} {r q : Option OttavaRun}
    → f ≡ g → h ≡ i → l ≡ m → r ≡ q → voice f h l r ≡ voice g i m q
same_voice_lem a b c d = λ z. voice (a z) (b z) (c z) (d z)

voice_cells : (fret : ℕ → Option ℕ) (h : Option Hammer) (l : Span) (r : Option OttavaRun)
    → ((j : ℕ) → LastFits (fret j)) → HammerFits h
    → voice_from 0 (voice_words (voice (cells 7 0 fret) h l r)) ≡ voice (cells 7 0 fret) h l r
unfolding voice_from voice_words
voice_cells fret h l r f q =
    let back : (j : ℕ) → fret_of (fret_word (fret j)) ≡ (fret j) = λ j. last_fret_back (fret j) (f j) in
    same_voice_lem (rw (back 0, back 1, back 2, back 3, back 4, back 5, back 6))
    (waits_back l r h q) (last_back l r h) (over_back l r h)

pub voice_back : (v : Voice) → VoiceFits v → voice_from 0 (voice_words v) ≡ v
voice_back v f =
    let fret : ℕ → Option ℕ = λ j. get_or v.frets j nothing in
    let e : v.frets ≡ cells 7 0 fret = seven v.frets nothing f.strings in
    let g : v ≡ voice (cells 7 0 fret) v.hammer v.last v.run = same_voice_lem e refl refl refl in
    let each : (j : ℕ) → LastFits (fret j) = λ j. all_get_d LastFits v.frets j nothing f.frets tt in
    ap (λ (x : Voice). voice_from 0 (voice_words x)) g
    ∙ voice_cells fret v.hammer v.last v.run each f.hammer
    ∙ sym g

-- ---- a fretboard

abbrev board : ℕ → List ℕ → ℕ → Bool → Bool → Fretboard
board n ts c p q = record { strings = record { count = n; tunings = ts }; capo = c; percussion = p; tablature = q }

board_cells : (n : ℕ) (tuning : ℕ → ℕ) (c : ℕ) (p q : Bool) → n < 256 → ((j : ℕ) → tuning j < 256) → c < 256
    → board_from 0 (board_words (board n (cells 7 0 tuning) c p q)) ≡ board n (cells 7 0 tuning) c p q
unfolding board_from board_words
board_cells n tuning c p q l f k =
    let byte : (j : ℕ) → tuning j % 256 ≡ tuning j = λ j. mod-eq_of_lt (f j) in
    rw (byte 0, byte 1, byte 2, byte 3, byte 4, byte 5, byte 6)
    (rw (mod-eq_of_lt l, mod-eq_of_lt k, flag_back p, flag_back q))

pub board_back : (b : Fretboard) → BoardFits b → board_from 0 (board_words b) ≡ b
board_back b f =
    let ts : List ℕ = b.strings.tunings in
    let n : ℕ = b.strings.count in
    let tuning : ℕ → ℕ = λ j. get_or ts j 0 in
    let e : ts ≡ cells 7 0 tuning = seven ts 0 f.strings in
    let g : b ≡ board n (cells 7 0 tuning) b.capo b.percussion b.tablature
    = ap (λ (l : List ℕ). board n l b.capo b.percussion b.tablature) e in
    let each : (j : ℕ) → tuning j < 256 = λ j. all_get_d Byte ts j 0 f.tunings (omega arith) in
    ap (λ (x : Fretboard). board_from 0 (board_words x)) g
    ∙ board_cells n tuning b.capo b.percussion b.tablature f.count each f.capo
    ∙ sym g

-- ---- loaded from another list that has the same words

module _ (t w : List ℕ) (at : ℕ) where
  pub voice_loads : ((k : ℕ) → k < 15 → get_or t (at + k) 0 ≡ get_or w k 0) → voice_from at t ≡ voice_from 0 w
  unfolding voice_from
  voice_loads is =
      let start : get_or t at 0 ≡ get_or w 0 0 = rw add-zero at (is 0 (omega arith)) in
      rw (start, is 1 (omega arith), is 2 (omega arith), is 3 (omega arith), is 4 (omega arith))
      (rw (is 5 (omega arith), is 6 (omega arith), is 7 (omega arith), is 8 (omega arith), is 9 (omega arith))
      (rw (is 10 (omega arith), is 11 (omega arith), is 12 (omega arith), is 13 (omega arith), is 14 (omega arith))))

  pub board_loads : ((k : ℕ) → k < 11 → get_or t (at + k) 0 ≡ get_or w k 0) → board_from at t ≡ board_from 0 w
  unfolding board_from
  board_loads is =
      let start : get_or t at 0 ≡ get_or w 0 0 = rw add-zero at (is 0 (omega arith)) in
      rw (start, is 1 (omega arith), is 2 (omega arith), is 3 (omega arith), is 4 (omega arith))
      (rw (is 5 (omega arith), is 6 (omega arith), is 7 (omega arith), is 8 (omega arith), is 9 (omega arith))
      (rw (is 10 (omega arith))))

-- ---- the words of a part

abbrev first : Part → List ℕ
first p = voice_words p.first

abbrev second : Part → List ℕ
second p = voice_words p.second

part_is : (p : Part) → part_words p ≡ board_words p.board ++ p.running ∷ (first p ++ second p)
unfolding part_words
part_is p = simp append_assoc

module _ (p : Part) (f : PartFits p) where
  abbrev b : List ℕ
  b = board_words p.board

  b_length : length b ≡ 11
  b_length = board_length p.board f.board

  first_length : length (first p) ≡ 15
  first_length = voice_length p.first f.first

  pub board_word : (k : ℕ) → k < 11 → get_or (part_words p) k 0 ≡ get_or b k 0
  board_word k h =
      rw (part_is p) (get_or-append b (p.running ∷ (first p ++ second p)) 0 k (omega (arith, b_length)))

  pub running_word : get_or (part_words p) running_place 0 ≡ p.running
  running_word = rw (part_is p) (get_or_at b p.running (first p ++ second p) 0 11 b_length)

  pub voice_word : (n k : ℕ) → k < 15 → get_or (part_words p) (voice_place n + k) 0 ≡ get_or (voice_words (voice_of n p)) k 0
  voice_word zero k h =
      let e : 12 + k ≡ length b + suc k = omega (arith, b_length) in
      rw (part_is p, e, get_or-append-add b (p.running ∷ (first p ++ second p)) (suc k) 0)
      (get_or-append (first p) (second p) 0 k (omega (arith, first_length)))
  voice_word (suc n) k h =
      let e : 27 + k ≡ length b + suc (length (first p) + k) = omega (arith, b_length, first_length) in
      rw (part_is p, e, get_or-append-add b (p.running ∷ (first p ++ second p)) (suc (length (first p) + k)) 0)
      (get_or-append-add (first p) (second p) k 0)

  pub running_set : (n : ℕ) → set (part_words p) running_place n ≡ part_words (with_running n p)
  running_set n =
      rw (part_is p, part_is (with_running n p)) (set_at b p.running (first p ++ second p) n 11 b_length)

  pub voice_set : (n : ℕ) (v : Voice) → VoiceFits v
      → sets (part_words p) (voice_place n) (voice_words v) ≡ part_words (with_voice n v p)
  unfolding part_words
  voice_set zero v q =
      let front : List ℕ = b ++ (p.running ∷ []) in
      let l : length front ≡ 12 = simp length-append (omega (arith, b_length)) in
      let n : length (voice_words v) ≡ 15 = voice_length v q in
      let w : length (front ++ first p) ≡ 27 = length-append front (first p) ∙ rw (l, first_length) in
      rw (sets_before (voice_words v) (front ++ first p) (second p) 12 (omega arith))
      (rw (sets_after (voice_words v) front (first p) 12 0 (omega arith))
      (rw (sets_all (voice_words v) (first p) (n ∙ sym first_length))))
  voice_set (suc n) v q =
      let front : List ℕ = b ++ (p.running ∷ []) ++ first p in
      let l : length front ≡ 27 = simp length-append (omega (arith, b_length, first_length)) in
      let m : length (second p) ≡ 15 = voice_length p.second f.second in
      sets_after (voice_words v) front (second p) 27 0 (omega arith)
      ∙ rw (sets_all (voice_words v) (second p) (voice_length v q ∙ sym m))
