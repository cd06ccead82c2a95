-- What a voice remembers of a string is the fret last read on it.
use Rattle.std.specs.Prelude.{Option, Some}
use Prim.Native.Nat.{ℕ, zero, suc, ◌+◌, ◌≤◌, ◌<◌}
use native.Mathlib.Omega.{arith}
use mathlib.Core.Path.{◌≡◌, refl, ap, ◌∙◌}
use mathlib.Core.Bool.{Bool, true, false}
use mathlib.Core.List.{List, [], ◌∷◌}
use borrow.Author.Tests.{ltb-true, ltb-false}
use lib.Dec.{ltb}
use lib.ListN.{length, get_or, set, length-set}
use lib.Seq.{get_or-set_same, get_or-set_other, ext_get_or}
use Rattle.format.specs.Text.{pick}
use Rattle.beat.specs.Beat.{BeatIs}
use Rattle.score.specs.declared.Fretboard.{Fretboard}
use Rattle.score.specs.Sounding.{Memory, nothing, sounds, sounding_at, sounding_from, sounding, remember}
use Rattle.told.specs.Told.{BeatTold, Event, plays}
use Rattle.refine.proofs.Heard.{length-remember}
use Rattle.refine.proofs.Shown.{pick_both}
use Rattle.teacher.specs.Teacher.{of_voice, last_read}

-- ---- the seven strings of a voice, each with the fret last read on it
module _ (strings track voice : ℕ) (es : List Event) where
  abbrev pub read_on : ℕ → Option ℕ
  read_on i = last_read strings track voice i es

  abbrev pub read_from : ℕ → ℕ → Memory
  read_from zero i = []
  read_from (suc k) i = read_on i ∷ read_from k (i + 1)

  abbrev pub all_read : Memory
  all_read = read_from 7 0

  from_at : (k i j : ℕ) → j < k → get_or (read_from k i) j nothing ≡ read_on (i + j)
  from_at zero i j h = absurd (omega arith)
  from_at (suc k) i zero h = ap read_on (omega arith)
  from_at (suc k) i (suc j) h = from_at k (i + 1) j (omega arith) ∙ ap read_on (omega arith)

  pub all_read_at : (i : ℕ) → i < 7 → get_or all_read i nothing ≡ read_on i
  all_read_at i h = from_at 7 0 i h ∙ ap read_on (omega arith)

-- ---- a beat changes what is remembered of the strings that sound in it, and of no other
module _ (board : Fretboard) (memory : Memory) (b : BeatIs) where
  abbrev heard_at : ℕ → Option ℕ
  heard_at i = Some (sounding_at memory b i).fret

  stays : (k i j : ℕ) (m : Memory) → j < i
      → get_or (remember m (sounding_from k i board memory b)) j nothing ≡ get_or m j nothing
  stays zero i j m h = refl
  stays (suc k) i j m h =
      pick_both (λ xs. get_or (remember m xs) j nothing ≡ get_or m j nothing) (sounds board b i)
      (sounding_at memory b i ∷ sounding_from k (i + 1) board memory b) (sounding_from k (i + 1) board memory b)
      (stays k (i + 1) j (set m i (heard_at i)) (omega arith)
      ∙ get_or-set_other m i j (heard_at i) nothing (λ e. omega arith))
      (stays k (i + 1) j m (omega arith))

  hears : (k i j : ℕ) (m : Memory) → i ≤ j → j < i + k → j < length m
      → get_or (remember m (sounding_from k i board memory b)) j nothing
      ≡ pick (sounds board b j) (heard_at j) (get_or m j nothing)
  hears zero i j m h l n = absurd (omega arith)
  hears (suc k) i j m h l n = go (ltb i j) refl (sounds board b i) refl (λ m o. hears k (i + 1) j m o (omega arith))
    where
      go : (s : Bool) → ltb i j ≡ s → (t : Bool) → sounds board b i ≡ t
          → ((m : Memory) → i + 1 ≤ j → j < length m
          → get_or (remember m (sounding_from k (i + 1) board memory b)) j nothing
          ≡ pick (sounds board b j) (heard_at j) (get_or m j nothing))
          → get_or (remember m (pick t (sounding_at memory b i ∷ sounding_from k (i + 1) board memory b)
          (sounding_from k (i + 1) board memory b))) j nothing
          ≡ pick (sounds board b j) (heard_at j) (get_or m j nothing)
      go false e true f rest =
          let same : j ≡ i = omega (arith, ltb-false i j e) in
          let inside : i < length m = omega arith in
          rw (same, f)
          (stays k (i + 1) i (set m i (heard_at i)) (omega arith) ∙ get_or-set_same m i (heard_at i) nothing inside)
      go false e false f rest =
          let same : j ≡ i = omega (arith, ltb-false i j e) in
          rw (same, f) (stays k (i + 1) i m (omega arith))
      go true e true f rest =
          let past : i < j = ltb-true i j e in
          let inside : j < length (set m i (heard_at i)) = omega (arith, length-set m i (heard_at i)) in
          rest (set m i (heard_at i)) (omega arith) inside
          ∙ rw (get_or-set_other m i j (heard_at i) nothing (λ q. omega arith))
      go true e false f rest =
          let past : i < j = ltb-true i j e in
          rest m (omega arith) n

  remembers : length memory ≡ 7 → (i : ℕ) → i < 7
      → get_or (remember memory (sounding board memory b)) i nothing
      ≡ pick (sounds board b i) (heard_at i) (get_or memory i nothing)
  unfolding sounding
  remembers seven i h = hears 7 0 i memory (omega arith) (omega arith) (omega arith)

abbrev remembered : Option ℕ → Option ℕ
remembered f = f

choice : (t : Bool) (new old : Option ℕ) → pick t (remembered new) (remembered old) ≡ remembered (pick t new old)
choice true new old = refl
choice false new old = refl

-- ---- so each voice remembers the frets last read, before a beat and after it
module _ (board : Fretboard) (track voice : ℕ) (es : List Event) (b : BeatTold) where
  abbrev before : Memory
  before = all_read board.strings.count track voice es

  abbrev after : Memory
  after = all_read board.strings.count track voice (plays b ∷ es)

  pub other_voice : of_voice track voice b ≡ false → after ≡ before
  other_voice e = rw e

  string_read : of_voice track voice b ≡ true → (i : ℕ) → i < 7
      → pick (sounds board b.beat i) (heard_at board before b.beat i) (get_or before i nothing) ≡ get_or after i nothing
  string_read e i h =
      rw (
        all_read_at board.strings.count track voice es i h,
        all_read_at board.strings.count track voice (plays b ∷ es) i h,
        e,
      )
      (choice (sounds board b.beat i) _ _)

  pub own_voice : of_voice track voice b ≡ true → remember before (sounding board before b.beat) ≡ after
  own_voice e =
      let many : length (remember before (sounding board before b.beat)) ≡ 7 =
      length-remember before (sounding board before b.beat) in
      ext_get_or nothing (remember before (sounding board before b.beat)) after many
      (λ i h. remembers board before b.beat refl i (omega (arith, many)) ∙ string_read e i (omega (arith, many)))
