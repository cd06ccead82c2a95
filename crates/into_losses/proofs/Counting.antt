-- The losses of the song and of a beat, one after another.
use Rattle.std.specs.Prelude.{None, Option, Some}
use Prim.Native.Nat.{ℕ, zero, suc, ◌+◌, ◌%◌, ◌≤◌, ◌<◌}
use mathlib.Core.Path.{◌≡◌, refl, sym, ◌∙◌}
use mathlib.Core.Bool.{Bool, true, false, not, ◌||◌, true≢false}
use mathlib.Core.List.{List, [], ◌∷◌, ◌++◌, map, append-nil}
use native.Mathlib.Omega.{arith}
use native.Mathlib.Nat.{zero-add}
use native.Mathlib.Numerals.{add-one}
use borrow.Author.Tests.{ne_eqb}
use lib.Dec.{eqb, ltb}
use lib.ListN.{length, get_or, set, drop, drop_of_length-le}
use lib.Seq.{drop-cons, set-get_or}
use Rattle.format.specs.Text.{pick}
use Rattle.format.specs.Prog.{has}
use Rattle.model.specs.declared.Loss.{Loss}
use Rattle.model.specs.declared.Loss.TheVariants as L
use Rattle.model.specs.Answers.{loss_number}
use Rattle.note.specs.Marks.{no_marks}
use Rattle.note.specs.Note.{NoteIs, read_of, no_note}
use Rattle.note.specs.Notes.{string_bit}
use Rattle.note.specs.Words.{start, note_in, read_in, hands_in, fingered_in, WithoutEffects, string_note, notes_in, over_from, over_strings}
use Rattle.note.proofs.Strings.{low_bits}
use Rattle.beat.specs.Beat.{BeatIs}
use Rattle.score.specs.Members.{Keyed, Graced, graced_after, graces}
use Rattle.score.specs.Bars.{one_if, unsupported}
use Rattle.score.specs.Losses.{report_if, reported, note_losses, notes_losses, reading_losses, built_losses, member_losses, grace_losses, is_rest, building_losses}
use Rattle.score.specs.Page.{report, beat_losses}
use Rattle.draft.specs.Chord.{string_of, keyed_in, chord_in}
use Rattle.words.specs.Words.{word_plus, words}
use Rattle.words.specs.Reports.{reports}
use Rattle.words.proofs.Reports.{reports_in, reports_none, reports_append}
use Rattle.into_losses.specs.Notes.{Lossless}
use Rattle.into_losses.specs.Graces.{on_beat}
use Rattle.note.specs.declared.marks.Grace.{Grace}

pub numbered : (l : Loss) → loss_number l < 17
numbered L.DrumKit = omega arith
numbered L.HarmonicType = omega arith
numbered L.LetRingWithPalmMute = omega arith
numbered L.OnBeatGrace = omega arith
numbered L.RepeatCount = omega arith
numbered L.TripletFeel = omega arith
numbered L.UnsupportedChordDiagram = omega arith
numbered L.UnsupportedDirection = omega arith
numbered L.UnsupportedFingering = omega arith
numbered L.UnsupportedMixChange = omega arith
numbered L.UnsupportedRasgueado = omega arith
numbered L.UnsupportedRightHandFingering = omega arith
numbered L.UnsupportedSlideType = omega arith
numbered L.UnsupportedTapping = omega arith
numbered L.UnsupportedVolumeSwell = omega arith
numbered L.UnsupportedWah = omega arith
numbered L.UnsupportedWhammy = omega arith

-- one report or none, stored in both cases
pub reported_if : (lost : Bool) (l : Loss) (counts : List ℕ) →
    set counts (loss_number l) (pick lost (word_plus (get_or counts (loss_number l) 0) 1) (get_or counts (loss_number l) 0))
    ≡ reports (report_if lost l) counts
unfolding reports
reported_if true l counts = refl
reported_if false l counts = set-get_or counts (loss_number l) 0

-- a number of reports is one and the others
pub sign_next : (lost : Bool) (n : ℕ) (l : Loss) → reported (one_if lost + n) l ≡ report_if lost l ++ reported n l
sign_next true n l = let e : 1 + n ≡ suc n = omega arith in rw e
sign_next false n l = rw zero-add

-- signs with a number each
abbrev pub Numbered : List ℕ → Type 0
Numbered [] = Unit {0}
Numbered (n ∷ ns) = (n < 19) × Numbered ns

module _ (signs : List ℕ) (i : ℕ) (inside : i < length signs) where
  pub number_small : Numbered (drop i signs) → get_or signs i 0 < 19
  number_small h = (rw (drop-cons signs i 0 inside) at h).0

  pub numbers_left : Numbered (drop i signs) → Numbered (drop (i + 1) signs)
  numbers_left h = rw (add-one i) (rw (drop-cons signs i 0 inside) at h).1

  pub signs_next : (numbers counts : List ℕ) (l : Loss) → reports (reported (unsupported numbers (drop i signs)) l) counts
      ≡ reports (reported (unsupported numbers (drop (i + 1) signs)) l) (reports (report_if (ltb 0 (get_or numbers (get_or signs i 0) 0)) l) counts)
  signs_next numbers counts l = rw (drop-cons signs i 0 inside, add-one i, sign_next, reports_append)

pub signs_end : (signs : List ℕ) (i : ℕ) (numbers counts : List ℕ) (l : Loss) → length signs ≤ i
    → reports (reported (unsupported numbers (drop i signs)) l) counts ≡ counts
signs_end signs i numbers counts l past = rw (drop_of_length-le signs {i = i} past) (reports_none counts)

-- ---- a note with neither effects nor fingers

pub no_losses_lem : {v : ℕ} {w : List ℕ} (i : ℕ) (a b : Bool) → (a ≡ false → WithoutEffects v w i) → b ≡ fingered_in w i
    → not (a || b) ≡ true → Lossless (read_in v w i)
unfolding read_of hands_in fingered_in no_marks
no_losses_lem i true b without fingers e = absurd (true≢false (sym e))
no_losses_lem i false true without fingers e = absurd (true≢false (sym e))
no_losses_lem i false false without fingers e =
    let marks = (without refl).marks in
    record { reading = rw (← fingers, marks); building = rw (← fingers, marks) }

-- ---- the notes of a beat, string by string

abbrev pub one_note : (v : ℕ) → (w : List ℕ) → ℕ → List ℕ → List ℕ
one_note v w i counts = reports (note_losses (read_in v w i)) counts

module _ (s : List ℕ) (v strings : ℕ) (w : List ℕ) where
  -- n notes, from string k on
  abbrev pub notes_from : (n k : ℕ) → List NoteIs
  notes_from zero k = []
  notes_from (suc n) k = string_note s v strings w k ∷ notes_from n (k + 1)

  one : (read : Bool) (i : ℕ) (counts : List ℕ)
      → pick read (one_note v w i counts) counts
      ≡ reports (pick read (note_losses (pick read (note_in s v w (start i)) no_note).read) []) counts
  one true i counts = refl
  one false i counts = sym (reports_none counts)

  from_string : (n k : ℕ) (counts : List ℕ) → k + n ≤ 7 → strings < 256
      → over_from n k (strings % 128) (one_note v w) counts ≡ reports (notes_losses strings k (notes_from n k)) counts
  unfolding over_from string_note
  from_string zero k counts l h = sym (reports_none counts)
  from_string (suc n) k counts l h =
      rw (low_bits strings h k (omega arith), one (has strings (string_bit k)) k counts, reports_append)
      (from_string n (k + 1) _ (omega arith) h)

  pub strings_losses : (counts : List ℕ) → strings < 256
      → over_strings (strings % 128) (one_note v w) counts ≡ reports (notes_losses strings 0 (notes_in s v strings w)) counts
  unfolding over_strings notes_in
  strings_losses counts h = from_string 7 0 counts (omega arith) h

-- ---- the notes of a chord, from one on

grace_next : (g : Option Grace) (x : Keyed) (gs : List Graced)
    → grace_losses (graced_after g x gs) ≡ report_if (on_beat g) L.OnBeatGrace ++ grace_losses gs
grace_next None x gs = refl
grace_next (Some g) x gs = refl

module _ (s : List ℕ) (v : ℕ) (w chord counts : List ℕ) (i : ℕ) (h : i < length chord) where
  pub members_next : reports (member_losses (chord_in s v w (drop i chord))) counts
      ≡ reports (member_losses (chord_in s v w (drop (i + 1) chord)))
      (reports (built_losses (read_in v w (string_of (get_or chord i 0)))) counts)
  unfolding chord_in
  members_next =
      rw (drop-cons chord i 0 h, add-one i)
      (reports_append (built_losses (read_in v w (string_of (get_or chord i 0)))) _ counts)

  pub graces_next : reports (grace_losses (graces (chord_in s v w (drop i chord)))) counts
      ≡ reports (grace_losses (graces (chord_in s v w (drop (i + 1) chord))))
      (reports (report_if (on_beat (read_in v w (string_of (get_or chord i 0))).effects.grace) L.OnBeatGrace) counts)
  unfolding chord_in
  graces_next = rw (drop-cons chord i 0 h, add-one i, grace_next, reports_append)

-- after the last note
module _ (s : List ℕ) (v : ℕ) (w chord counts : List ℕ) (i : ℕ) (h : length chord ≤ i) where
  pub members_end : reports (member_losses (chord_in s v w (drop i chord))) counts ≡ counts
  unfolding chord_in
  members_end = rw (drop_of_length-le chord {i = i} h) (reports_none counts)

  pub graces_end : reports (grace_losses (graces (chord_in s v w (drop i chord)))) counts ≡ counts
  unfolding chord_in
  graces_end = rw (drop_of_length-le chord {i = i} h) (reports_none counts)

-- a chord of no notes is a rest
rest : (f : ℕ → Keyed) (l : List ℕ) → is_rest (map f l) ≡ eqb (length l) 0
rest f [] = refl
rest f (x ∷ l) = sym (ne_eqb (suc (length l)) 0 (λ e. omega arith))

pub chord_rest : (s : List ℕ) (v : ℕ) (w chord : List ℕ) → is_rest (chord_in s v w chord) ≡ eqb (length chord) 0
unfolding chord_in
chord_rest s v w chord = rest (keyed_in s v w) chord

-- ---- a beat, kept or not

module _ (s : List ℕ) (b : BeatIs) (xs : List Keyed) (counts : List ℕ) where
  abbrev losses_if : Bool → List Loss
  losses_if kept = reading_losses b ++ pick kept (building_losses b xs) []

  both : (kept : Bool) → kept ≡ true
      → reports (building_losses b xs) (reports (reading_losses b) counts) ≡ report (words s) (losses_if kept) counts
  both kept e =
      rw e (sym (reports_append (reading_losses b) (building_losses b xs) counts) ∙ reports_in s (losses_if true) counts)

  read_only : (kept : Bool) → kept ≡ false → reports (reading_losses b) counts ≡ report (words s) (losses_if kept) counts
  read_only kept e = rw (e, append-nil) (reports_in s (reading_losses b) counts)

  pub kept_losses : b.head.kept ≡ true
      → reports (building_losses b xs) (reports (reading_losses b) counts)
      ≡ report (words s) (beat_losses (words s) b xs) counts
  kept_losses e = both b.head.kept e

  pub unkept_losses : b.head.kept ≡ false
      → reports (reading_losses b) counts ≡ report (words s) (beat_losses (words s) b xs) counts
  unkept_losses e = read_only b.head.kept e
