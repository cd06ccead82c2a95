-- Walks over a chord: with what came before, the notes that are left give what all of them give.
use Rattle.std.specs.Prelude.{None, Option, Some, ℕ}
use Prim.Native.Nat.{ℕ, ◌+◌, ◌<◌}
use native.Mathlib.Omega.{arith}
use native.Mathlib.Numerals.{add-one}
use mathlib.Core.Path.{◌≡◌, refl, sym}
use mathlib.Core.Bool.{Bool, true, false, ◌&&◌, and-true, and_assoc}
use mathlib.Core.List.{List, [], ◌∷◌, ◌++◌, map, append_assoc}
use lib.ListN.{length, get_or, drop}
use lib.Seq.{drop-cons}
use Rattle.model.specs.declared.Articulations.{Articulations}
use Rattle.model.specs.declared.NoteHead.TheVariants.{Cross}
use Rattle.model.specs.declared.RowPlace.{RowPlace}
use Rattle.curve.specs.declared.level.NoteLevel.{NoteLevel}
use Rattle.curve.specs.declared.level.ChordLevel.{ChordLevel}
use Rattle.curve.specs.Level.{all_emphasised, later, last_given, chord_of}
use Rattle.beat.specs.declared.effects.BeatEffects.{BeatEffects}
use Rattle.note.specs.Words.{start, note_in, read_in}
use Rattle.beat.specs.Beat.{BeatIs}
use Rattle.score.specs.declared.Fretboard.{Fretboard}
use Rattle.score.specs.Members.{graces, graced_after, member_of}
use Rattle.score.specs.Rows.{Played, played, played_with, note_marks, beat_marks, marks_of_notes, levels, row_head}
use Rattle.score.specs.Rows.{rest_row, chord_row, beat_row}
use Rattle.draft.specs.declared.Draft.{Draft}
use Rattle.draft.specs.declared.graces.Graces.{Graces}
use Rattle.draft.specs.Chord.{string_of, keyed_in, chord_in}
use Rattle.draft.specs.Meant.{draft_in}
use Rattle.draft.specs.Steps.{played_by, add_marks, graced_by, graced_if}
use Rattle.draft.proofs.Steps.{add_both, graces_after}
use Rattle.note.specs.declared.marks.Grace.{Grace}

-- what the levels of these notes give after others
abbrev pub levels_after : Bool → Option ℕ → List NoteLevel → ChordLevel
levels_after all given ms = record { emphasised = all && all_emphasised ms; given = later given (last_given ms) }

none_later : (l : Option ℕ) → later None l ≡ l
none_later None = refl
none_later (Some n) = refl

later_each : (k l m : Option ℕ) → later (later k l) m ≡ later k (later l m)
later_each k l None = refl
later_each k l (Some n) = refl

pub levels_first : (ms : List NoteLevel) → levels_after true None ms ≡ chord_of ms
unfolding chord_of
levels_first ms = rw (none_later (last_given ms))

pub levels_end : (all : Bool) (given : Option ℕ) → levels_after all given [] ≡ record { emphasised = all; given = given }
levels_end all given = rw (and-true all)

module _ (s : List ℕ) (v : ℕ) (notes chord : List ℕ) (i : ℕ) (inside : i < length chord) where
  pub chord_next : chord_in s v notes (drop i chord)
      ≡ keyed_in s v notes (get_or chord i 0) ∷ chord_in s v notes (drop (i + 1) chord)
  unfolding chord_in
  chord_next = rw (drop-cons chord i 0 inside, add-one i)

  module _ {string : ℕ} (at : string ≡ string_of (get_or chord i 0)) where
    pub next_played : (p : Played) {q : Played} → q ≡ played_by (note_in s v notes (start string)) p
        → played q (chord_in s v notes (drop (i + 1) chord)) ≡ played p (chord_in s v notes (drop i chord))
    unfolding played_with played_by
    next_played p e = rw (e, at, chord_next)

    pub next_marks : (e : BeatEffects) (m : Articulations) {r : Articulations} → r ≡ add_marks m (note_marks e (read_in v notes string))
        → add_marks r (marks_of_notes e (chord_in s v notes (drop (i + 1) chord)) ++ beat_marks e)
        ≡ add_marks m (marks_of_notes e (chord_in s v notes (drop i chord)) ++ beat_marks e)
    next_marks e m k = rw (k, at, chord_next, append_assoc) (sym (add_both m _ _))

    pub next_levels : (all : Bool) (given : Option ℕ) {level : NoteLevel} → level ≡ (read_in v notes string).level
        → levels_after (all && level.emphasised) (later given level.given) (levels (chord_in s v notes (drop (i + 1) chord)))
        ≡ levels_after all given (levels (chord_in s v notes (drop i chord)))
    next_levels all given {level} e =
        rw (chord_next, ← at, ← e)
        (rw (and_assoc all level.emphasised, later_each given level.given))

    pub next_head : {dead : Bool} → dead ≡ (read_in v notes string).dead → dead ≡ false
        → row_head (chord_in s v notes (drop (i + 1) chord)) ≡ row_head (chord_in s v notes (drop i chord))
    next_head e f = rw (chord_next, ← at, ← e, f)

    pub dead_head : {dead : Bool} → dead ≡ (read_in v notes string).dead → dead ≡ true
        → Cross ≡ row_head (chord_in s v notes (drop i chord))
    dead_head e f = rw (chord_next, ← at, ← e, f)

    pub next_graces : (x : Graces) {y : Graces} {g : Option Grace} → g ≡ (read_in v notes string).effects.grace → y ≡ graced_if g x
        → graces_after y (graces (chord_in s v notes (drop (i + 1) chord))) ≡ graces_after x (graces (chord_in s v notes (drop i chord)))
    unfolding graced_by
    next_graces x e f = rw (f, e, at, chord_next) (sym (by (read_in v notes (string_of (get_or chord i 0))).effects.grace))
      where
        by : (g : Option Grace)
            → graces_after x (graced_after g (keyed_in s v notes (get_or chord i 0)) (graces (chord_in s v notes (drop (i + 1) chord))))
            ≡ graces_after (graced_if g x) (graces (chord_in s v notes (drop (i + 1) chord)))
        by None = refl
        by (Some g) = refl

-- ---- the row

module _ (s : List ℕ) (v : ℕ) (notes : List ℕ) (place : RowPlace) (board : Fretboard) (flat : Bool) (running : ℕ) (b : BeatIs)
    (d : Draft) where
  pub row_rest : (chord : List ℕ) → length chord ≡ 0 → draft_in s [] d ≡ rest_row place b
      → draft_in s (map (member_of board flat) (chord_in s v notes chord)) d
      ≡ beat_row place board flat running b (chord_in s v notes chord)
  unfolding chord_in
  row_rest [] e h = h
  row_rest (x ∷ l) e h = absurd (omega arith)

  pub row_chord : (chord : List ℕ) → (length chord ≡ 0 → ⊥)
      → draft_in s (map (member_of board flat) (chord_in s v notes chord)) d
      ≡ chord_row place board flat running b (chord_in s v notes chord)
      → draft_in s (map (member_of board flat) (chord_in s v notes chord)) d
      ≡ beat_row place board flat running b (chord_in s v notes chord)
  unfolding chord_in
  row_chord [] e h = absurd (e refl)
  row_chord (x ∷ l) e h = h
