-- Notes without effects give their row their accents, and notes without accents too nothing.
use Prim.Native.Nat.{ℕ, ◌+◌, ◌<◌}
use mathlib.Core.Path.{◌≡◌, refl, sym, ◌∙◌}
use mathlib.Core.Bool.{Bool, true, false, ◌||◌, true≢false}
use mathlib.Core.List.{List, [], append-nil}
use lib.ListN.{length, get_or, drop}
use Rattle.model.specs.Marks.{packed, no_marks}
use Rattle.note.specs.Points.{points_at}
use Rattle.note.specs.Marks.{no_marks as no_effects}
use Rattle.note.specs.Words.{start, note_in, read_in, WithoutEffects, Plain}
use Rattle.beat.specs.declared.effects.BeatEffects.{BeatEffects}
use Rattle.score.specs.Members.{Keyed}
use Rattle.score.specs.Rows.{Played, no_play, accents, note_marks, beat_marks, row_articulations}
use Rattle.draft.specs.Chord.{string_of, chord_in}
use Rattle.draft.specs.Steps.{played_by, add_marks, beat_harmonic, Quiet}
use Rattle.draft.proofs.Steps.{marks_packed}
use Rattle.draft.proofs.Walks.{chord_next, next_played}

pub no_notes_lem : Quiet []
no_notes_lem = record { playing = refl; marks = λ e h. refl }

-- ---- a note without effects
module _ (v : ℕ) (notes : List ℕ) {string : ℕ} (w : WithoutEffects v notes string) where
  pub not_played : (s : List ℕ) (p : Played) → p ≡ played_by (note_in s v notes (start string)) p
  unfolding played_by no_effects points_at
  not_played s p = rw (w.marks, w.bend)

  pub accents_only : (e : BeatEffects) → beat_harmonic e ≡ false → note_marks e (read_in v notes string) ≡ accents (read_in v notes string)
  unfolding note_marks no_effects
  accents_only e h = rw (w.marks, h) (simp append-nil)

-- ---- and without accents
module _ (s : List ℕ) (v : ℕ) (notes : List ℕ) {string : ℕ} (p : Plain v notes string) where
  plain_marks : (e : BeatEffects) → beat_harmonic e ≡ false → note_marks e (read_in v notes string) ≡ []
  plain_marks e h = accents_only v notes p.effects e h ∙ rw (p.heavy, p.light)

  pub next_quiet : (chord : List ℕ) (i : ℕ) → i < length chord → string ≡ string_of (get_or chord i 0)
      → Quiet (chord_in s v notes (drop (i + 1) chord)) → Quiet (chord_in s v notes (drop i chord))
  next_quiet chord i inside at q =
      record {
        playing = sym (next_played s v notes chord i inside at no_play (not_played v notes p.effects s no_play)) ∙ q.playing;
        marks = λ e h. rw (chord_next s v notes chord i inside, ← at, plain_marks e h) (q.marks e h);
      }

-- what they give with the beat
pub quiet_marks : (e : BeatEffects) (xs : List Keyed) → Quiet xs → beat_harmonic e ≡ false
    → add_marks no_marks (beat_marks e) ≡ packed (row_articulations e xs)
quiet_marks e xs q h = rw (q.marks e h) at (marks_packed e xs)

pub neither : (a b : Bool) → (a || b) ≡ false → (a ≡ false) × (b ≡ false)
neither true b e = absurd (true≢false e)
neither false b e = (refl, e)
