-- What each note of a chord adds to its row.
use Rattle.std.specs.Prelude.{ℕ, ◌≡◌, List, [], ◌∷◌, Bool, true, false, ◌||◌, eqb, None, Option, Some}
use Rattle.format.specs.declared.Range.{Range}
use Rattle.format.specs.Text.{pick}
use Rattle.model.specs.declared.Articulation.{Articulation}
use Rattle.model.specs.declared.Articulations.{Articulations}
use Rattle.model.specs.declared.NoteHead.TheVariants.{Cross}
use Rattle.model.specs.declared.Technique.{Technique}
use Rattle.model.specs.declared.Technique.TheVariants.{NoTechnique, Hammer, Slide}
use Rattle.model.specs.declared.TechniqueText.TheVariants.{HammerMark}
use Rattle.model.specs.Marks.{add_mark}
use Rattle.note.specs.declared.marks.Grace.{Grace}
use Rattle.note.specs.declared.marks.NoteEffects.{NoteEffects}
use Rattle.note.specs.Points.{bend_in}
use Rattle.note.specs.Note.{NoteIs}
use Rattle.beat.specs.declared.effects.BeatEffects.{BeatEffects}
use Rattle.score.specs.Members.{Keyed, Graced}
use Rattle.score.specs.Rows.{Played, with_text, with_bend, with_hammer, with_slide, played, no_play, marks_of_notes, grace_technique, grace_text, grace_head}
use Rattle.draft.specs.declared.played.Played.{Played as PlayedHere}
use Rattle.model.specs.declared.Arpeggio.TheVariants.{NoArpeggio}
use Rattle.model.specs.declared.Duration.TheVariants.{ThirtySecond}
use Rattle.model.specs.declared.Ottava.TheVariants.{NoOttava}
use Rattle.model.specs.declared.RowPlace.{RowPlace}
use Rattle.model.specs.declared.RowKind.TheVariants as K
use Rattle.model.specs.Marks.{packed}
use Rattle.draft.specs.declared.Draft.{Draft}
use Rattle.draft.specs.declared.graces.Graces.{Graces}

-- ---- technique and its text

abbrev pub played_in : List ℕ → PlayedHere → Played
played_in s p = record { text = p.text; technique = p.technique; bend = bend_in s p.bend }

-- `played_with` of Rows, which looks at the note alone
unfoldable pub played_by : NoteIs → Played → Played
played_by n p =
    let e : NoteEffects = n.read.effects in
    with_slide e (with_hammer e (with_bend n.bend (with_text e p)))

-- ---- articulations

-- `added_all` of Rows, on what a row holds
unfoldable pub add_marks : Articulations → List Articulation → Articulations
add_marks m [] = m
add_marks m (a ∷ more) = add_marks (add_mark a m) more

-- whether the beat makes each of its notes a harmonic
abbrev pub beat_harmonic : BeatEffects → Bool
beat_harmonic e = e.natural_harmonic || e.artificial_harmonic

-- ---- notes that give their row nothing: no technique and, where the beat has no harmonic, no articulations

pub record Quiet (xs : List Keyed) : Type 0 where
  pub playing : played no_play xs ≡ no_play
  pub marks : (e : BeatEffects) → beat_harmonic e ≡ false → marks_of_notes e xs ≡ []

-- ---- graces

abbrev pub any_of : List Graced → Bool
any_of [] = false
any_of (g ∷ gs) = true

-- what all graces of a chord give their row
abbrev pub graces_of : List Graced → Graces
graces_of gs =
    record { any = any_of gs; text = grace_text gs; technique = grace_technique NoTechnique gs; head = grace_head gs }

-- one of `grace_technique` of Rows
abbrev pub technique_by : (transition : ℕ) → Technique → Technique
technique_by n t = pick (eqb n 1) Slide (pick (eqb n 3) Hammer t)

-- those before with one more
unfoldable pub graced_by : Grace → Graces → Graces
graced_by g x =
    record {
      any = true;
      text = pick (eqb g.transition 3) HammerMark x.text;
      technique = technique_by g.transition x.technique;
      head = pick g.dead Cross x.head;
    }

abbrev pub graced_if : Option Grace → Graces → Graces
graced_if None x = x
graced_if (Some g) x = graced_by g x

-- `grace_row` of Rows but for its members
unfoldable pub grace_draft : RowPlace → Range → Graces → Draft
grace_draft place beat x =
    record {
      place = place;
      kind = K.Grace;
      rest = false;
      value = record { duration = ThirtySecond; dot = false; tuplet = None };
      text = x.text;
      technique = x.technique;
      bend = record { start = 0; count = 0 };
      dynamic = None;
      articulations = packed [];
      arpeggio = NoArpeggio;
      head = x.head;
      ottava = NoOttava;
      chord = record { start = 0; end = 0 };
      beat = beat;
    }
