-- Rows: what a kept beat gives, with its members and its curve.
use Rattle.std.specs.Prelude.{ℕ, List, [], ◌∷◌, ◌++◌, map, Bool, true, false, ◌&&◌, ◌||◌, eqb, None, Option, Some}
use Rattle.format.specs.declared.Range.{Range}
use Rattle.format.specs.Text.{pick}
use Rattle.model.specs.declared.Articulation.{Articulation}
use Rattle.model.specs.declared.Articulation.TheVariants as A
use Rattle.model.specs.declared.Arpeggio.{Arpeggio}
use Rattle.model.specs.declared.Arpeggio.TheVariants.{NoArpeggio}
use Rattle.model.specs.declared.Duration.TheVariants.{ThirtySecond}
use Rattle.model.specs.declared.NoteValue.{NoteValue}
use Rattle.model.specs.declared.NoteHead.{NoteHead}
use Rattle.model.specs.declared.NoteHead.TheVariants.{Normal, Cross}
use Rattle.model.specs.declared.Ottava.{Ottava}
use Rattle.model.specs.declared.Ottava.TheVariants.{NoOttava}
use Rattle.model.specs.declared.Technique.{Technique}
use Rattle.model.specs.declared.Technique.TheVariants.{NoTechnique, Bend, Hammer, PullOff, Slide}
use Rattle.model.specs.declared.TechniqueText.{TechniqueText}
use Rattle.model.specs.declared.TechniqueText.TheVariants.{NoText, HammerMark, PalmMute, LetRing}
use Rattle.model.specs.declared.Member.{Member}
use Rattle.model.specs.declared.Point.{Point}
use Rattle.model.specs.declared.RowKind.{RowKind}
use Rattle.model.specs.declared.RowKind.TheVariants as K
use Rattle.model.specs.declared.Articulations.{Articulations}
use Rattle.model.specs.declared.RowPlace.{RowPlace}
use Rattle.model.specs.Marks.{add_once, packed}
use Rattle.curve.specs.Bend.{point_of, finish}
use Rattle.curve.specs.Level.{chord_of, level_after}
use Rattle.curve.specs.declared.level.NoteLevel.{NoteLevel}
use Rattle.curve.specs.declared.slide.SlideEffect.{SlideEffect}
use Rattle.format.specs.Prog.{has}
use Rattle.beat.specs.declared.effects.BeatEffects.{BeatEffects}
use Rattle.note.specs.declared.marks.NoteEffects.{NoteEffects}
use Rattle.note.specs.declared.NoteRead.{NoteRead}
use Rattle.beat.specs.declared.effects.PickStroke.{PickStroke}
use Rattle.beat.specs.declared.effects.PickStroke.TheVariants as P
use Rattle.note.specs.Points.{BendPoint}
use Rattle.beat.specs.Beat.{BeatIs}
use Rattle.score.specs.declared.Fretboard.{Fretboard}
use Rattle.score.specs.Members.{Keyed, Graced, graces, member_of, grace_member}

-- a row with what belongs to it: which entries of the tables these become is said in Page
pub record RowIs : Type 0 where
  pub place : RowPlace
  pub kind : RowKind
  pub rest : Bool
  pub value : NoteValue
  pub members : List Member
  pub text : TechniqueText
  pub technique : Technique
  pub curve : List Point
  pub dynamic : Option ℕ
  pub articulations : Articulations
  pub arpeggio : Arpeggio
  pub head : NoteHead
  pub ottava : Ottava
  pub chord : Range
  pub beat : Range

abbrev pub note_of : Keyed → NoteRead
note_of x = x.sound.note.read

-- ---- articulations in the order added: for each member marcato or else accent, vibrato, falloff, doit, scoop, plop, staccato,
-- harmonic, trill, tremolo; after all members up or down bow, vibrato, tap; none twice
abbrev pub only : Bool → Articulation → List Articulation
only true a = a ∷ []
only false a = []

abbrev pub strokes : ℕ → Articulation
strokes n = pick (eqb n 1) A.Tremolo1 (pick (eqb n 2) A.Tremolo2 A.Tremolo3)

abbrev pub tremolos : Option ℕ → List Articulation
tremolos None = []
tremolos (Some n) = strokes n ∷ []

abbrev pub slides : SlideEffect → List Articulation
slides s = only s.falloff A.Falloff ++ only s.doit A.Doit ++ only s.scoop A.Scoop ++ only s.plop A.Plop

abbrev pub accents : NoteRead → List Articulation
accents n = pick n.heavy_accent (A.Marcato ∷ []) (only n.accent A.Accent)

abbrev pub harmonics : NoteRead → BeatEffects → Bool
harmonics n e = n.effects.harmonic || (e.natural_harmonic || e.artificial_harmonic)

unfoldable pub note_marks : BeatEffects → NoteRead → List Articulation
note_marks e n =
    accents n ++ only n.effects.vibrato A.Vibrato ++ slides n.effects.slide ++ only n.effects.staccato A.Staccato
    ++ only (harmonics n e) A.Harmonic ++ only n.effects.trill A.Trill ++ tremolos n.effects.tremolo

abbrev pub bows : PickStroke → List Articulation
bows P.NoStroke = []
bows P.Up = A.UpBow ∷ []
bows P.Down = A.DownBow ∷ []

unfoldable pub beat_marks : BeatEffects → List Articulation
beat_marks e = bows e.pick ++ only e.vibrato A.Vibrato ++ only e.tap A.Tap

abbrev pub added_all : List Articulation → List Articulation → List Articulation
added_all done [] = done
added_all done (a ∷ more) = added_all (add_once a done) more

abbrev pub marks_of_notes : BeatEffects → List Keyed → List Articulation
marks_of_notes e [] = []
marks_of_notes e (x ∷ xs) = note_marks e (note_of x) ++ marks_of_notes e xs

unfoldable pub row_articulations : BeatEffects → List Keyed → List Articulation
row_articulations e xs = added_all [] (marks_of_notes e xs ++ beat_marks e)

-- ---- technique and its text: members are gone through in key order; of each bend, hammer, slide, each only while the row has
-- no technique. Palm mute overwrites the hammer mark; let ring does not
pub record Played : Type 0 where
  pub text : TechniqueText
  pub technique : Technique
  pub bend : List BendPoint

abbrev pub none_text : TechniqueText → Bool
none_text NoText = true
none_text HammerMark = false
none_text PalmMute = false
none_text LetRing = false

abbrev pub none_yet : Technique → Bool
none_yet NoTechnique = true
none_yet Bend = false
none_yet Hammer = false
none_yet PullOff = false
none_yet Slide = false

abbrev pub with_text : NoteEffects → Played → Played
with_text e p =
    record {
      text = pick e.palm_mute PalmMute (pick (e.let_ring && none_text p.text) LetRing p.text);
      technique = p.technique;
      bend = p.bend;
    }

abbrev pub bent : List BendPoint → Bool
bent [] = false
bent (x ∷ xs) = true

abbrev pub with_bend : List BendPoint → Played → Played
with_bend points p =
    pick (bent points && none_yet p.technique) (record { text = p.text; technique = Bend; bend = points }) p

abbrev pub with_hammer : NoteEffects → Played → Played
with_hammer e p =
    pick (e.hammer && none_yet p.technique)
    (record { text = pick (none_text p.text) HammerMark p.text; technique = Hammer; bend = p.bend })
    p

abbrev pub with_slide : NoteEffects → Played → Played
with_slide e p =
    pick (e.slide.slide && none_yet p.technique) (record { text = p.text; technique = Slide; bend = p.bend }) p

unfoldable pub played_with : Played → Keyed → Played
played_with p x =
    let e : NoteEffects = (note_of x).effects in
    with_slide e (with_hammer e (with_bend x.sound.note.bend (with_text e p)))

abbrev pub played : Played → List Keyed → Played
played p [] = p
played p (x ∷ xs) = played (played_with p x) xs

abbrev pub no_play : Played
no_play = record { text = NoText; technique = NoTechnique; bend = [] }

-- one dead note gives the X head
abbrev pub row_head : List Keyed → NoteHead
row_head [] = Normal
row_head (x ∷ xs) = pick (note_of x).dead Cross (row_head xs)

abbrev pub curve_of : List BendPoint → List Point
curve_of points = finish (map (λ p. point_of p.offset p.value) points)

abbrev pub levels : List Keyed → List NoteLevel
levels [] = []
levels (x ∷ xs) = (note_of x).level ∷ levels xs

abbrev pub value_of : BeatIs → NoteValue
value_of b = record { duration = b.head.duration; dot = has b.head.flags 0x01; tuplet = b.head.tuplet }

-- ---- a beat's row; a rest keeps chord name, dot and tuplet, and beat effects and dynamic don't apply to it
unfoldable pub rest_row : RowPlace → BeatIs → RowIs
rest_row place b =
    record {
      place = place;
      kind = K.Beat;
      rest = true;
      value = value_of b;
      members = [];
      text = NoText;
      technique = NoTechnique;
      curve = [];
      dynamic = None;
      articulations = packed [];
      arpeggio = NoArpeggio;
      head = Normal;
      ottava = b.ottava;
      chord = b.chord.range;
      beat = b.range;
    }

unfoldable pub chord_row : RowPlace → Fretboard → Bool → ℕ → BeatIs → List Keyed → RowIs
chord_row place board flat running b xs =
    let p : Played = played no_play xs in
    record {
      place = place;
      kind = K.Beat;
      rest = false;
      value = value_of b;
      members = map (member_of board flat) xs;
      text = p.text;
      technique = p.technique;
      curve = curve_of p.bend;
      dynamic = (level_after running (chord_of (levels xs))).mark;
      articulations = packed (row_articulations b.effects xs);
      arpeggio = b.effects.brush;
      head = row_head xs;
      ottava = b.ottava;
      chord = b.chord.range;
      beat = b.range;
    }

-- ---- a grace row: a 32nd, no dot, no tuplet, no ghost, tie, finger or dynamic. The last transition 1 or 3 sets the technique,
-- but any 3 leaves the mark. It has the bytes of its beat (document 02, f)
abbrev pub grace_technique : Technique → List Graced → Technique
grace_technique t [] = t
grace_technique t (g ∷ gs) =
    grace_technique (pick (eqb g.grace.transition 1) Slide (pick (eqb g.grace.transition 3) Hammer t)) gs

abbrev pub grace_text : List Graced → TechniqueText
grace_text [] = NoText
grace_text (g ∷ gs) = pick (eqb g.grace.transition 3) HammerMark (grace_text gs)

abbrev pub grace_head : List Graced → NoteHead
grace_head [] = Normal
grace_head (g ∷ gs) = pick g.grace.dead Cross (grace_head gs)

unfoldable pub grace_row : RowPlace → Fretboard → Bool → Range → List Graced → RowIs
grace_row place board flat beat gs =
    record {
      place = place;
      kind = K.Grace;
      rest = false;
      value = record { duration = ThirtySecond; dot = false; tuplet = None };
      members = map (grace_member board flat) gs;
      text = grace_text gs;
      technique = grace_technique NoTechnique gs;
      curve = [];
      dynamic = None;
      articulations = packed [];
      arpeggio = NoArpeggio;
      head = grace_head gs;
      ottava = NoOttava;
      chord = record { start = 0; end = 0 };
      beat = beat;
    }

-- a grace row stands directly before its beat's row
abbrev pub grace_rows : RowPlace → Fretboard → Bool → Range → List Graced → List RowIs
grace_rows place board flat beat [] = []
grace_rows place board flat beat (g ∷ gs) = grace_row place board flat beat (g ∷ gs) ∷ []

abbrev pub beat_row : RowPlace → Fretboard → Bool → ℕ → BeatIs → List Keyed → RowIs
beat_row place board flat running b [] = rest_row place b
beat_row place board flat running b (x ∷ xs) = chord_row place board flat running b (x ∷ xs)

unfoldable pub rows_of : RowPlace → Fretboard → Bool → ℕ → BeatIs → List Keyed → List RowIs
rows_of place board flat running b xs =
    grace_rows place board flat b.range (graces xs) ++ (beat_row place board flat running b xs ∷ [])
