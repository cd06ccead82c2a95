-- What a reading hands on: where beats, headers and tracks end, the ranges of their texts and numbers.
use Rattle.std.specs.Prelude.{None, Option, Some}
use Prim.Native.Nat.{ℕ, zero, suc, ◌+◌, ◌*◌, ◌-◌, ◌≤◌, ◌<◌, min, max}
use native.Mathlib.Omega.{arith}
use mathlib.Core.Path.{◌≡◌, refl, sym, ◌∙◌}
use mathlib.Core.List.{List, [], ◌∷◌, ◌++◌}
use mathlib.Core.Bool.{Bool, true, false, ◌||◌}
use lib.ListN.{length, get_or, set, replicate, length-set}
use lib.Dec.{leb, ltb, eqb}
use lib.IntN.{pos, negsuc}
use lib.Count.{count_trailing_zeros, ones, trailing_le}
use mir.Syntax.{w8}
use mir.Val.{SFits}
use borrow.Author.Rules.{sfits_of}
use borrow.Author.Tests.{leb-true}
use Rattle.format.specs.declared.Counted.{Counted}
use Rattle.format.specs.declared.Counted.TheVariants as C
use Rattle.format.specs.Text.{pick}
use Rattle.format.specs.Prog.{ret, when_bits, has}
use Rattle.format.specs.Count.{limit_of}
use Rattle.format.specs.Fields.{u8, count}
use Rattle.format.specs.Yields.{Yields, Bytes, Inside, OfFile}
use Rattle.format.proofs.Yields.{yield_any, yield_ret, yield_refuse, yield_less, yield_bind, yield_after, yield_turns}
use Rattle.format.proofs.Yields.{yielding, yield_le, yield_eq, yield_bits}
use Rattle.format.proofs.Yields.{yield_here, yield_u8, yield_byte, yield_skip, yield_number, yield_count}
use Rattle.format.proofs.Yields.{yield_no_text, yield_fixed_string, yield_int_byte_string_unused, yield_int_byte_string}
use Rattle.model.specs.declared.Articulation.{Articulation}
use Rattle.model.specs.declared.Time.{Time}
use Rattle.model.specs.Kinds.{tempo_from}
use Rattle.model.proofs.Fits.{KeyFits, TempoFits}
use Rattle.model.specs.Marks.{add_once}
use Rattle.model.proofs.MarksLaws.{Distinct, distinct_nil, distinct_few, distinct_add}
use Rattle.curve.specs.Held.{held, byte_half, word_half}
use Rattle.curve.specs.Level.{held_level, note_level}
use Rattle.header.specs.declared.Counts.{Counts}
use Rattle.header.specs.declared.Header.{Header}
use Rattle.track.specs.declared.TrackHeader.{TrackHeader}
use Rattle.header.specs.Header as H
use Rattle.track.specs.Track as T
use Rattle.note.specs.Points.{BendPoint, bend_point, bend_points, bend}
use Rattle.beat.specs.declared.effects.BeatEffects.{BeatEffects}
use Rattle.beat.specs.Chord.{diagram, old_chord, early_chord, chord, chord_name, beat_text}
use Rattle.beat.specs.Mix.{no_mix, mix_end, mix_tempo, mix_table, mix}
use Rattle.note.specs.Marks.{note_bend, grace_of, grace_note, grace, no_marks, marks_of, marks, no_note_effects, note_effects}
use Rattle.note.specs.Note.{NoteIs, read_of, note_end, note_by, note, no_note}
use Rattle.note.specs.Notes.{string_bit, no_notes, notes}
use Rattle.beat.specs.Head.{head}
use Rattle.beat.specs.Beat.{BeatIs, beat_notes, beat_by, beat}
use Rattle.score.specs.Members.{Keyed}
use Rattle.score.specs.Rows.{marks_of_notes, beat_marks, added_all, row_articulations}
use Rattle.score.specs.Page.{bend_room, bend_rooms}
use Rattle.note.specs.declared.marks.Grace.{Grace}

-- ---- the facts: of what begins at a position of the file s and ends at n
-- frets are held to 0..99 (docs/RULES.md 14)
abbrev pub GraceFits : Option Grace → Type 0
GraceFits None = Unit {0}
GraceFits (Some g) = g.fret ≤ 99

-- a dynamic is held to 1..8 (docs/RULES.md 14)
abbrev pub LevelFits : Option ℕ → Type 0
LevelFits None = Unit {0}
LevelFits (Some n) = n ≤ 8

pub record NoteFits (x : NoteIs) : Type 0 where
  pub fret : x.read.fret ≤ 99
  pub grace : GraceFits x.read.effects.grace
  pub level : LevelFits x.read.level.given

-- a note for each string bit; the rooms of their bends are no more than the bytes
pub record NotesFacts (strings at : ℕ) (ns : List NoteIs) (n : ℕ) : Type 0 where
  pub seven : length ns ≡ 7
  pub each : (i : ℕ) → NoteFits (get_or ns i no_note)
  pub rooms : at + bend_rooms strings 0 ns ≤ n

pub record BeatFacts (s : List ℕ) (at : ℕ) (x : BeatIs) (n : ℕ) : Type 0 where
  pub range : x.range ≡ record { start = at; end = n }
  pub starts : at + 1 ≤ n
  pub ends : n ≤ length s
  pub chord : OfFile s x.chord
  pub text : OfFile s x.text
  pub tempo : TempoFits x.mix.tempo
  pub notes : NotesFacts x.strings at x.notes n

abbrev pub TimeFits : Time → Type 0
TimeFits t = (t.numerator < 256) × (t.denominator < 256)

pub record HeaderFacts (s : List ℕ) (at : ℕ) (h : Header) (n : ℕ) : Type 0 where
  pub starts : at + 1 ≤ n
  pub ends : n ≤ length s
  pub time : TimeFits h.time
  pub key : KeyFits h.key
  pub ending : h.ending < 256
  pub passes : h.passes < 256
  pub marker : Inside (length s) h.marker

pub record TuningsFit (ts : List ℕ) : Type 0 where
  pub seven : length ts ≡ 7
  pub each : (i : ℕ) → get_or ts i 0 ≤ 127

pub record TrackFacts (s : List ℕ) (at : ℕ) (t : TrackHeader) (n : ℕ) : Type 0 where
  pub starts : at + 1 ≤ n
  pub ends : n ≤ length s
  pub name : Inside (length s) t.name
  pub strings : t.strings.count ≤ 7
  pub tunings : TuningsFit t.strings.tunings
  pub capo : t.capo ≤ 24

pub record CountsFacts (c : Counts) : Type 0 where
  pub bars : (0 < c.bars) × (c.bars ≤ 10000)
  pub tracks : (0 < c.tracks) × (c.tracks ≤ 100)

-- ---- numbers held to a range, and lists of which every element is so
held_within : (half hi x : ℕ) → held half 0 hi x ≤ hi
unfolding held
held_within half hi x = go (ltb x half)
  where
    go : (t : Bool) → pick t (max 0 (min hi x)) 0 ≤ hi
    go true = omega arith
    go false = omega arith

level_within : (ghost accent heavy : Bool) (stored : Option ℕ)
    → LevelFits (note_level ghost accent heavy stored).given
unfolding note_level held
level_within ghost accent heavy stored = go (ghost || accent || heavy) stored
  where
    at : (t : Bool) (byte : ℕ) → pick t (max 1 (min 8 byte)) 1 ≤ 8
    at true byte = omega arith
    at false byte = omega arith

    go : (t : Bool) (l : Option ℕ) → LevelFits (pick t None (held_level l))
    go true l = tt
    go false None = tt
    go false (Some byte) = at (ltb byte byte_half) byte

pick_within : (t : Bool) (a : ℕ) → pick t a 0 ≤ a
pick_within true a = omega arith
pick_within false a = omega arith

pick_below : (t : Bool) (a b m : ℕ) → a < m → b < m → pick t a b < m
pick_below true a b m h k = h
pick_below false a b m h k = k

module _ {A : Type 0} (P : A → Type 0) (d : A) where
  all_set : (l : List A) (i : ℕ) (a : A) → P a → ((j : ℕ) → P (get_or l j d)) → (j : ℕ) → P (get_or (set l i a) j d)
  all_set [] i a h k j = k j
  all_set (x ∷ xs) zero a h k zero = h
  all_set (x ∷ xs) zero a h k (suc j) = k (suc j)
  all_set (x ∷ xs) (suc i) a h k zero = k zero
  all_set (x ∷ xs) (suc i) a h k (suc j) = all_set xs i a h (λ m. k (suc m)) j

  all_same : (n : ℕ) → P d → (j : ℕ) → P (get_or (replicate n d) j d)
  all_same zero h j = h
  all_same (suc n) h zero = h
  all_same (suc n) h (suc j) = all_same n h j

-- ---- a beat's texts and its tempo
module _ {s : List ℕ} {at : ℕ} where
  diagram_name : (lead width rest : ℕ) → Yields s (diagram lead width rest) at (λ t _. OfFile s t)
  unfolding diagram
  diagram_name lead width rest =
      yield_after _ _ (λ _ _ _. yield_bind _ (yield_fixed_string width) (λ t _ _ h. search yielding))

  old_name : (v : ℕ) → Yields s (old_chord v) at (λ t _. OfFile s t)
  unfolding old_chord
  old_name v = yield_bind _ yield_int_byte_string (λ t _ _ h. search yielding)

  text_facts : (flags : ℕ) → Yields s (beat_text flags) at (λ t _. OfFile s t)
  unfolding beat_text
  text_facts flags = yield_bits _ _ yield_int_byte_string_unused yield_no_text

chord_facts : {s : List ℕ} {at : ℕ} (v flags : ℕ) → Yields s (chord_name v flags) at (λ t _. OfFile s t)
unfolding chord_name chord early_chord
chord_facts v flags = search (yielding, diagram_name, old_name, yield_no_text) depth 8

tempo_fits : (v : ℕ) → TempoFits (tempo_from v)
unfolding tempo_from
tempo_fits v = go (leb 1 v) (leb v 999) refl refl
  where
    go : (t u : Bool) → leb 1 v ≡ t → leb v 999 ≡ u → TempoFits (pick t (pick u (Some v) None) None)
    go true true e f = (leb-true 1 v e, omega (arith, leb-true v 999 f))
    go true false e f = tt
    go false u e f = tt

mix_facts : {s : List ℕ} {at : ℕ} (v flags : ℕ) → Yields s (mix v flags) at (λ m _. TempoFits m.tempo)
unfolding mix mix_table mix_tempo mix_end no_mix
mix_facts v flags = search (yielding, tempo_fits) depth 16

-- ---- a bend: nine bytes, and nine for each point
point_takes : {s : List ℕ} {at : ℕ} → Yields s bend_point at (λ _ n. n ≡ at + 9)
unfolding bend_point
point_takes =
    yield_bind _ (yield_number 4) (λ _ a _ f.
    yield_bind _ (yield_number 4) (λ _ b _ g.
    yield_bind _ (yield_skip 1) (λ _ c _ h. yield_ret (omega arith))))

points_take : {s : List ℕ} {at : ℕ} (k : ℕ) → Yields s (bend_points k) at (λ ps n. (length ps ≡ k) × (n ≡ at + 9 * k))
unfolding bend_points
points_take zero = yield_ret (omega arith)
points_take (suc k) =
    yield_bind _ point_takes (λ p m _ h. yield_bind _ (points_take k) (λ ps n _ g. yield_ret (omega arith)))

room_within : (b : List BendPoint) → bend_room b ≤ length b + 2
room_within [] = omega arith
room_within (p ∷ ps) = omega arith

bend_room_lem : {s : List ℕ} {at : ℕ} (flags : ℕ) → Yields s (note_bend flags) at (λ b n. at + bend_room b ≤ n)
unfolding note_bend bend
bend_room_lem flags =
    yield_bits _ _
    (yield_bind _ (yield_skip 5) (λ _ a _ f.
    yield_bind _ (yield_count C.Points) (λ k b _ g.
    yield_less (points_take k) (λ ps n h. omega (arith, room_within ps)))))
    (yield_ret (omega arith))

-- ---- a note
grace_facts : {s : List ℕ} {at : ℕ} (v flags : ℕ) → Yields s (grace v flags) at (λ g _. GraceFits g)
unfolding grace grace_note grace_of
grace_facts v flags = search (yielding, held_within, tt) depth 8

marks_grace : {s : List ℕ} {at : ℕ} (v flags more : ℕ) → Yields s (marks v flags more) at (λ m _. GraceFits m.grace)
unfolding marks marks_of
marks_grace v flags more = yield_bind _ (grace_facts v flags) (λ g _ _ h. search yielding)

effects_facts : {s : List ℕ} {at : ℕ} (v flags : ℕ)
    → Yields s (note_effects v flags) at (λ e n. GraceFits e.marks.grace × (at + bend_room e.bend ≤ n))
unfolding note_effects no_note_effects no_marks
effects_facts v flags =
    yield_bits _ _
    (yield_after _ _ (λ f a h.
    yield_after _ _ (λ more b i.
    yield_bind _ (bend_room_lem f) (λ p c j k.
    yield_bind _ (marks_grace v f more) (λ m d l g.
    yield_ret (g, omega arith))))))
    (yield_ret (tt, omega arith))

note_facts : {s : List ℕ} {at : ℕ} (v : ℕ) → Yields s (note v) at (λ x n. NoteFits x × (at + bend_room x.bend ≤ n))
unfolding note note_by note_end read_of
note_facts v =
    yield_after _ _ (λ flags a h.
    yield_after _ _ (λ kind b i.
    yield_after _ _ (λ _ c j.
    yield_after _ _ (λ stored d k.
    yield_after _ _ (λ fret e l.
    yield_after _ _ (λ hands f m.
    yield_after _ _ (λ turned g o.
    yield_bind _ (effects_facts v flags) (λ effects n _ p.
    yield_ret (
      record {
        fret = held_within byte_half 99 fret;
        grace = p.0;
        level = level_within _ _ _ stored;
      },
      omega arith,
    )))))))))

-- ---- the notes of a beat
no_note_fits : NoteFits no_note
unfolding no_note no_marks
no_note_fits = record { fret = omega arith; grace = tt; level = tt }

-- a note that is put in takes no more than its own room
rooms_set : (strings k : ℕ) (ns : List NoteIs) (i : ℕ) (x : NoteIs)
    → bend_rooms strings k (set ns i x) ≤ bend_rooms strings k ns + bend_room x.bend
rooms_set strings k [] i x = omega arith
rooms_set strings k (y ∷ ns) zero x = omega (arith, pick_within (has strings (string_bit k)) (bend_room x.bend))
rooms_set strings k (y ∷ ns) (suc i) x = omega (arith, rooms_set strings (k + 1) ns i x)

rooms_none : (strings k n : ℕ) → bend_rooms strings k (replicate n no_note) ≤ 0
unfolding no_note
rooms_none strings k zero = omega arith
rooms_none strings k (suc n) = omega (arith, pick_within (has strings (string_bit k)) 0, rooms_none strings (k + 1) n)

notes_facts : {s : List ℕ} {at : ℕ} (v strings : ℕ) → Yields s (notes v strings) at (NotesFacts strings at)
unfolding notes no_notes
notes_facts {at = at} v strings =
    yield_turns (NotesFacts strings at) _
    (λ i ns m k. yield_bits _ _ (yield_bind _ (note_facts v) (λ x n w h.
    yield_ret (record {
      seven = length-set ns i x ∙ k.seven;
      each = all_set NoteFits no_note ns i x h.0 k.each;
      rooms = omega (arith, rooms_set strings 0 ns i x);
    }))) (yield_ret k))
    7 0 _
    (record {
      seven = refl;
      each = all_same NoteFits no_note 7 no_note_fits;
      rooms = omega (arith, rooms_none strings 0 7);
    })

-- ---- a beat
head_starts : {s : List ℕ} {at : ℕ} → Yields s head at (λ _ n. at + 1 ≤ n)
unfolding head
head_starts = yield_bind _ yield_u8 (λ flags m _ h. yield_any (λ _ n w. omega arith))

pub beat_facts : (s : List ℕ) (v at : ℕ) → Yields s (beat v) at (BeatFacts s at)
unfolding beat beat_by beat_notes
beat_facts s v at =
    yield_bind _ yield_here (λ start m₀ _ first.
    yield_bind _ head_starts (λ h a b c.
    yield_bind _ (chord_facts v _) (λ name d e f.
    yield_bind _ (text_facts _) (λ words g i j.
    yield_after _ _ (λ effects k l.
    yield_bind _ (mix_facts v _) (λ table m o p.
    yield_after _ _ (λ strings q r.
    yield_bind _ (notes_facts v strings) (λ ns t u w.
    yield_after _ _ (λ ottava n x.
    yield_bind _ yield_here (λ end m₁ y last.
    yield_ret (record {
      range = λ i. record { start = first.0 i; end = (last.0 ∙ sym last.1) i };
      starts = omega arith;
      ends = y.1;
      chord = f;
      text = j;
      tempo = p;
      notes = record { seven = w.seven; each = w.each; rooms = omega arith };
    })))))))))))

-- ---- a header's time, key and marker
pub common_time_lem : TimeFits H.common_time
unfolding H.common_time
common_time_lem = omega arith

time_of_lem : (n d : ℕ) → n < 256 → d < 256 → TimeFits (H.time_of n d)
unfolding H.time_of
time_of_lem n d h k = go (eqb n 0) (H.power_of_two d)
  where
    go : (t u : Bool) → TimeFits (pick t H.common_time (pick u (record { numerator = n; denominator = d }) H.common_time))
    go true u = common_time_lem
    go false true = (h, k)
    go false false = common_time_lem

fifths_fit : (b : ℕ) → SFits w8 (H.fifths_of b)
unfolding H.fifths_of
fifths_fit b = go (ltb b 128) (leb b 7) (leb 249 b) refl refl
  where
    go : (t u w : Bool) → leb b 7 ≡ u → leb 249 b ≡ w
        → SFits w8 (pick t (pos (pick u b 7)) (negsuc (pick w (255 - b) 6)))
    go true true w e f = sfits_of (omega (arith, leb-true b 7 e))
    go true false w e f = sfits_of (omega arith)
    go false u true e f = sfits_of (omega (arith, leb-true 249 b f))
    go false u false e f = sfits_of (omega arith)

key_facts : {s : List ℕ} {at : ℕ} (flags : ℕ) → Yields s (H.key flags) at (λ k _. KeyFits k)
unfolding H.key
key_facts flags = search (yielding, fifths_fit, tt)

marker_facts : {s : List ℕ} {at : ℕ} (flags : ℕ) → Yields s (H.marker flags) at (λ t _. OfFile s t)
unfolding H.marker
marker_facts flags = yield_bits _ _ (yield_bind _ yield_int_byte_string (λ t _ _ h. search yielding)) yield_no_text

-- ---- an ending's number, by the mask's trailing zeros, and its passes
ending_below : (v byte mask : ℕ) → byte < 256 → H.ending_number v byte mask < 256
unfolding H.ending_number H.ending_of
ending_below v byte mask h =
    pick_below (leb 500 v) _ byte 256
    (pick_below (eqb mask 0) 0 (count_trailing_zeros 8 mask + 1) 256 (omega arith) (omega (arith, trailing_le 8 mask)))
    h

passes_below : (mask : ℕ) → mask < 256 → H.passes_of mask < 256
unfolding H.passes_of
passes_below mask h = pick_below (leb 2 (ones mask)) mask 0 256 h (omega arith)

-- ---- a header, of a file of bytes
module _ (s : List ℕ) (bytes : Bytes s) where
  byte_below : {at : ℕ} (flags mask none : ℕ) → none < 256
      → Yields s (when_bits flags mask u8 (ret none)) at (λ b _. b < 256)
  byte_below flags mask none h = yield_bits _ _ (yield_less (yield_byte bytes) (λ b n w. w.0)) (yield_ret h)

  time_facts : {at : ℕ} (flags : ℕ) (before : Time) → TimeFits before
      → Yields s (H.time flags before) at (λ t _. TimeFits t)
  unfolding H.time
  time_facts flags before h =
      yield_bind _ (byte_below flags 0x01 _ h.0) (λ n _ _ j.
      yield_bind _ (byte_below flags 0x02 _ h.1) (λ d _ _ k.
      yield_ret (time_of_lem n d j k)))

  ending_facts : {at : ℕ} (v flags : ℕ) → Yields s (H.ending_byte v flags) at (λ b _. b < 256)
  unfolding H.ending_byte
  ending_facts v flags = yield_le _ _ (λ _. yield_ret (omega arith)) (λ _. byte_below flags 0x10 0 (omega arith))

  marks_facts : {at : ℕ} (v flags : ℕ)
      → Yields s (H.header_marks v flags) at (λ m _. (m.ending < 256) × Inside (length s) m.marker × KeyFits m.key)
  unfolding H.header_marks
  marks_facts v flags =
      yield_after _ _ (λ _ _ _.
      yield_bind _ (ending_facts v flags) (λ _ _ _ h.
      yield_bind _ (marker_facts flags) (λ _ _ _ j.
      yield_bind _ (key_facts flags) (λ _ _ _ k.
      yield_ret (h, j.inside, k)))))

  tail_facts : {at : ℕ} (v flags : ℕ) → Yields s (H.header_tail v flags) at (λ t _. t.mask < 256)
  unfolding H.header_tail
  tail_facts v flags =
      yield_le _ _
      (λ _. yield_after _ _ (λ _ _ _. yield_bind _ (yield_byte bytes) (λ mask _ _ h. search (yielding, h.0))))
      (λ _. yield_ret (omega arith))

  pub header_facts : (v : ℕ) (before : Time) → TimeFits before → (at : ℕ)
      → Yields s (H.header v before) at (HeaderFacts s at)
  unfolding H.header H.header_of
  header_facts v before earlier at =
      yield_bind _ yield_u8 (λ flags a _ b.
      yield_bind _ (time_facts flags before earlier) (λ t c d e.
      yield_bind _ (marks_facts v flags) (λ m f g h.
      yield_bind _ (tail_facts v flags) (λ rest n j k.
      yield_ret (record {
        starts = omega arith;
        ends = j.1;
        time = e;
        key = h.2;
        ending = ending_below v m.ending rest.mask h.0;
        passes = passes_below rest.mask k;
        marker = h.1;
      })))))

-- ---- a track
tunings_facts : {s : List ℕ} {at : ℕ} (n : ℕ) → Yields s (T.tunings n) at (λ ts _. TuningsFit ts)
unfolding T.tunings T.next_tuning T.no_tunings
tunings_facts n =
    yield_turns _ _
    (λ i ts m k. yield_after _ _ (λ v _ _.
    yield_ret (record {
      seven = length-set ts i _ ∙ k.seven;
      each = all_set (λ t. t ≤ 127) 0 ts i _ (held_within word_half 127 v) k.each;
    })))
    n 0 _ (record { seven = refl; each = all_same (λ t. t ≤ 127) 0 7 (omega arith) })

strings_facts : {s : List ℕ} {at : ℕ} → Yields s T.strings at (λ x _. (x.count ≤ 7) × TuningsFit x.tunings)
unfolding T.strings
strings_facts =
    yield_bind _ (yield_count C.Strings) (λ n _ _ h.
    yield_bind _ (tunings_facts n) (λ ts _ _ k.
    yield_after _ _ (λ _ _ _. yield_ret (h.0, k))))

sound_facts : {s : List ℕ} {at : ℕ} → Yields s T.sound at (λ w _. w.capo ≤ 24)
unfolding T.sound
sound_facts = search (yielding, held_within) depth 8

pub track_facts : (s : List ℕ) (v : ℕ) (programs : List (List ℕ)) (at : ℕ)
    → Yields s (T.track v programs) at (TrackFacts s at)
unfolding T.track T.track_of
track_facts s v programs at =
    yield_bind _ yield_u8 (λ flags a _ b.
    yield_bind _ (yield_fixed_string 40) (λ name c d e.
    yield_bind _ strings_facts (λ x f g h.
    yield_bind _ sound_facts (λ sound i j k.
    yield_after _ _ (λ staff n m.
    yield_ret (record {
      starts = omega arith;
      ends = m.1;
      name = e.inside;
      strings = h.0;
      tunings = h.1;
      capo = k;
    }))))))

-- ---- counts
pub count_facts : (s : List ℕ) (which : Counted) (at : ℕ) → Yields s (count which) at (λ n _. n ≤ limit_of which)
count_facts s which at = yield_less (yield_count which) (λ n _ h. h.0)

pub counts_facts : (s : List ℕ) (at : ℕ) → Yields s H.counts at (λ c _. CountsFacts c)
unfolding H.counts H.not_empty
counts_facts s at =
    yield_bind _ (yield_count C.Bars) (λ bars _ _ h.
    yield_bind _ (yield_count C.Tracks) (λ tracks _ _ k.
    yield_eq _ _ (λ _. yield_refuse) (λ i.
    yield_eq _ _ (λ _. yield_refuse) (λ j.
    yield_ret (record { bars = omega arith; tracks = omega arith })))))

-- ---- articulations of a row: none twice, so at most sixteen

add_distinct : (done more : List Articulation) → Distinct done → Distinct (added_all done more)
add_distinct done [] f = f
add_distinct done (a ∷ more) f = add_distinct (add_once a done) more (distinct_add a done f)

pub marks_few : (e : BeatEffects) (xs : List Keyed) → length (row_articulations e xs) < 256
unfolding row_articulations
marks_few e xs =
    let marks = marks_of_notes e xs ++ beat_marks e in
    omega (arith, distinct_few (added_all [] marks) (add_distinct [] marks distinct_nil))
