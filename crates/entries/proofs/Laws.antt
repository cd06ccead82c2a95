-- What is stored is loaded again. Laws only.
use Rattle.std.specs.Prelude.{None, Some}
use Prim.Native.Nat.{ℕ, ◌+◌, ◌*◌, ◌≤◌, ◌<◌}
use mathlib.Core.Path.{◌≡◌, refl}
use mathlib.Core.List.{List}
use native.Mathlib.Omega.{arith}
use native.Mathlib.Nat.{mod-eq_of_lt, div-add-mod'}
use borrow.Author.Tests.{ne_eqb}
use lib.Dec.{eqb}
use lib.ListN.{length, get_or}
use lib.Seq.{sets}
use Rattle.tables.specs.Table.{words, over}
use Rattle.tables.proofs.Laws.{entry_is, entry_stored}
use Rattle.model.specs.declared.Bar.{Bar}
use Rattle.model.specs.declared.Track.{Track}
use Rattle.model.specs.declared.Row.{Row}
use Rattle.model.specs.declared.Member.{Member}
use Rattle.model.specs.declared.Point.{Point}
use Rattle.model.specs.declared.Text.{Text}
use Rattle.entries.proofs.Fits.{BarFits, TrackFits, RowFits, MemberFits, PointFits, TextFits}
use Rattle.entries.specs.Words.{bar_stride, bar_words, track_stride, track_words, row_stride, row_words, front_words, back_words, member_stride, member_words, point_stride, point_words, text_stride, text_words, time_of, changes_of, repeats_of, bar_of, bar_at, tunings_of, track_of, track_at, place_of, value_of, playing_of, articulations_of, expression_of, ottava_marks_of, row_of, row_at, member_of, member_at, point_of, point_at, text_of, text_at, entry_at}
use Rattle.format.specs.Text.{pick}
use Rattle.model.proofs.KindLaws.{arpeggio_back, cents_back, clef_back, direction_back, duration_back, dynamic_back, ending_back, ending_place_back, finger_back, flag_back, height_back, key_back, note_head_back, ottava_back, passes_back, position_back, program_back, row_kind_back, technique_back, technique_text_back, tempo_back, tuplet_back}

-- ---- every entry of a table has the same number of words

pub bar_length : (x : Bar) → length (bar_words x) ≡ bar_stride
unfolding bar_words
bar_length x = refl

pub track_length : (x : Track) → length (track_words x) ≡ track_stride
unfolding track_words
track_length x = refl

pub member_length : (x : Member) → length (member_words x) ≡ member_stride
unfolding member_words
member_length x = refl

pub point_length : (x : Point) → length (point_words x) ≡ point_stride
unfolding point_words
point_length x = refl

pub text_length : (x : Text) → length (text_words x) ≡ text_stride
unfolding text_words
text_length x = refl

pub row_length : (x : Row) → length (row_words x) ≡ row_stride
unfolding row_words front_words back_words
row_length x = refl

pub front_length : (x : Row) → length (front_words x) ≡ 17
unfolding front_words
front_length x = refl

-- ---- back

-- ---- entries

pub point_back : (x : Point) → PointFits x → point_of (point_words x) ≡ x
unfolding point_of point_words
point_back x f = rw (mod-eq_of_lt f.position, cents_back x.height f.height)

pub text_back : (x : Text) → TextFits x → text_of (text_words x) ≡ x
unfolding text_of text_words
text_back x f = rw (mod-eq_of_lt f.range.start, mod-eq_of_lt f.range.end)

pub member_back : (x : Member) → MemberFits x → member_of (member_words x) ≡ x
unfolding member_of member_words
member_back x f =
    rw (mod-eq_of_lt f.key, flag_back x.flat, position_back x.position f.position, flag_back x.ghosted, flag_back x.ties.end, flag_back x.ties.start, finger_back x.finger)

pub bar_back : (x : Bar) → BarFits x → bar_of (bar_words x) ≡ x
unfolding bar_of bar_words time_of changes_of repeats_of
bar_back x f =
    rw (mod-eq_of_lt f.numerator, mod-eq_of_lt f.denominator, key_back x.key f.key, flag_back x.changed.time, flag_back x.changed.key, flag_back x.repeats.start, flag_back x.repeats.end, flag_back x.repeats.double)
    (rw (ending_back x.ending f.ending, passes_back x.passes f.passes, ending_place_back x.place, mod-eq_of_lt f.marker.start, mod-eq_of_lt f.marker.end, direction_back x.direction, tempo_back x.tempo f.tempo))

pub track_back : (x : Track) → TrackFits x → track_of (track_words x) ≡ x
unfolding track_of track_words tunings_of
track_back x f =
    let t = f.tunings in
    rw (mod-eq_of_lt f.name.start, mod-eq_of_lt f.name.end, mod-eq_of_lt t.strings, mod-eq_of_lt t.first, mod-eq_of_lt t.second, mod-eq_of_lt t.third, mod-eq_of_lt t.fourth, mod-eq_of_lt t.fifth)
    (rw (mod-eq_of_lt t.sixth, mod-eq_of_lt t.seventh, mod-eq_of_lt f.capo, flag_back x.percussion, flag_back x.tablature, clef_back x.clef, mod-eq_of_lt f.channel, program_back x.program f.program))

pub row_back : (x : Row) → RowFits x → row_of (row_words x) ≡ x
unfolding row_of row_words front_words back_words place_of value_of playing_of articulations_of expression_of ottava_marks_of
row_back x f =
    let a = x.expression.articulations in
    rw (row_kind_back x.kind, flag_back x.rest, duration_back x.value.duration, flag_back x.value.dot, tuplet_back x.value.tuplet f.tuplet)
    (rw (technique_text_back x.playing.text, technique_back x.playing.technique, height_back x.playing.height f.height)
    (rw (dynamic_back x.expression.dynamic, mod-eq_of_lt f.count, div-add-mod' a.digits 4294967296, arpeggio_back x.expression.arpeggio, note_head_back x.expression.head)
    (rw (ottava_back x.ottava.start, flag_back x.ottava.end, mod-eq_of_lt f.chord.start, mod-eq_of_lt f.chord.end, finger_back x.finger, mod-eq_of_lt f.beat.start, mod-eq_of_lt f.beat.end))))

-- ---- entries of a table

at_is : {A : Type 0} (of : List ℕ → A) (e w : List ℕ) (x : A) → e ≡ w → 0 < length w → of w ≡ x → pick (eqb (length e) 0) None (Some (of e)) ≡ Some x
at_is of e w x p l q = rw (p, ne_eqb (length w) 0 (omega arith), q)

-- a bar that was stored, and bar p of a table that shows bars
module _ (t : List ℕ) where
  pub bar_shown : (es : List Bar) (p : ℕ) (d : Bar) → length es * bar_stride ≤ length t → p < length es → BarFits (get_or es p d) → bar_at (over t (words bar_words es)) p ≡ Some (get_or es p d)
  unfolding entry_at
  bar_shown es p d r h f = at_is bar_of _ _ (get_or es p d) (entry_is bar_words bar_stride bar_length t es p d r h) (omega (arith, bar_length (get_or es p d))) (bar_back (get_or es p d) f)

-- a track that was stored, and track p of a table that shows tracks
module _ (t : List ℕ) where
  pub track_shown : (es : List Track) (p : ℕ) (d : Track) → length es * track_stride ≤ length t → p < length es → TrackFits (get_or es p d) → track_at (over t (words track_words es)) p ≡ Some (get_or es p d)
  unfolding entry_at
  track_shown es p d r h f = at_is track_of _ _ (get_or es p d) (entry_is track_words track_stride track_length t es p d r h) (omega (arith, track_length (get_or es p d))) (track_back (get_or es p d) f)

-- a row that was stored, and row p of a table that shows rows
module _ (t : List ℕ) where
  pub row_stored : (i : ℕ) (x : Row) → i * row_stride + row_stride ≤ length t → RowFits x → row_at (sets t (i * row_stride) (row_words x)) i ≡ Some x
  unfolding entry_at
  row_stored i x h f = at_is row_of _ _ x (entry_stored (row_words x) t i row_stride (row_length x) h) (omega (arith, row_length x)) (row_back x f)

  pub row_shown : (es : List Row) (p : ℕ) (d : Row) → length es * row_stride ≤ length t → p < length es → RowFits (get_or es p d) → row_at (over t (words row_words es)) p ≡ Some (get_or es p d)
  unfolding entry_at
  row_shown es p d r h f = at_is row_of _ _ (get_or es p d) (entry_is row_words row_stride row_length t es p d r h) (omega (arith, row_length (get_or es p d))) (row_back (get_or es p d) f)

-- a member that was stored, and member p of a table that shows members
module _ (t : List ℕ) where
  pub member_shown : (es : List Member) (p : ℕ) (d : Member) → length es * member_stride ≤ length t → p < length es → MemberFits (get_or es p d) → member_at (over t (words member_words es)) p ≡ Some (get_or es p d)
  unfolding entry_at
  member_shown es p d r h f = at_is member_of _ _ (get_or es p d) (entry_is member_words member_stride member_length t es p d r h) (omega (arith, member_length (get_or es p d))) (member_back (get_or es p d) f)

-- a point that was stored, and point p of a table that shows points
module _ (t : List ℕ) where
  pub point_shown : (es : List Point) (p : ℕ) (d : Point) → length es * point_stride ≤ length t → p < length es → PointFits (get_or es p d) → point_at (over t (words point_words es)) p ≡ Some (get_or es p d)
  unfolding entry_at
  point_shown es p d r h f = at_is point_of _ _ (get_or es p d) (entry_is point_words point_stride point_length t es p d r h) (omega (arith, point_length (get_or es p d))) (point_back (get_or es p d) f)

-- a text that was stored, and text p of a table that shows texts
module _ (t : List ℕ) where
  pub text_shown : (es : List Text) (p : ℕ) (d : Text) → length es * text_stride ≤ length t → p < length es → TextFits (get_or es p d) → text_at (over t (words text_words es)) p ≡ Some (get_or es p d)
  unfolding entry_at
  text_shown es p d r h f = at_is text_of _ _ (get_or es p d) (entry_is text_words text_stride text_length t es p d r h) (omega (arith, text_length (get_or es p d))) (text_back (get_or es p d) f)
