-- The tables after a file was read: what stands past their entries, and what is handed out of these.
use Rattle.std.specs.Prelude.{Some}
use Prim.Native.Nat.{ℕ, ◌*◌, ◌/◌, ◌≤◌, ◌<◌}
use native.Mathlib.Omega.{arith}
use native.Mathlib.Nat.{le-div_iff_mul-le}
use mathlib.Core.Path.{◌≡◌, refl}
use mathlib.Core.Bool.{true, and-eq-true_iff}
use mathlib.Core.List.{List, [], ◌∷◌, map}
use borrow.Author.Tests.{leb-true}
use lib.Dec.{leb}
use lib.ListN.{length, get_or, drop, length-map, get_or-map}
use Rattle.tables.specs.Table.{over, words}
use Rattle.tables.proofs.Laws.{over_rest}
use Rattle.model.specs.declared.Bar.{Bar}
use Rattle.model.specs.declared.Member.{Member}
use Rattle.model.specs.declared.Point.{Point}
use Rattle.model.specs.declared.Row.{Row}
use Rattle.model.specs.declared.Sizes.{Sizes}
use Rattle.model.specs.declared.Track.{Track}
use Rattle.entries.proofs.Fits.{BarFits, TrackFits, RowFits, MemberFits, PointFits}
use Rattle.entries.specs.Words.{bar_stride, bar_words, bar_at, track_stride, track_words, track_at}
use Rattle.entries.specs.Words.{row_stride, row_words, row_at, member_stride, member_words, member_at}
use Rattle.entries.specs.Words.{point_stride, point_words, point_at, text_stride, text_words, text_at}
use Rattle.entries.proofs.Laws.{bar_length, track_length, row_length, member_length, point_length, text_length}
use Rattle.entries.proofs.Laws.{bar_shown, track_shown, row_shown, member_shown, point_shown, text_shown}
use Rattle.score.specs.Page.{TextIs}
use Rattle.score.specs.Reading.{Tables, Score, needed, entries, enough, text_entry, filled}
use Rattle.refine.proofs.All.{all_get}
use Rattle.theorems.proofs.FitWalk.{TextFit}
use Rattle.theorems.proofs.FitFile.{ScoreFits}

-- what stands past so many entries of each table is as it was
pub record Untouched (count : Sizes) (before after : Tables) : Type 0 where
  pub bars : drop (count.bars * bar_stride) after.bars ≡ drop (count.bars * bar_stride) before.bars
  pub tracks : drop (count.tracks * track_stride) after.tracks ≡ drop (count.tracks * track_stride) before.tracks
  pub rows : drop (count.rows * row_stride) after.rows ≡ drop (count.rows * row_stride) before.rows
  pub members : drop (count.members * member_stride) after.members
      ≡ drop (count.members * member_stride) before.members
  pub points : drop (count.points * point_stride) after.points ≡ drop (count.points * point_stride) before.points
  pub texts : drop (count.texts * text_stride) after.texts ≡ drop (count.texts * text_stride) before.texts

pub untouched : (count : Sizes) (t : Tables) → Untouched count t t
untouched count t = record { bars = refl; tracks = refl; rows = refl; members = refl; points = refl; texts = refl }

pub filled_past : (t : Tables) (x : Score) → Untouched (entries x) t (filled t x)
unfolding filled
filled_past t x =
    record {
      bars = over_rest bar_words bar_stride bar_length t.bars x.bars.bars;
      tracks = over_rest track_words track_stride track_length t.tracks x.tracks.tracks;
      rows = over_rest row_words row_stride row_length t.rows x.bars.rows;
      members = over_rest member_words member_stride member_length t.members x.bars.members;
      points = over_rest point_words point_stride point_length t.points x.bars.points;
      texts =
          over_rest (λ e. text_words (text_entry e)) text_stride (λ e. text_length (text_entry e)) t.texts
          x.bars.texts;
    }

-- ---- what the six functions of `entries` hand out: entry i of each table is the score's

pub record HandedOut (x : Score) (t : Tables) : Type 0 where
  pub bars : (i : ℕ) (none : Bar) → i < length x.bars.bars
      → bar_at t.bars i ≡ Some (get_or x.bars.bars i none)
  pub tracks : (i : ℕ) (none : Track) → i < length x.tracks.tracks
      → track_at t.tracks i ≡ Some (get_or x.tracks.tracks i none)
  pub rows : (i : ℕ) (none : Row) → i < length x.bars.rows
      → row_at t.rows i ≡ Some (get_or x.bars.rows i none)
  pub members : (i : ℕ) (none : Member) → i < length x.bars.members
      → member_at t.members i ≡ Some (get_or x.bars.members i none)
  pub points : (i : ℕ) (none : Point) → i < length x.bars.points
      → point_at t.points i ≡ Some (get_or x.bars.points i none)
  pub texts : (i : ℕ) (none : TextIs) → i < length x.bars.texts
      → text_at t.texts i ≡ Some (text_entry (get_or x.bars.texts i none))

text_words_lem : (es : List TextIs) → words (λ e. text_words (text_entry e)) es ≡ words text_words (map text_entry es)
text_words_lem [] = refl
text_words_lem (e ∷ es) = rw (text_words_lem es)

-- through the entries as they are handed out, without their bytes
text_handed : (t : List ℕ) (es : List TextIs) (i : ℕ) (none : TextIs) → length es * text_stride ≤ length t
    → i < length es → TextFit (get_or es i none)
    → text_at (over t (words (λ e. text_words (text_entry e)) es)) i ≡ Some (text_entry (get_or es i none))
text_handed t es i none r h f =
    let n : length (map text_entry es) ≡ length es = length-map es text_entry in
    let g : get_or (map text_entry es) i (text_entry none) ≡ text_entry (get_or es i none) =
    get_or-map text_entry es i none in
    rw (text_words_lem es, ← g)
    (text_shown t (map text_entry es) i (text_entry none) (rw n r) (rw n h) (rw g (record { range = f })))

room_there : (n K l : ℕ) → 0 < K → leb n (l / K) ≡ true → n * K ≤ l
room_there n K l p e = (le-div_iff_mul-le p).0 (leb-true n (l / K) e)

pub handed_out : (t : Tables) (x : Score) → enough (needed x) t ≡ true → ScoreFits x → HandedOut x (filled t x)
unfolding filled
handed_out t x room f =
    let a = (and-eq-true_iff _ _).0 room in
    let b = (and-eq-true_iff _ _).0 a.0 in
    let c = (and-eq-true_iff _ _).0 b.0 in
    let d = (and-eq-true_iff _ _).0 c.0 in
    let e = (and-eq-true_iff _ _).0 d.0 in
    let w = f.walk in
    let bars = room_there (length x.bars.bars) bar_stride (length t.bars) (omega arith) e.0 in
    let tracks = room_there (length x.tracks.tracks) track_stride (length t.tracks) (omega arith) e.1 in
    let rows = room_there (length x.bars.rows) row_stride (length t.rows) (omega arith) d.1 in
    let members = room_there (length x.bars.members) member_stride (length t.members) (omega arith) c.1 in
    let points = room_there x.bars.tally.point_room point_stride (length t.points) (omega arith) b.1 in
    let texts = room_there x.bars.tally.text_room text_stride (length t.texts) (omega arith) a.1 in
    let kept : length x.bars.points * point_stride ≤ length t.points = omega (arith, w.point_room) in
    let written : length x.bars.texts * text_stride ≤ length t.texts = omega (arith, w.text_room) in
    record {
      bars = λ i o h. bar_shown t.bars x.bars.bars i o bars h (all_get BarFits x.bars.bars i o w.bars h);
      tracks = λ i o h.
          track_shown t.tracks x.tracks.tracks i o tracks h
          (all_get TrackFits x.tracks.tracks i o f.tracks h);
      rows = λ i o h. row_shown t.rows x.bars.rows i o rows h (all_get RowFits x.bars.rows i o w.rows h);
      members = λ i o h.
          member_shown t.members x.bars.members i o members h
          (all_get MemberFits x.bars.members i o w.members h);
      points = λ i o h.
          point_shown t.points x.bars.points i o kept h (all_get PointFits x.bars.points i o w.points h);
      texts = λ i o h.
          text_handed t.texts x.bars.texts i o written h (all_get TextFit x.bars.texts i o w.texts h);
    }
