-- The rows that a beat gives: at most two, of at most seven members each, with a curve within the beat's room for
-- points. The flat preference decides nothing in them but the flats of their members.
use Prim.Native.Nat.{ℕ, ◌+◌, ◌≤◌, ◌<◌}
use mathlib.Core.Path.{◌≡◌, refl, sym, ◌∙◌}
use mathlib.Core.Bool.{Bool, ◌&&◌}
use mathlib.Core.List.{List, [], ◌∷◌, ◌++◌, map}
use native.Mathlib.Omega.{arith}
use lib.ListN.{length, length-map}
use Rattle.model.specs.declared.Member.{Member}
use Rattle.model.specs.declared.RowPlace.{RowPlace}
use Rattle.model.specs.declared.Point.{Point}
use Rattle.curve.specs.Bend.{finish, point_of}
use Rattle.curve.proofs.Laws.{finish_room}
use Rattle.note.specs.declared.marks.NoteEffects.{NoteEffects}
use Rattle.note.specs.Points.{BendPoint}
use Rattle.beat.specs.Beat.{BeatIs}
use Rattle.score.specs.declared.Fretboard.{Fretboard}
use Rattle.score.specs.Members.{Keyed, position_of, member_of, Graced, graces, grace_member}
use Rattle.score.specs.Rows.{RowIs, note_of, Played, none_yet, with_text, bent, with_bend, with_hammer, with_slide}
use Rattle.score.specs.Rows.{played_with, played, no_play, curve_of, rest_row, chord_row, grace_row, grace_rows, beat_row}
use Rattle.score.specs.Rows.{rows_of}
use Rattle.score.specs.Page.{first_key, bend_room}
use Rattle.refine.proofs.All.{All}
use Rattle.refine.proofs.Heard.{KeyedFits, length-graces, graces_all, Noted}
use Rattle.refine.proofs.Ops.{OnString}
use Rattle.refine.proofs.Shown.{pick_both}

abbrev pub Stringed : Member → Type 0
Stringed m = OnString m.position

pub record RowFit (r : RowIs) : Type 0 where
  pub key : first_key r.members < 256
  pub strings : All Stringed r.members

-- the members and the points of rows
abbrev pub members_in : List RowIs → ℕ
members_in [] = 0
members_in (r ∷ rs) = length r.members + members_in rs

abbrev pub points_in : List RowIs → ℕ
points_in [] = 0
points_in (r ∷ rs) = length r.curve + points_in rs

pub record RowsFit (room : ℕ) (rs : List RowIs) : Type 0 where
  pub rows : length rs ≤ 2
  pub members : members_in rs ≤ 14
  pub points : points_in rs ≤ room
  pub each : All RowFit rs

-- rows that differ in the flats of their members at the most
pub record AlikeRow (r q : RowIs) : Type 0 where
  pub kind : q.kind ≡ r.kind
  pub rest : q.rest ≡ r.rest
  pub text : q.text ≡ r.text
  pub ottava : q.ottava ≡ r.ottava
  pub curve : length q.curve ≡ length r.curve
  pub members : length q.members ≡ length r.members
  pub key : first_key q.members ≡ first_key r.members

pub alike_self : (r : RowIs) → AlikeRow r r
alike_self r =
    record { kind = refl; rest = refl; text = refl; ottava = refl; curve = refl; members = refl; key = refl }

abbrev pub AlikeRows : List RowIs → List RowIs → Type 0
AlikeRows [] [] = Unit {0}
AlikeRows [] (q ∷ qs) = ⊥
AlikeRows (r ∷ rs) [] = ⊥
AlikeRows (r ∷ rs) (q ∷ qs) = AlikeRow r q × AlikeRows rs qs

-- ---- the curve: of no points, or of the bend of one of the notes

abbrev to_point : BendPoint → Point
to_point p = point_of p.offset p.value

curve_within : (ps : List BendPoint) → length (curve_of ps) ≤ bend_room ps
unfolding finish
curve_within [] = omega arith
curve_within (p ∷ ps) = omega (arith, finish_room (map to_point (p ∷ ps)), length-map ps to_point)

module _ (room : ℕ) where
  abbrev BendFits : Played → Type 0
  BendFits p = bend_room p.bend ≤ room

  with_bend_fits : (points : List BendPoint) (p : Played) → bend_room points ≤ room → BendFits p
      → BendFits (with_bend points p)
  with_bend_fits points p h f = pick_both BendFits (bent points && none_yet p.technique) _ p h f

  with_hammer_fits : (e : NoteEffects) (p : Played) → BendFits p → BendFits (with_hammer e p)
  with_hammer_fits e p f = pick_both BendFits (e.hammer && none_yet p.technique) _ p f f

  with_slide_fits : (e : NoteEffects) (p : Played) → BendFits p → BendFits (with_slide e p)
  with_slide_fits e p f = pick_both BendFits (e.slide.slide && none_yet p.technique) _ p f f

  played_with_fits : (p : Played) (x : Keyed) → bend_room x.sound.note.bend ≤ room → BendFits p
      → BendFits (played_with p x)
  unfolding played_with
  played_with_fits p x h f =
      let e : NoteEffects = (note_of x).effects in
      let ringing : Played = with_text e p in
      let bending : Played = with_bend x.sound.note.bend ringing in
      with_slide_fits e (with_hammer e bending)
      (with_hammer_fits e bending (with_bend_fits x.sound.note.bend ringing h f))

  played_fits : (board : Fretboard) (p : Played) (xs : List Keyed) → All (KeyedFits board room) xs → BendFits p
      → BendFits (played p xs)
  played_fits board p [] q f = f
  played_fits board p (x ∷ xs) q f =
      played_fits board (played_with p x) xs q.1 (played_with_fits p x q.0.sound.bend f)

-- ---- the members

position_on : (board : Fretboard) (string fret : ℕ) → string < board.strings.count
    → OnString (position_of board string fret)
position_on board string fret h = pick_both OnString board.tablature _ _ (omega arith) tt

module _ (board : Fretboard) (flat : Bool) (room : ℕ) where
  members_on : (xs : List Keyed) → All (KeyedFits board room) xs → All Stringed (map (member_of board flat) xs)
  unfolding member_of
  members_on [] q = tt
  members_on (x ∷ xs) q =
      (position_on board x.sound.string x.sound.fret q.0.sound.string, members_on xs q.1)

  graces_on : (gs : List Graced) → All (Noted (KeyedFits board room)) gs
      → All Stringed (map (grace_member board flat) gs)
  unfolding grace_member
  graces_on [] q = tt
  graces_on (g ∷ gs) q =
      (position_on board g.note.sound.string g.grace.fret q.0.sound.string, graces_on gs q.1)

-- ---- the rows

module _ (place : RowPlace) (board : Fretboard) (flat : Bool) (running : ℕ) (b : BeatIs) (room : ℕ) where
  beat_row_fit : (xs : List Keyed) → All (KeyedFits board room) xs → RowFit (beat_row place board flat running b xs)
  unfolding rest_row chord_row member_of
  beat_row_fit [] q = record { key = omega arith; strings = tt }
  beat_row_fit (x ∷ xs) q = record { key = q.0.key; strings = members_on board flat room (x ∷ xs) q }

  beat_row_points : (xs : List Keyed) → All (KeyedFits board room) xs
      → length (beat_row place board flat running b xs).curve ≤ room
  unfolding rest_row chord_row
  beat_row_points [] q = omega arith
  beat_row_points (x ∷ xs) q =
      omega (arith, curve_within (played no_play (x ∷ xs)).bend, played_fits room board no_play (x ∷ xs) q (omega arith))

  beat_row_members : (xs : List Keyed) → length (beat_row place board flat running b xs).members ≡ length xs
  unfolding rest_row chord_row
  beat_row_members [] = refl
  beat_row_members (x ∷ xs) = length-map (x ∷ xs) (member_of board flat)

  grace_rows_fit : (gs : List Graced) → All (Noted (KeyedFits board room)) gs → length gs ≤ 7
      → (r : RowIs) → RowFit r → length r.members ≤ 7 → length r.curve ≤ room
      → RowsFit room (grace_rows place board flat b.range gs ++ (r ∷ []))
  unfolding grace_row grace_member
  grace_rows_fit [] q h r f m c =
      record { rows = omega arith; members = omega arith; points = omega arith; each = (f, tt) }
  grace_rows_fit (g ∷ gs) q h r f m c =
      record {
        rows = omega arith;
        members = omega (arith, length-map gs (grace_member board flat));
        points = omega arith;
        each = (record { key = omega arith; strings = graces_on board flat room (g ∷ gs) q }, (f, tt));
      }

  pub rows_fit : (xs : List Keyed) → All (KeyedFits board room) xs → length xs ≤ 7
      → RowsFit room (rows_of place board flat running b xs)
  unfolding rows_of
  rows_fit xs q h =
      grace_rows_fit (graces xs) (graces_all (KeyedFits board room) xs q) (omega (arith, length-graces xs))
      (beat_row place board flat running b xs) (beat_row_fit xs q) (omega (arith, beat_row_members xs))
      (beat_row_points xs q)

-- ---- with one flat preference and with another

module _ (place : RowPlace) (board : Fretboard) (f g : Bool) (running : ℕ) (b : BeatIs) where
  beat_alike : (xs : List Keyed) → AlikeRow (beat_row place board f running b xs) (beat_row place board g running b xs)
  unfolding rest_row chord_row member_of
  beat_alike [] = alike_self (rest_row place b)
  beat_alike (x ∷ xs) =
      record {
        kind = refl;
        rest = refl;
        text = refl;
        ottava = refl;
        curve = refl;
        members = length-map (x ∷ xs) (member_of board g) ∙ sym (length-map (x ∷ xs) (member_of board f));
        key = refl;
      }

  graces_alike : (gs : List Graced) (r q : RowIs) → AlikeRow r q
      → AlikeRows (grace_rows place board f b.range gs ++ (r ∷ [])) (grace_rows place board g b.range gs ++ (q ∷ []))
  unfolding grace_row grace_member
  graces_alike [] r q a = (a, tt)
  graces_alike (y ∷ gs) r q a = (
    record {
      kind = refl;
      rest = refl;
      text = refl;
      ottava = refl;
      curve = refl;
      members = length-map (y ∷ gs) (grace_member board g) ∙ sym (length-map (y ∷ gs) (grace_member board f));
      key = refl;
    },
    (a, tt),
  )

  pub rows_alike : (xs : List Keyed) → AlikeRows (rows_of place board f running b xs) (rows_of place board g running b xs)
  unfolding rows_of
  rows_alike xs = graces_alike (graces xs) _ _ (beat_alike xs)
