-- Words hold the rows that a beat gives, their members and their points.
use Rattle.std.specs.Prelude.{None, Option, Some}
use Prim.Native.Nat.{ℕ, ◌-◌, ◌≤◌, ◌<◌}
use native.Mathlib.Omega.{arith}
use mathlib.Core.Bool.{Bool, ◌&&◌}
use mathlib.Core.List.{List, [], ◌∷◌, map}
use Rattle.format.specs.Text.{pick}
use Rattle.model.specs.declared.Member.{Member}
use Rattle.model.specs.declared.OttavaMarks.{OttavaMarks}
use Rattle.model.specs.declared.RowPlace.{RowPlace}
use Rattle.model.specs.declared.Row.{Row}
use Rattle.model.specs.declared.Span.{Span}
use Rattle.model.proofs.Fits.{TupletFits, PositionFits}
use Rattle.entries.proofs.Fits.{RangeFits, RowFits, MemberFits, PointFits}
use Rattle.beat.specs.Beat.{BeatIs}
use Rattle.score.specs.declared.Fretboard.{Fretboard}
use Rattle.score.specs.declared.Hammer.{Hammer}
use Rattle.score.specs.declared.KeptCounts.{KeptCounts}
use Rattle.score.specs.declared.OttavaRun.{OttavaRun}
use Rattle.score.proofs.Facts.{GraceFits, marks_few}
use Rattle.score.specs.Members.{Keyed, position_of, member_of, Graced, graced_after, graces, grace_member}
use Rattle.score.specs.Rows.{RowIs, played, no_play, rest_row, chord_row}
use Rattle.score.specs.Rows.{grace_row, grace_rows, beat_row, rows_of}
use Rattle.score.specs.Page as Page
use Rattle.score.specs.Page.{Rowing, fingered, marked, row_entry, pulls, first_key, hammer_after, under, same_kind}
use Rattle.score.specs.Page.{ottava_marks, turn_hammer, turn_run, start_ties, keep_row, keep_rows}
use Rattle.score.specs.Score.{Lists, lists}
use Rattle.refine.proofs.All.{All, all_append, all_more}
use Rattle.refine.proofs.Heard.{KeyedFits}
use Rattle.refine.proofs.Keeps.{pull_off_fits, carry_on_fits, start_tie_fits}
use Rattle.refine.proofs.Parts.{HammerFits, VoiceFits, BoardFits}
use Rattle.refine.proofs.Shown.{pick_both, add_all_is}
use Rattle.theorems.proofs.FitPoints.{curve_fits, height_fits}
use Rattle.note.specs.declared.marks.Grace.{Grace}

pub record RowHeld (r : RowIs) : Type 0 where
  pub tuplet : TupletFits r.value.tuplet
  pub members : All MemberFits r.members
  pub curve : All PointFits r.curve
  pub count : r.articulations.count < 256
  pub chord : RangeFits r.chord
  pub beat : RangeFits r.beat

-- ---- members

module _ (board : Fretboard) (fits : BoardFits board) (flat : Bool) (room : ℕ) where
  position_fits : (string fret : ℕ) → string < board.strings.count → fret < 256
      → PositionFits (position_of board string fret)
  position_fits string fret h k =
      pick_both PositionFits board.tablature (Some (record { string = board.strings.count - string; fret = fret })) None
      (omega (arith, fits.count)) tt

  members_fit : (xs : List Keyed) → All (KeyedFits board room) xs → All MemberFits (map (member_of board flat) xs)
  unfolding member_of
  members_fit [] q = tt
  members_fit (x ∷ xs) q = (
    record {
      key = q.0.key;
      position = position_fits x.sound.string x.sound.fret q.0.sound.string q.0.sound.fret;
    },
    members_fit xs q.1,
  )

  record GracedFits (g : Graced) : Type 0 where
    string : g.note.sound.string < board.strings.count
    fret : g.grace.fret ≤ 99

  graces_fit : (xs : List Keyed) → All (KeyedFits board room) xs → All GracedFits (graces xs)
  graces_fit [] q = tt
  graces_fit (x ∷ xs) q = go x.sound.note.read.effects.grace q.0.sound.note.grace (graces_fit xs q.1)
    where
      go : (g : Option Grace) → GraceFits g → All GracedFits (graces xs) → All GracedFits (graced_after g x (graces xs))
      go None f h = h
      go (Some g) f h = (record { string = q.0.sound.string; fret = f }, h)

  grace_members_fit : (gs : List Graced) → All GracedFits gs → All MemberFits (map (grace_member board flat) gs)
  unfolding grace_member
  grace_members_fit [] q = tt
  grace_members_fit (g ∷ gs) q = (
    record {
      key = omega arith;
      position = position_fits g.note.sound.string g.grace.fret q.0.string (omega (arith, q.0.fret));
    },
    grace_members_fit gs q.1,
  )

  -- ---- rows

  module _ (place : RowPlace) (running : ℕ) (b : BeatIs) (tuplet : TupletFits b.head.tuplet)
      (chord : RangeFits b.chord.range) (range : RangeFits b.range) where
    beat_row_held : (xs : List Keyed) → All (KeyedFits board room) xs → RowHeld (beat_row place board flat running b xs)
    unfolding rest_row chord_row
    beat_row_held [] q = record { tuplet = tuplet; members = tt; curve = tt; count = omega arith; chord = chord; beat = range }
    beat_row_held (x ∷ xs) q =
        record {
          tuplet = tuplet;
          members = members_fit (x ∷ xs) q;
          curve = curve_fits (played no_play (x ∷ xs)).bend;
          count = marks_few b.effects (x ∷ xs);
          chord = chord;
          beat = range;
        }

    grace_rows_held : (gs : List Graced) → All GracedFits gs → All RowHeld (grace_rows place board flat b.range gs)
    unfolding grace_row
    grace_rows_held [] q = tt
    grace_rows_held (g ∷ gs) q = (
      record {
        tuplet = tt;
        members = grace_members_fit (g ∷ gs) q;
        curve = tt;
        count = omega arith;
        chord = record { start = omega arith; end = omega arith };
        beat = range;
      },
      tt,
    )

    pub rows_held : (xs : List Keyed) → All (KeyedFits board room) xs
        → All RowHeld (rows_of place board flat running b xs)
    unfolding rows_of
    rows_held xs q =
        all_more RowHeld (grace_rows place board flat b.range (graces xs)) (beat_row place board flat running b xs)
        (grace_rows_held (graces xs) (graces_fit xs q)) (beat_row_held xs q)

-- ---- a row among those that are kept

pub record EntriesFit (w : Rowing Lists) : Type 0 where
  pub rows : All RowFits w.rows
  pub members : All MemberFits w.members
  pub points : All PointFits w.points
  pub voice : VoiceFits w.voice

entry_fits : (r : RowIs) (marks : OttavaMarks) (kept : KeptCounts) → RowHeld r → RowFits (row_entry r marks kept)
unfolding row_entry
entry_fits r marks kept f =
    record { tuplet = f.tuplet; height = height_fits r.curve f.curve; count = f.count; chord = f.chord; beat = f.beat }

hammer_keeps : (h : Option Hammer) (r : RowIs) (rs : List Row) → All RowFits rs → All RowFits (turn_hammer lists h r rs)
hammer_keeps None r rs f = f
hammer_keeps (Some w) r rs f =
    pick_both (All RowFits) (pulls r w.key) (lists.pull_off w.row rs) rs (pull_off_fits w.row rs f) f

run_keeps : (o : Option OttavaRun) (r : RowIs) (rs : List Row) → All RowFits rs → All RowFits (turn_run lists o r rs)
run_keeps None r rs f = f
run_keeps (Some o) r rs f =
    pick_both (All RowFits) (under r && same_kind r (Some o)) (lists.carry_on o.row rs) rs (carry_on_fits o.row rs f) f

ties_keep : (last : Span) (tied ms : List Member) → All MemberFits ms → All MemberFits (start_ties lists last tied ms)
ties_keep last [] ms f = f
ties_keep last (m ∷ tied) ms f =
    ties_keep last tied (pick m.ties.end (lists.start_tie last m ms) ms)
    (pick_both (All MemberFits) m.ties.end (lists.start_tie last m ms) ms (start_tie_fits m ms last f) f)

first_key_lem : (ms : List Member) → All MemberFits ms → first_key ms < 256
first_key_lem [] f = omega arith
first_key_lem (m ∷ ms) f = f.0.key

hammer_fits : (n : ℕ) (r : RowIs) → RowHeld r → HammerFits (hammer_after n r)
hammer_fits n r f =
    pick_both HammerFits (marked r.text) (Some (record { row = n; key = first_key r.members })) None
    (first_key_lem r.members f.members) tt

fingered_fit : (ms : List Member) → All MemberFits ms → All MemberFits (fingered ms)
fingered_fit [] f = tt
fingered_fit (m ∷ []) f = (record { key = f.0.key; position = f.0.position }, tt)
fingered_fit (m ∷ n ∷ ms) f = f

keep_row_fit : (r : RowIs) (w : Rowing Lists) → RowHeld r → EntriesFit w → EntriesFit (keep_row lists r w)
unfolding keep_row
keep_row_fit r w q f =
    let struck : List Row = turn_hammer lists w.voice.hammer r w.rows in
    let tied : List Member = start_ties lists w.voice.last r.members w.members in
    record {
      rows =
          all_more RowFits (turn_run lists w.voice.run r struck)
          (row_entry r (ottava_marks r w.voice.run) w.kept)
          (run_keeps w.voice.run r struck (hammer_keeps w.voice.hammer r w.rows f.rows))
          (entry_fits r _ w.kept q);
      members =
          rw (add_all_is Page.members w.kept.members (fingered r.members))
          (all_append MemberFits tied (fingered r.members)
          (ties_keep w.voice.last r.members w.members f.members) (fingered_fit r.members q.members));
      points =
          rw (add_all_is Page.points w.kept.points r.curve)
          (all_append PointFits w.points r.curve f.points q.curve);
      voice =
          record { strings = f.voice.strings; frets = f.voice.frets; hammer = hammer_fits w.kept.rows r q };
    }

pub keep_rows_fit : (rs : List RowIs) (w : Rowing Lists) → All RowHeld rs → EntriesFit w
    → EntriesFit (keep_rows lists rs w)
keep_rows_fit [] w q f = f
keep_rows_fit (r ∷ rs) w q f = keep_rows_fit rs (keep_row lists r w) q.1 (keep_row_fit r w q.0 f)
