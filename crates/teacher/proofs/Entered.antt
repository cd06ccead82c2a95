-- No tied note of a kept beat is lost: it is a member that ends a tie, in the row of its beat.
use Prim.Native.Nat.{ℕ, suc, ◌<◌}
use native.Mathlib.Omega.{arith}
use mathlib.Core.Path.{◌≡◌, refl, sym, ap, ◌∙◌}
use mathlib.Core.Bool.{Bool, true, false}
use mathlib.Core.List.{List, [], ◌∷◌, ◌++◌, map, reverse, append_assoc, reverse_aux-append}
use mathlib.Core.Logic.{inl, inr}
use lib.ListN.{length, get_or, take, length-append, length-map, get_or-map}
use lib.Seq.{take-append_seam, get_or-append_seam}
use Rattle.model.specs.declared.Row.{Row}
use Rattle.model.specs.declared.Span.{Span}
use Rattle.score.specs.Reading.{Score}
use Rattle.score.specs.Score.{no_member}
use Rattle.score.specs.Sounding.{sounds, note_at}
use Rattle.told.specs.Told.{TrackTold, BeatTold, Event, enters, plays}
use Rattle.teacher.specs.Teacher.{board_in, last_read_in, Seen, seen, SeenRow, in_span, seen_row, page, beat_rows, beats_kept}
use Rattle.teacher.specs.Teacher.{ReadAfter, member_at, row_at, TieEntered}
use Rattle.teacher.proofs.Rows.{Within}
use Rattle.teacher.proofs.Walk.{graces_read, chord_read, rows_read, page_of, page_more, page_same, Walked}
use Rattle.teacher.proofs.Notes.{tie_takes, fret_in, Somewhere, IsString, string_seen, string_somewhere}
use Rattle.teacher.proofs.Counted.{beats_before}
use Rattle.teacher.proofs.Finished.{many_seen, member_seen, row_within}

-- ---- where something is
record Found {A : Type 0} (P : A → Type 0) (es : List A) (d : A) : Type 0 where
  at : ℕ
  inside : at < length es
  is : P (get_or es at d)

find : {A : Type 0} (P : A → Type 0) (es : List A) (d : A) → Somewhere P es → Found P es d
find P [] d w = absurd w
find P (a ∷ es) d (inl p) = record { at = 0; inside = omega arith; is = p }
find P (a ∷ es) d (inr w) =
    let f = find P es d w in
    record { at = suc f.at; inside = omega (arith, f.inside); is = f.is }

module _ (tracks : List TrackTold) (b : BeatTold) (earlier : List Event) (kept : b.beat.head.kept ≡ true) where
  -- ---- the row of the beat on the page, whatever was read later
  abbrev above : List SeenRow
  above = page_of tracks earlier ++ graces_read tracks b earlier

  record Later (later : List Event) : Type 0 where
    rows : List SeenRow
    is : page_of tracks (later ++ (plays b ∷ earlier)) ≡ above ++ (chord_read tracks b earlier ∷ rows)

  page_later : (later : List Event) → Later later
  page_later [] =
      record {
        rows = [];
        is = page_more tracks b earlier kept ∙ sym (append_assoc (page_of tracks earlier) (graces_read tracks b earlier) _);
      }
  page_later (enters bar ∷ later) = record { rows = (page_later later).rows; is = (page_later later).is }
  page_later (plays c ∷ later) = go c.beat.head.kept refl (page_later later)
    where
      go : (t : Bool) → c.beat.head.kept ≡ t → Later later → Later (plays c ∷ later)
      go true e f =
          let more : List SeenRow = rows_read tracks c (later ++ (plays b ∷ earlier)) in
          record {
            rows = f.rows ++ more;
            is =
                page_more tracks c (later ++ (plays b ∷ earlier)) e
                ∙ ap (λ (l : List SeenRow). l ++ more) f.is
                ∙ append_assoc above (chord_read tracks b earlier ∷ f.rows) more;
          }
      go false e f =
          record { rows = f.rows; is = page_same tracks c (later ++ (plays b ∷ earlier)) e ∙ f.is }

  -- ---- in the finished tables
  module _ (events : List Event) (x : Score) (walked : Walked tracks events x.bars) (read : ReadAfter events b earlier)
      (d : Row) where
    abbrev row : ℕ
    row = length above

    abbrev members : List Seen
    members = map seen x.bars.members

    page_is : page x.bars.rows x.bars.members
        ≡ above ++ (chord_read tracks b earlier ∷ (page_later read.later).rows)
    page_is = walked.stands.seen ∙ ap (page_of tracks) read.is ∙ (page_later read.later).is

    row_there : row < length x.bars.rows
    row_there =
        let many : length (page x.bars.rows x.bars.members) ≡ length x.bars.rows =
        length-map x.bars.rows (seen_row members) in
        let more = length-append above (chord_read tracks b earlier ∷ (page_later read.later).rows) in
        omega (arith, many, more, ap length page_is)

    row_is : seen_row members (row_at x row d) ≡ chord_read tracks b earlier
    row_is =
        sym (get_or-map (seen_row members) x.bars.rows row d)
        ∙ ap (λ (l : List SeenRow). get_or l row (seen_row members d)) page_is
        ∙ get_or-append_seam above (chord_read tracks b earlier) (page_later read.later).rows (seen_row members d)

    row_number : beat_rows (reverse (take row (page x.bars.rows x.bars.members))) ≡ beats_kept earlier
    row_number =
        rw (page_is, take-append_seam above (chord_read tracks b earlier ∷ (page_later read.later).rows))
        (ap beat_rows (reverse_aux-append (page_of tracks earlier) (graces_read tracks b earlier) [])
        ∙ beats_before tracks b earlier)

    abbrev span : Span
    span = (row_at x row d).members

    inside : Within (length x.bars.members) (row_at x row d)
    inside = row_within tracks events x walked row d row_there

    members_are : in_span members span ≡ (chord_read tracks b earlier).members
    members_are = ap (λ (r : SeenRow). r.members) row_is

    -- ---- the note of a string that sounds
    module _ (i : ℕ) (seven : i < 7) (on : sounds (board_in tracks b.track) b.beat i ≡ true)
        (tie : (note_at b.beat i).read.tie ≡ true) where
      abbrev own : Seen
      own = string_seen tracks b earlier i seven on

      found : Found (IsString tracks b earlier i seven on) (chord_read tracks b earlier).members (seen no_member)
      found = find _ (chord_read tracks b earlier).members (seen no_member) (string_somewhere tracks b earlier i seven on)

      among : found.at < span.count
      among =
          omega (arith, found.inside, ap length members_are, many_seen x.bars.members span inside)

      member_is : seen (member_at x (row_at x row d) found.at) ≡ own
      member_is =
          sym (member_seen x.bars.members span inside found.at among)
          ∙ ap (λ (l : List Seen). get_or l found.at (seen no_member)) members_are
          ∙ found.is

      pub tie_entered : TieEntered x tracks b earlier i d
      tie_entered =
          record {
            row = row;
            there = row_there;
            place = ap (λ (r : SeenRow). r.place) row_is;
            number = row_number;
            member = found.at;
            among = among;
            ends = ap (λ (m : Seen). m.tied) member_is ∙ tie;
            fret = fret_in tracks b earlier i;
            last = tie_takes (last_read_in tracks b.track b.voice i earlier) (note_at b.beat i).read tie;
            position = ap (λ (m : Seen). m.position) member_is;
            key = ap (λ (m : Seen). m.key) member_is;
          }
