-- What holds of every member of the page that the events make holds of the members in the finished tables.
use Prim.Native.Nat.{ℕ, ◌+◌, ◌≤◌, ◌<◌}
use native.Mathlib.Omega.{arith}
use mathlib.Core.Path.{◌≡◌, ◌∙◌}
use mathlib.Core.List.{List, [], map, reverse}
use lib.ListN.{length, get_or, take, drop, length-drop, length-map, get_or-map}
use lib.Seq.{get_or-take, get_or-drop, length-take-le}
use Rattle.model.specs.declared.Member.{Member}
use Rattle.model.specs.declared.RowPlace.{RowPlace}
use Rattle.model.specs.declared.Row.{Row}
use Rattle.model.specs.declared.Span.{Span}
use Rattle.score.specs.Reading.{Score}
use Rattle.score.specs.Score.{no_member}
use Rattle.refine.proofs.All.{All, all_get}
use Rattle.told.specs.Told.{TrackTold, Event}
use Rattle.teacher.specs.Teacher.{Seen, seen, SeenRow, in_span, seen_row, page, member_at, row_at}
use Rattle.teacher.proofs.Rows.{Within}
use Rattle.teacher.proofs.Walk.{page_of, Walked}
use Rattle.teacher.proofs.Before.{Each, each_at}

-- ---- a member of a row, seen on the page
module _ (ms : List Member) (span : Span) (inside : span.first + span.count ≤ length ms) where
  pub many_seen : length (in_span (map seen ms) span) ≡ span.count
  many_seen =
      length-take-le span.count (drop span.first (map seen ms))
      (rw (length-drop span.first (map seen ms), length-map ms seen) (omega arith))

  pub member_seen : (j : ℕ) → j < span.count
      → get_or (in_span (map seen ms) span) j (seen no_member) ≡ seen (get_or ms (span.first + j) no_member)
  member_seen j h =
      get_or-take span.count (drop span.first (map seen ms)) j (seen no_member) h
      ∙ get_or-drop span.first (map seen ms) j (seen no_member)
      ∙ get_or-map seen ms (span.first + j) no_member

pub row_within : (tracks : List TrackTold) (es : List Event) (x : Score) → Walked tracks es x.bars → (k : ℕ) (d : Row)
    → k < length x.bars.rows → Within (length x.bars.members) (row_at x k d)
row_within tracks es x walked k d h =
    all_get (Within (length x.bars.members)) x.bars.rows k d walked.stands.within h

-- ---- M speaks of a member by the rows before its own, the latest first, and by the place of its row
module _ (M : List SeenRow → RowPlace → Seen → Type 0) where
  abbrev pub RowHas : List SeenRow → SeenRow → Type 0
  RowHas before r = All (M before r.place) r.members

  module _ (tracks : List TrackTold) (es : List Event) (x : Score) (walked : Walked tracks es x.bars)
      (all : Each RowHas [] (page_of tracks es)) (k : ℕ) (d : Row) (h : k < length x.bars.rows) where
    abbrev shown : List SeenRow
    shown = page x.bars.rows x.bars.members

    row_has : RowHas (reverse (take k shown)) (seen_row (map seen x.bars.members) (row_at x k d))
    row_has =
        let f = seen_row (map seen x.bars.members) in
        let each : Each RowHas [] shown = rw walked.stands.seen all in
        rw (get_or-map f x.bars.rows k d) at
        (each_at RowHas [] shown k (f d) each (rw (length-map x.bars.rows f) h))

    pub member_has : (j : ℕ) → j < (row_at x k d).members.count
        → M (reverse (take k shown)) (row_at x k d).place (seen (member_at x (row_at x k d) j))
    member_has j i =
        let span : Span = (row_at x k d).members in
        let inside = row_within tracks es x walked k d h in
        rw (member_seen x.bars.members span inside j i) at
        (all_get (M (reverse (take k shown)) (row_at x k d).place) (in_span (map seen x.bars.members) span) j
        (seen no_member) row_has (rw (many_seen x.bars.members span inside) i))
