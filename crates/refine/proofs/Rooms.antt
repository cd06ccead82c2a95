-- The rooms that a file needs of the lent tables and the entries that are kept, by what is counted on the way; and that
-- the rooms are there.
use Prim.Native.Nat.{ℕ, ◌*◌, ◌/◌, ◌≤◌, ◌<◌}
use mathlib.Core.Path.{◌≡◌, ap, sym, ◌∙◌}
use mathlib.Core.Bool.{true, and-eq-true_iff}
use mathlib.Core.List.{List}
use native.Mathlib.Omega.{arith}
use native.Mathlib.Nat.{le-div_iff_mul-le}
use borrow.Author.Tests.{leb-true}
use lib.Dec.{leb}
use lib.ListN.{length}
use Rattle.entries.specs.Words.{bar_stride, row_stride, member_stride, point_stride, text_stride}
use Rattle.score.specs.declared.KeptCounts.{KeptCounts}
use Rattle.score.specs.File.{Whole}
use Rattle.score.proofs.Follow.{Agreed}
use Rattle.score.specs.Page.{Staves, Walk}
use Rattle.score.specs.Reading.{Tables, Score, needed, entries, enough}
use Rattle.words.specs.Left.{sizes, needed_by, entries_by}
use Rattle.words.specs.Lent.{Lent}
use Rattle.words.specs.Words.{Words}
use Rattle.refine.proofs.Alike.{Room}
use Rattle.refine.proofs.Fit.{shows}

-- a file that was read to its end, on words
abbrev pub WordScore : Type 0
WordScore = Whole (Staves Words) (Walk Words)

-- what the caller lent, without the reader's own parts
abbrev pub tables_of : Lent → Tables
tables_of t =
    record {
      bars = t.bars;
      tracks = t.tracks;
      rows = t.rows;
      members = t.members;
      points = t.points;
      texts = t.texts;
    }

same_sizes : {a b c d e f g h i j k l : ℕ} → a ≡ g → b ≡ h → c ≡ i → d ≡ j → e ≡ k → f ≡ l
    → sizes a b c d e f ≡ sizes g h i j k l
same_sizes o p q r s t = λ z. sizes (o z) (p z) (q z) (r z) (s z) (t z)

module _ (s : List ℕ) (t : Lent) (x : Score) (y : WordScore) (n : ℕ) (r : Agreed s (shows s t) x y n) where
  -- the rooms needed are the same whether they are there or not
  pub needed_shown : needed_by y.song.counts y.bars.tally ≡ needed x
  needed_shown =
      rw (sym r.song) (same_sizes (sym r.bars.bars_number) (sym r.tracks.tracks_number)
      (ap (λ (k : KeptCounts). k.rows) r.bars.kept ∙ r.bars.rows_number)
      (ap (λ (k : KeptCounts). k.members) r.bars.kept ∙ r.bars.members_number)
      r.bars.point_room r.bars.text_room)

  -- the entries kept, where they are there
  pub entries_shown : Room s t x.bars → entries_by y.song.counts y.bars.tally ≡ entries x
  entries_shown m =
      rw (sym r.song) (same_sizes (sym r.bars.bars_number) (sym r.tracks.tracks_number)
      (ap (λ (k : KeptCounts). k.rows) r.bars.kept ∙ r.bars.rows_number)
      (ap (λ (k : KeptCounts). k.members) r.bars.kept ∙ r.bars.members_number)
      (ap (λ (k : KeptCounts). k.points) r.bars.kept ∙ r.bars.points_number)
      ((r.bars.tables m).texts_number ∙ r.bars.texts_number))

-- ---- room in whole entries is room in words

room_there : (n K l : ℕ) → 0 < K → leb n (l / K) ≡ true → n * K ≤ l
room_there n K l p e = (le-div_iff_mul-le p).0 (leb-true n (l / K) e)

module _ (s : List ℕ) (t : Lent) (x : Score) where
  pub enough_room : enough (needed x) (tables_of t) ≡ true → Room s t x.bars
  enough_room h =
      let a = (and-eq-true_iff _ _).0 h in
      let b = (and-eq-true_iff _ _).0 a.0 in
      let c = (and-eq-true_iff _ _).0 b.0 in
      let d = (and-eq-true_iff _ _).0 c.0 in
      let e = (and-eq-true_iff _ _).0 d.0 in
      record {
        bars = room_there (length x.bars.bars) bar_stride (length t.bars) (omega arith) e.0;
        rows = room_there (length x.bars.rows) row_stride (length t.rows) (omega arith) d.1;
        members = room_there (length x.bars.members) member_stride (length t.members) (omega arith) c.1;
        points = room_there x.bars.tally.point_room point_stride (length t.points) (omega arith) b.1;
        texts = room_there x.bars.tally.text_room text_stride (length t.texts) (omega arith) a.1;
      }
