-- What the words of the tables show of the lists of entries: while headers, while tracks and while beats are added.
use Rattle.std.specs.Prelude.{None, Option, Some}
use Prim.Native.Nat.{ℕ, ◌+◌, ◌*◌, ◌≤◌, ◌<◌}
use mathlib.Core.Path.{◌≡◌}
use mathlib.Core.List.{List}
use lib.ListN.{length}
use Rattle.entries.proofs.Fits.{BarFits}
use Rattle.entries.specs.Words.{bar_stride, row_stride, member_stride, point_stride, text_stride}
use Rattle.score.specs.declared.Hammer.{Hammer}
use Rattle.score.specs.declared.OttavaRun.{OttavaRun}
use Rattle.score.specs.declared.Part.{Part}
use Rattle.score.specs.declared.Voice.{Voice}
use Rattle.score.specs.File.{Opening}
use Rattle.score.specs.Page.{bars, tracks, rows, members, points, texts, parts, Heads, Staves, Walk}
use Rattle.score.specs.Score.{Lists}
use Rattle.words.specs.Lent.{Lent}
use Rattle.words.specs.Words.{Words}
use Rattle.refine.proofs.All.{All}
use Rattle.refine.proofs.Counts.{UpTo}
use Rattle.refine.proofs.Ops.{TextHeld}
use Rattle.refine.proofs.Parts.{PartFits}
use Rattle.refine.proofs.Shown.{shown}

-- ---- a voice that remembers no row and no member, and one whose numbers are of rows and members that are there

pub record FreshVoice (v : Voice) : Type 0 where
  pub hammer : v.hammer ≡ None
  pub last : v.last ≡ record { first = 0; count = 0 }
  pub run : v.run ≡ None

pub record FreshPart (p : Part) : Type 0 where
  pub first : FreshVoice p.first
  pub second : FreshVoice p.second

abbrev pub HammerWithin : ℕ → Option Hammer → Type 0
HammerWithin bound None = Unit {0}
HammerWithin bound (Some w) = w.row < bound

abbrev pub RunWithin : ℕ → Option OttavaRun → Type 0
RunWithin bound None = Unit {0}
RunWithin bound (Some o) = o.row < bound

pub record VoiceWithin (rows members : ℕ) (v : Voice) : Type 0 where
  pub hammer : HammerWithin rows v.hammer
  pub run : RunWithin rows v.run
  pub last : v.last.first + v.last.count ≤ members

pub record PartWithin (rows members : ℕ) (p : Part) : Type 0 where
  pub first : VoiceWithin rows members p.first
  pub second : VoiceWithin rows members p.second

-- ---- the states: x on lists, y on words, of a file s that is read up to `at`

module _ (s : List ℕ) (t : Lent) where
  pub record HeadsShown (b : ℕ) (x : Heads Lists) (y : Heads Words) (at : ℕ) : Type 0 where
    pub number : length x.bars ≡ b
    pub bars : y.bars ≡ shown bars t.bars x.bars
    pub before : y.before ≡ x.before
    -- the first header has no header before it, so none to go on from
    pub first : b ≡ 0 → x.before.ending ≡ 0
    pub losses : y.losses ≡ x.losses
    pub few : All (UpTo (64 * at + 64)) x.losses
    pub fits : All BarFits x.bars

  pub record StavesShown (n : ℕ) (x : Staves Lists) (y : Staves Words) (at : ℕ) : Type 0 where
    pub tracks_number : length x.tracks ≡ n
    pub parts_number : length x.parts ≡ n
    pub tracks : y.tracks ≡ shown tracks t.tracks x.tracks
    pub parts : y.parts ≡ shown parts t.parts x.parts
    pub part_fits : All PartFits x.parts
    pub fresh : All FreshPart x.parts
    pub losses : y.losses ≡ x.losses
    pub few : All (UpTo (64 * at + 64)) x.losses

  -- the entries kept so far have room; points and texts, the rooms that they are said to need
  pub record Room (x : Walk Lists) : Type 0 where
    pub bars : length x.bars * bar_stride ≤ length t.bars
    pub rows : length x.rows * row_stride ≤ length t.rows
    pub members : length x.members * member_stride ≤ length t.members
    pub points : x.tally.point_room * point_stride ≤ length t.points
    pub texts : x.tally.text_room * text_stride ≤ length t.texts

  pub record TablesShown (x : Walk Lists) (y : Walk Words) : Type 0 where
    pub bars : y.bars ≡ shown bars t.bars x.bars
    pub rows : y.rows ≡ shown rows t.rows x.rows
    pub members : y.members ≡ shown members t.members x.members
    pub points : y.points ≡ shown points t.points x.points
    pub texts : y.texts ≡ shown texts t.texts x.texts
    pub texts_number : y.tally.texts ≡ x.tally.texts
    pub flat : y.tally.flat ≡ x.tally.flat

  -- a table that is short may be loaded wrongly (flat preference, ties, repeated texts), so the tables are shown only
  -- where there is room; no number, memory, room or loss depends on them
  pub record WalkShown (g : Opening) (x : Walk Lists) (y : Walk Words) (at : ℕ) : Type 0 where
    pub bars_number : length x.bars ≡ g.counts.bars
    pub parts_number : length x.parts ≡ g.counts.tracks
    pub parts : y.parts ≡ shown parts t.parts x.parts
    pub part_fits : All PartFits x.parts
    pub within : All (PartWithin (length x.rows) (length x.members)) x.parts
    pub kept : y.tally.kept ≡ x.tally.kept
    pub rows_number : x.tally.kept.rows ≡ length x.rows
    pub members_number : x.tally.kept.members ≡ length x.members
    pub points_number : x.tally.kept.points ≡ length x.points
    pub texts_number : x.tally.texts ≡ length x.texts
    pub text_room : y.tally.text_room ≡ x.tally.text_room
    pub point_room : y.tally.point_room ≡ x.tally.point_room
    pub losses : y.tally.losses ≡ x.tally.losses
    pub few : All (UpTo (64 * at + 64)) x.tally.losses
    pub rows_bound : length x.rows ≤ 2 * at
    pub members_bound : length x.members ≤ 14 * at
    pub points_bound : length x.points ≤ x.tally.point_room
    pub point_room_bound : x.tally.point_room ≤ at
    pub texts_bound : length x.texts ≤ x.tally.text_room
    pub text_room_bound : x.tally.text_room ≤ at
    pub texts_held : All (TextHeld s) x.texts
    pub bars_fit : All BarFits x.bars
    pub tables : Room x → TablesShown x y
