-- The entries that a table gives back as they were stored: every entry that a reading can give is one of them. Numbers that stand as
-- they are in a word (bar, track, voice, places and counts of other entries) may be any.
use Prim.Native.Nat.{◌<◌}
use mir.Syntax.{w16}
use mir.Val.{SFits}
use Rattle.format.specs.declared.Range.{Range}
use Rattle.model.specs.declared.Bar.{Bar}
use Rattle.model.specs.declared.Tunings.{Tunings}
use Rattle.model.specs.declared.Track.{Track}
use Rattle.model.specs.declared.Row.{Row}
use Rattle.model.specs.declared.Member.{Member}
use Rattle.model.specs.declared.Point.{Point}
use Rattle.model.specs.declared.Text.{Text}
use Rattle.model.proofs.Fits.{KeyFits, EndingFits, PassesFit, TempoFits, ProgramFits, TupletFits, HeightFits, PositionFits}

-- positions in a file that is read are at most 16,777,216
pub record RangeFits (r : Range) : Type 0 where
  pub start : r.start < 4294967296
  pub end : r.end < 4294967296

pub record BarFits (b : Bar) : Type 0 where
  pub numerator : b.time.numerator < 256
  pub denominator : b.time.denominator < 256
  pub key : KeyFits b.key
  pub ending : EndingFits b.ending
  pub passes : PassesFit b.passes
  pub marker : RangeFits b.marker
  pub tempo : TempoFits b.tempo

pub record TuningsFit (t : Tunings) : Type 0 where
  pub strings : t.strings < 256
  pub first : t.first < 256
  pub second : t.second < 256
  pub third : t.third < 256
  pub fourth : t.fourth < 256
  pub fifth : t.fifth < 256
  pub sixth : t.sixth < 256
  pub seventh : t.seventh < 256

pub record TrackFits (x : Track) : Type 0 where
  pub name : RangeFits x.name
  pub tunings : TuningsFit x.tunings
  pub capo : x.capo < 256
  pub channel : x.channel < 256
  pub program : ProgramFits x.program

pub record RowFits (r : Row) : Type 0 where
  pub tuplet : TupletFits r.value.tuplet
  pub height : HeightFits r.playing.height
  pub count : r.expression.articulations.count < 256
  pub chord : RangeFits r.chord
  pub beat : RangeFits r.beat

pub record MemberFits (m : Member) : Type 0 where
  pub key : m.key < 256
  pub position : PositionFits m.position

pub record PointFits (p : Point) : Type 0 where
  pub position : p.position.0 < 65536
  pub height : SFits w16 p.height.0

pub record TextFits (x : Text) : Type 0 where
  pub range : RangeFits x.range
