-- The values of kinds that hold a number that words give back: every value that a reading can give is one of them. Where 0 stands for
-- absent, a value is above 0.
use Rattle.std.specs.Prelude.{None, Option, Some, ℕ}
use Prim.Native.Nat.{◌<◌}
use mir.Syntax.{w8, w16}
use mir.Val.{SFits}
use Rattle.model.specs.declared.Key.{Key}
use Rattle.model.specs.declared.Key.TheVariants.{NoKey, Fifths}
use Rattle.model.specs.declared.Tuplet.{Tuplet}
use Rattle.model.specs.declared.TabPosition.{TabPosition}
use Rattle.model.specs.declared.Cents.{Cents}

abbrev pub KeyFits : Key → Type 0
KeyFits NoKey = Unit {0}
KeyFits (Fifths z m) = SFits w8 z

abbrev pub EndingFits : Option ℕ → Type 0
EndingFits None = Unit {0}
EndingFits (Some n) = (0 < n) × (n < 256)

abbrev pub PassesFit : Option ℕ → Type 0
PassesFit None = Unit {0}
PassesFit (Some m) = (0 < m) × (m < 256)

abbrev pub TempoFits : Option ℕ → Type 0
TempoFits None = Unit {0}
TempoFits (Some n) = (0 < n) × (n < 65536)

abbrev pub ProgramFits : Option ℕ → Type 0
ProgramFits None = Unit {0}
ProgramFits (Some n) = n < 256

abbrev pub TupletFits : Option Tuplet → Type 0
TupletFits None = Unit {0}
TupletFits (Some ratio) = (0 < ratio.actual) × (ratio.actual < 256) × (ratio.normal < 256)

abbrev pub HeightFits : Option Cents → Type 0
HeightFits None = Unit {0}
HeightFits (Some c) = SFits w16 c.0

abbrev pub PositionFits : Option TabPosition → Type 0
PositionFits None = Unit {0}
PositionFits (Some at) = (0 < at.string) × (at.string < 256) × (at.fret < 256)
