-- How a pass begins.
use Rattle.std.specs.Prelude.{ℕ, false, List}
use Rattle.score.specs.declared.Before.{Before}
use Rattle.score.specs.declared.Tally.{Tally}
use Rattle.score.specs.Bars.{c_major}

abbrev pub before_bars : Before
before_bars = record { key = c_major; ending = 0 }

abbrev pub before_beats : List ℕ → Tally
before_beats losses =
    record { kept = record { rows = 0; members = 0; points = 0 }; texts = 0; text_room = 0; point_room = 0; flat = false; losses = losses }
