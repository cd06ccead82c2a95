-- Whether a grace is a loss.
use Rattle.std.specs.Prelude.{Bool, false, None, Option, Some}
use Rattle.note.specs.declared.marks.Grace.{Grace}

abbrev pub on_beat : Option Grace → Bool
on_beat None = false
on_beat (Some g) = g.on_beat
