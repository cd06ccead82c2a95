-- By its range.
use mathlib.Core.Path.{ap}
use mathlib.Core.Bool.{Bool, ◌&&◌}
use Rattle.note.specs.Words.{byte_in}
use Rattle.beat.specs.Words.{FLAGS, head_in, text_range}
use Rattle.into_losses.proofs.Sums.{text_there}
use Rattle.into_losses.proofs.rooms.has_text.Goals as goal

pub returns : goal.returns
returns c =
    λ v w. let a = c.args in
    let r = text_range (byte_in a.b.now FLAGS) a.b.now in
    rw (c.kept.ensures, c.text-text.ensures)
    (ap (λ (t : Bool). (head_in a.b.now).kept && t) (text_there r.start r.end a.s.now))
