-- One field after another.
use borrow.Author.Rules.{rules}
use native.Mathlib.Omega.{arith}
use Rattle.format.specs.Prog.{has}
use Rattle.beat.proofs.Filled.{strokes_read}
use Rattle.beat.proofs.effects.strokes_at.Goals as goal

pub put_if-requires : goal.put_if-requires
unfolding has
put_if-requires c =
    (search rules, (omega (arith, (c.brush_at-at.ensures 0).near), search rules))

pub returns : goal.returns
unfolding has
returns c =
    search strokes_read
