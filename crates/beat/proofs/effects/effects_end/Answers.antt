-- One field after another.
use borrow.Author.Rules.{rules}
use Rattle.beat.proofs.Filled.{near_reached, end_stop, end_on}
use Rattle.beat.proofs.effects.effects_end.Goals as goal

pub returns-in_default : goal.returns-in_default
returns-in_default c =
    search end_stop

pub strokes_at-requires : goal.strokes_at-requires
strokes_at-requires c =
    search (near_reached, rules)

pub returns : goal.returns
returns c =
    search end_on
