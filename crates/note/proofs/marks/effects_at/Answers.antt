-- One field after another.
use native.Mathlib.Omega.{arith}
use Rattle.format.proofs.Padded.{arrives_within}
use Rattle.note.proofs.Filled.{effects_none, effects_stop, effects_on}
use Rattle.note.proofs.marks.effects_at.Goals as goal

pub returns-then-flags-eq0 : goal.returns-then-flags-eq0
returns-then-flags-eq0 c =
    search effects_none

pub returns-in_default : goal.returns-in_default
returns-in_default c =
    search effects_stop

pub marks_at-requires : goal.marks_at-requires
marks_at-requires c =
    (omega (arith, arrives_within c.bend_at-next.ensures.reads c.in-Ok.is, c.well_formed.0.1), omega (arith, c.requires.1))

pub returns : goal.returns
returns c =
    search effects_on
