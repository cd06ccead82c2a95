-- Both bytes, or none.
use Rattle.beat.proofs.Filled.{brush_none, brush_some}
use Rattle.beat.proofs.effects.brush_at.Goals as goal

pub returns-then-flags-eq0 : goal.returns-then-flags-eq0
returns-then-flags-eq0 c =
    λ v. search brush_none

pub returns : goal.returns
returns c =
    λ v. search brush_some
