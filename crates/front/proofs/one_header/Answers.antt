-- A header is read, then added.
use mathlib.Core.Path.{refl}
use Rattle.format.proofs.Rules.{then, took, place_exit, fails}
use Rattle.words.proofs.Places.{done_as}
use Rattle.front.proofs.one_header.Goals as goal

pub returns-in_err-header : goal.returns-in_err-header
returns-in_err-header c =
    place_exit c.branch-header.ensures c.in_err-header.is c.from_residual.ensures (fails _ c.in_err-header.ensures)

pub returns : goal.returns
returns c =
    then _ (took c.in_ok-header.ensures refl) (done_as (λ i. record { time = c.in_ok-header.header.time; state = c.add_header-headed.ensures i }))
