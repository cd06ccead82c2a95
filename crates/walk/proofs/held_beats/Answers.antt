-- Beat by beat.
use native.Mathlib.Omega.{arith}
use mathlib.Core.Path.{refl, ◌∙◌}
use Rattle.score.specs.File.{one_beat}
use Rattle.walk.proofs.Held.{holding_starts, holding_on, holding_stops, holding_ends}
use Rattle.walk.proofs.Walks.{same_page, still_same}
use Rattle.walk.proofs.held_beats.Goals as goal

pub loop-init : goal.loop-init
loop-init c =
    (same_page, refl, refl, holding_starts _ _ _ _ _ _ _ _ _ _)

pub loop-preserved : goal.loop-preserved
unfolding one_beat
loop-preserved c =
    let kept = c.loop.invariant in
    let board = kept.2 in
    let beat = rw board at c.one_beat-at.ensures.beat in (
      still_same kept.0 c.one_beat-at.ensures.lent,
      c.one_beat-at.ensures.parts ∙ kept.1,
      c.one_beat-at.ensures.board ∙ board,
      holding_on _ _ _ _ _ _ _ _ _ _ kept.3 c.loop-test.true c.one_beat-at.ensures.byte beat,
    )

pub returns-in_default-clause-beats : goal.returns-in_default-clause-beats
unfolding one_beat
returns-in_default-clause-beats c =
    let kept = c.loop.invariant in
    let beat = rw kept.2 at c.one_beat-at.ensures.beat in
    λ parts some fits lent. holding_stops _ _ _ _ _ _ _ _ _ _ kept.3 c.loop-test.true beat c.in_default.is parts fits lent

pub returns-clause-beats : goal.returns-clause-beats
unfolding one_beat
returns-clause-beats c =
    λ parts some fits lent. holding_ends _ _ _ _ _ _ _ _ _ _ c.loop.invariant.3 (omega (arith, c.loop-test.false)) parts some fits lent
