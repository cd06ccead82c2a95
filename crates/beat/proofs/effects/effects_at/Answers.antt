-- One field after another.
use borrow.Author.Rules.{rules}
use Rattle.format.proofs.Rules.{come_set, fails, stop_is}
use Rattle.beat.specs.Effects.{beat_effects}
use Rattle.beat.proofs.Filled.{near_byte, effects_none, stores_stop, effects_on}
use Rattle.beat.proofs.effects.effects_at.Goals as goal

pub returns-then-flags-eq0 : goal.returns-then-flags-eq0
returns-then-flags-eq0 c =
    search effects_none

pub returns-in_err-first : goal.returns-in_err-first
unfolding beat_effects
returns-in_err-first c =
    stores_stop (come_set _ _ _ _ c.if-flags-eq0.false (fails _ c.in_err-first.ensures)) (stop_is c.from_residual.ensures)

pub effects_end-requires : goal.effects_end-requires
effects_end-requires c =
    let g = c.in_ok-first.ensures in search (near_byte, rules)

pub returns : goal.returns
returns c =
    let g = c.in_ok-first.ensures in search effects_on
