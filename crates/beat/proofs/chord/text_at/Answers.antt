-- Given or not.
use mathlib.Core.Path.{refl}
use Rattle.format.proofs.Rules.{come_set, took, broke, stop_is}
use Rattle.beat.specs.Chord.{beat_text}
use Rattle.beat.proofs.Filled.{text_none, text_some, stores_stop}
use Rattle.beat.proofs.chord.text_at.Goals as goal

pub returns-then-flags-eq0 : goal.returns-then-flags-eq0
returns-then-flags-eq0 c =
    search text_none

pub returns-in_err-range : goal.returns-in_err-range
unfolding beat_text
returns-in_err-range c =
    stores_stop (come_set _ _ _ _ c.if-flags-eq0.false (broke c.in_err-range.ensures refl)) (stop_is c.from_residual.ensures)

pub returns : goal.returns
returns c =
    let r = took c.in_ok-range.ensures refl in search text_some
