-- One field after another.
use mathlib.Core.Path.{refl}
use Rattle.format.proofs.Rules.{next, later, fails, took, stop_is}
use Rattle.beat.specs.Mix.{mix_table, mix_sound}
use Rattle.beat.proofs.Filled.{mix_table_read, stores_stop}
use Rattle.beat.proofs.mix.mix_table.Goals as goal

pub returns-in_err-instrument : goal.returns-in_err-instrument
unfolding mix_table
returns-in_err-instrument c =
    stores_stop (fails _ c.in_err-instrument.ensures) (stop_is c.from_residual.ensures)

pub returns-in_err-x : goal.returns-in_err-x
unfolding mix_table mix_sound
returns-in_err-x c =
    stores_stop (next _ c.in_ok-instrument.ensures (later _ c.skip_if.ensures (fails _ c.in_err-x.ensures))) (stop_is c.from_residual-in_err-x.ensures)

pub returns-in_err-y : goal.returns-in_err-y
unfolding mix_table mix_sound
returns-in_err-y c =
    stores_stop (next _ c.in_ok-instrument.ensures (later _ c.skip_if.ensures (next _ c.in_ok-x.ensures (fails _ c.in_err-y.ensures)))) (stop_is c.from_residual-in_err-y.ensures)

pub returns : goal.returns
returns c =
    let i = took c.in_ok-instrument.ensures refl in let x = took c.in_ok-x.ensures refl in let y = took c.in_ok-y.ensures refl in search mix_table_read
