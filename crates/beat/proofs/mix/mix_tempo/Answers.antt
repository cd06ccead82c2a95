-- One field after another.
use mathlib.Core.Path.{refl}
use Rattle.format.proofs.Rules.{later, fails, took, stop_is}
use Rattle.beat.specs.Mix.{mix_tempo}
use Rattle.beat.proofs.Filled.{mix_tempo_read, stores_stop}
use Rattle.beat.proofs.mix.mix_tempo.Goals as goal

pub returns-in_err-tempo : goal.returns-in_err-tempo
unfolding mix_tempo
returns-in_err-tempo c =
    stores_stop (later _ c.tempo_name_past.ensures (fails _ c.in_err-tempo.ensures)) (stop_is c.from_residual.ensures)

pub returns : goal.returns
returns c =
    let t = took c.in_ok-tempo.ensures refl in search mix_tempo_read
