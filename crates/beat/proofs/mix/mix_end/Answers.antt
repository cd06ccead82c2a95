-- One field after another.
use borrow.Author.Rules.{rules}
use mathlib.Core.Path.{refl}
use Rattle.format.proofs.Rules.{later, fails, took, stop_is}
use Rattle.beat.specs.Mix.{mix_end, mix_flags}
use Rattle.beat.proofs.Filled.{mix_end_read, stores_stop}
use Rattle.beat.proofs.mix.mix_end.Goals as goal

pub returns-in_err-wah : goal.returns-in_err-wah
unfolding mix_end mix_flags
returns-in_err-wah c =
    stores_stop (later _ c.tempo_end-at.ensures (later _ c.skip_if.ensures (fails _ c.in_err-wah.ensures))) (stop_is c.from_residual.ensures)

pub returns : goal.returns
returns c =
    let g = took c.in_ok-wah.ensures refl in search (mix_end_read, rules)
