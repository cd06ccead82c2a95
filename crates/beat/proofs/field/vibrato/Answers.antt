-- By its byte.
use Rattle.format.specs.Prog.{has}
use Rattle.beat.specs.Effects.{effects_of}
use Rattle.beat.specs.Words.{effects_in, effects_with}
use Rattle.beat.proofs.field.vibrato.Goals as goal

pub returns : goal.returns
unfolding has effects_of effects_in effects_with
returns c =
    rw c.byte_of-flags.ensures
