-- The field, where it stands.
use Rattle.format.proofs.Rules.{returning}
use Rattle.song.specs.Setup.{hide_tempo}
use Rattle.song.proofs.setup.hide_tempo_at.Goals as goal

pub returns-then-v-lt510 : goal.returns-then-v-lt510
unfolding hide_tempo
returns-then-v-lt510 c =
    search returning

pub returns : goal.returns
unfolding hide_tempo
returns c =
    search returning
