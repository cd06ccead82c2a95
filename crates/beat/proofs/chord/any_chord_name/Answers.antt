-- One field after another.
use Rattle.format.proofs.Rules.{returning}
use Rattle.beat.specs.Chord.{chord}
use Rattle.beat.proofs.chord.any_chord_name.Goals as goal

pub returns-then-v-ge500 : goal.returns-then-v-ge500
unfolding chord
returns-then-v-ge500 c =
    search returning

pub returns : goal.returns
unfolding chord
returns c =
    search returning
