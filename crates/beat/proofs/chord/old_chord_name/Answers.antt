-- One field after another.
use Rattle.format.proofs.Rules.{returning}
use Rattle.beat.specs.Chord.{old_chord}
use Rattle.beat.proofs.chord.old_chord_name.Goals as goal

pub returns-in_err-name : goal.returns-in_err-name
unfolding old_chord
returns-in_err-name c =
    search returning depth 8 fits 4000

pub returns-in_err-first : goal.returns-in_err-first
unfolding old_chord
returns-in_err-first c =
    search returning depth 8 fits 4000

pub returns-in_err-at : goal.returns-in_err-at
unfolding old_chord
returns-in_err-at c =
    search returning depth 8 fits 4000

pub returns : goal.returns
unfolding old_chord
returns c =
    search returning depth 8 fits 4000
