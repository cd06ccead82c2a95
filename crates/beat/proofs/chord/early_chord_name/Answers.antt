-- One field after another.
use Rattle.format.proofs.Rules.{returning}
use Rattle.beat.specs.Chord.{early_chord}
use Rattle.beat.proofs.chord.early_chord_name.Goals as goal

pub returns-in_err-form : goal.returns-in_err-form
unfolding early_chord
returns-in_err-form c =
    search returning depth 8 fits 4000

pub returns-then-form-eq0 : goal.returns-then-form-eq0
unfolding early_chord
returns-then-form-eq0 c =
    search returning depth 8 fits 4000

pub returns-then-v-ge400 : goal.returns-then-v-ge400
unfolding early_chord
returns-then-v-ge400 c =
    search returning depth 8 fits 4000

pub returns : goal.returns
unfolding early_chord
returns c =
    search returning depth 8 fits 4000
