-- One field after another.
use Rattle.format.proofs.Rules.{returning}
use Rattle.beat.specs.Chord.{diagram}
use Rattle.beat.proofs.chord.diagram_name.Goals as goal

pub returns-in_err-name : goal.returns-in_err-name
unfolding diagram
returns-in_err-name c =
    search returning depth 8 fits 4000

pub returns-in_err-at : goal.returns-in_err-at
unfolding diagram
returns-in_err-at c =
    search returning depth 8 fits 4000

pub returns : goal.returns
unfolding diagram
returns c =
    search returning depth 8 fits 4000
