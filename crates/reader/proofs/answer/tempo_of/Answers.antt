-- By cases.
use Rattle.reader.proofs.answer.tempo_of.Goals as goal

pub returns-in-Some : goal.returns-in-Some
returns-in-Some c =
    cc
