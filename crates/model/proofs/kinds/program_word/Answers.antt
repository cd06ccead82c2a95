-- The word of a kind, case by case.
use Rattle.model.proofs.kinds.program_word.Goals as goal

pub returns-in-Some : goal.returns-in-Some
returns-in-Some c =
    cc
