-- The word of a kind, case by case.
use Rattle.model.proofs.kinds.height_word.Goals as goal

pub returns-in-Peak : goal.returns-in-Peak
returns-in-Peak c =
    cc
