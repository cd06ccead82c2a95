-- The words of an ottava, case by case.
use Rattle.words.proofs.voice.run_words.Goals as goal

pub returns-in-Some : goal.returns-in-Some
returns-in-Some c =
    cc
