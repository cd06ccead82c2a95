use mathlib.Core.Path.{refl}
use Rattle.model.specs.Answers.{loss_words}
use Rattle.model.proofs.answers.loss_words.Goals as goal

pub returns : goal.returns
unfolding loss_words
returns c =
    refl
