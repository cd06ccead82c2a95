use mathlib.Core.Path.{◌∙◌}
use Rattle.model.proofs.answers.add_loss.Goals as goal

pub returns : goal.returns
returns c =
    c.store.ensures ∙ rw (c.up-more.ensures, c.load.ensures, c.loss_number-n.ensures)
