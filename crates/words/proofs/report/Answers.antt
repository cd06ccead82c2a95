-- One more, as far as a word goes.
use mathlib.Core.Path.{◌∙◌}
use lib.ListN.{get_or}
use Rattle.model.specs.Answers.{loss_number}
use Rattle.words.specs.Reports.{reports}
use Rattle.words.proofs.Reports.{one_more_lem}
use borrow.Author.Rules.{rules}
use Rattle.words.proofs.report.Goals as goal

pub returns : goal.returns
unfolding reports
returns c =
    let a = c.args in
    c.add_loss.ensures ∙ rw (one_more_lem (get_or a.losses (loss_number a.loss) 0) (search rules))
