-- What is left of the templates.
use borrow.Author.Rules.{rules}
use Rattle.format.proofs.Rules.{turning}
use Rattle.song.specs.Setup.{templates}
use Rattle.song.proofs.setup.templates_at.Goals as goal

pub loop-i-init : goal.loop-i-init
unfolding templates
loop-i-init c =
    (search rules, search turning)

pub loop-i-preserved : goal.loop-i-preserved
unfolding templates
loop-i-preserved c =
    (search rules, search turning)

pub returns : goal.returns
unfolding templates
returns c =
    search turning
