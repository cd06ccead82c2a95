-- What is left of the notices.
use borrow.Author.Rules.{rules}
use Rattle.format.proofs.Rules.{turning, looping}
use Rattle.song.specs.Info.{notices}
use Rattle.song.proofs.info.notices_at.Goals as goal

pub returns-in_err-n : goal.returns-in_err-n
unfolding notices
returns-in_err-n c =
    search looping depth 8 fits 4000

pub loop-i-init : goal.loop-i-init
unfolding notices
loop-i-init c =
    (search rules, search turning)

pub returns-in_err-at : goal.returns-in_err-at
unfolding notices
returns-in_err-at c =
    search looping depth 8 fits 4000

pub loop-i-preserved : goal.loop-i-preserved
unfolding notices
loop-i-preserved c =
    (search rules, search looping)

pub returns : goal.returns
unfolding notices
returns c =
    search looping depth 8 fits 4000
