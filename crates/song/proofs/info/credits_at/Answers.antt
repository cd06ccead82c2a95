-- One text after another.
use Rattle.format.proofs.Rules.{returning, coming, read_exit, next}
use Rattle.song.specs.Info.{credits}
use Rattle.song.proofs.info.credits_at.Goals as goal

pub returns-in_err-lyricist : goal.returns-in_err-lyricist
unfolding credits
returns-in_err-lyricist c =
    search returning depth 8 fits 4000

pub returns-in_err-music : goal.returns-in_err-music
unfolding credits
returns-in_err-music c =
    search returning depth 8 fits 4000

pub returns-in_err-copyright : goal.returns-in_err-copyright
unfolding credits
returns-in_err-copyright c =
    search returning depth 8 fits 4000

pub returns-in_err-at : goal.returns-in_err-at
unfolding credits
returns-in_err-at c =
    read_exit c.branch-at.ensures c.in_err-at.is c.from_residual-in_err-at.ensures (next _ c.in_ok-lyricist.ensures (next _ c.in_ok-music.ensures (next _ c.in_ok-copyright.ensures (search coming))))

pub returns : goal.returns
unfolding credits
returns c =
    rw c.composer_of.ensures (search returning depth 8 fits 4000)
