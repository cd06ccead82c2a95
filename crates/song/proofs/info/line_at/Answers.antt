-- A number and a text.
use Rattle.format.proofs.Rules.{returning}
use Rattle.song.specs.Info.{lyric_line}
use Rattle.song.proofs.info.line_at.Goals as goal

pub returns-in_err-start : goal.returns-in_err-start
unfolding lyric_line
returns-in_err-start c =
    search returning depth 8 fits 4000

pub returns-in_err-text : goal.returns-in_err-text
unfolding lyric_line
returns-in_err-text c =
    search returning depth 8 fits 4000

pub returns : goal.returns
unfolding lyric_line
returns c =
    rw c.less_one-start.ensures (search returning depth 8 fits 4000)
