-- The track and the lines, where they stand.
use Rattle.format.proofs.Rules.{returning, read_last, from_then, come_le, next, handed_on}
use Rattle.song.specs.Info.{lyrics}
use Rattle.song.proofs.info.lyrics_at.Goals as goal

pub returns-in_err-at : goal.returns-in_err-at
unfolding lyrics
returns-in_err-at c =
    search returning depth 8 fits 4000

pub returns-in_err-track : goal.returns-in_err-track
unfolding lyrics
returns-in_err-track c =
    search returning depth 8 fits 4000

pub returns-then-v-lt400 : goal.returns-then-v-lt400
unfolding lyrics
returns-then-v-lt400 c =
    rw c.no_lyrics.ensures (search returning)

pub returns : goal.returns
unfolding lyrics
returns c =
    read_last (from_then c.branch-at.ensures c.in_ok-at.is (come_le _ _ _ _ c.if-v-lt400.false (next _ c.in_ok-track.ensures (handed_on (rw c.lyric_track.ensures at c.five_lines_at.ensures)))))
