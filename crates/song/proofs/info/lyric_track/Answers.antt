-- By the two tests.
use borrow.Author.Tests.{le-leb, lt-leb, eq-eqb, ne_eqb}
use Rattle.song.specs.Info.{lyric_track}
use Rattle.song.proofs.info.lyric_track.Goals as goal

pub returns-then-v-ge-NEGATIVE : goal.returns-then-v-ge-NEGATIVE
unfolding lyric_track
returns-then-v-ge-NEGATIVE c =
    simp (le-leb _ _ c.if-v-ge-NEGATIVE.true)

pub returns-then-v-eq0 : goal.returns-then-v-eq0
unfolding lyric_track
returns-then-v-eq0 c =
    simp (lt-leb _ _ c.if-v-ge-NEGATIVE.false, eq-eqb _ _ c.if-v-eq0.true)

pub returns : goal.returns
unfolding lyric_track
returns c =
    simp (lt-leb _ _ c.if-v-ge-NEGATIVE.false, ne_eqb _ _ c.if-v-eq0.false, c.less_one.ensures)
