-- By the test.
use borrow.Author.Tests.{eq-eqb, ne_eqb}
use Rattle.song.specs.Info.{composer_of}
use Rattle.song.proofs.info.composer_of.Goals as goal

pub returns-then-music-eq0 : goal.returns-then-music-eq0
unfolding composer_of
returns-then-music-eq0 c =
    simp (eq-eqb c.args.music.end 0 c.if-music-eq0.true)

pub returns : goal.returns
unfolding composer_of
returns c =
    simp (ne_eqb c.args.music.end 0 c.if-music-eq0.false)
