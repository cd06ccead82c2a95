-- Nothing, or the fret that the word says.
use Rattle.words.specs.Words.{fret_of}
use Rattle.words.proofs.Voices.{fret_kept}
use Rattle.words.proofs.voice.fret_word.Goals as goal

pub returns-then-word-eq0 : goal.returns-then-word-eq0
unfolding fret_of
returns-then-word-eq0 c =
    rw c.if-word-eq0.true

pub returns : goal.returns
unfolding fret_of
returns c =
    fret_kept _ c.if-word-eq0.false
