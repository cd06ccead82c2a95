-- One field after another.
use Rattle.format.proofs.Rules.{reading}
use Rattle.beat.specs.Chord.{old_frets}
use Rattle.beat.proofs.chord.old_frets_past.Goals as goal

pub returns-then-first-ge-NEGATIVE : goal.returns-then-first-ge-NEGATIVE
unfolding old_frets
returns-then-first-ge-NEGATIVE c =
    search reading

pub returns-then-first-eq0 : goal.returns-then-first-eq0
unfolding old_frets
returns-then-first-eq0 c =
    search reading

pub returns-then-v-ge406 : goal.returns-then-v-ge406
unfolding old_frets
returns-then-v-ge406 c =
    search reading

pub returns : goal.returns
unfolding old_frets
returns c =
    search reading
