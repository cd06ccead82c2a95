-- Word by word.
use Rattle.format.specs.Prog.{has}
use Rattle.beat.specs.Words.{beat_in}
use Rattle.draft.specs.Chord.{chord_in}
use Rattle.into_rows.proofs.Straight.{plain_stored}
use Rattle.into_rows.proofs.plain.store_plain.Goals as goal

pub returns : goal.returns
unfolding has
returns c =
    λ s v board flat sums. let a = c.args in
    plain_stored a.place board flat a.mark (beat_in s v a.b.now a.notes.now) a.rows.now
    (chord_in s v a.notes.now a.chord.now) a.kept c.store_words-2.ensures c.store_words.ensures c.start_of-at.ensures sums c.span_of-own.ensures c.flag_word.ensures
    (rw c.duration.ensures at c.from.ensures)
    (rw c.flags.ensures at c.flag_word-2.ensures)
    (rw c.tuplet-tuplet.ensures at c.actual_word.ensures)
    (rw c.tuplet-tuplet.ensures at c.normal_word.ensures)
    c.mark_word.ensures
    (rw (c.head_of-head.ensures s v) at c.from-2.ensures)
    c.from-3.ensures
    (rw c.range-range.ensures at c.low.ensures)
    (rw c.range-range.ensures at c.low-2.ensures)
