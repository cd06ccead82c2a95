-- A beat that is kept, or not.
use mathlib.Core.Path.{sym, ◌∙◌}
use Rattle.beat.specs.Words.{beat_in}
use Rattle.draft.specs.Chord.{chord_in}
use Rattle.into_losses.proofs.Counting.{kept_losses, unkept_losses}
use Rattle.into_losses.proofs.beat_losses.Goals as goal

pub returns-then-kept : goal.returns-then-kept
returns-then-kept c =
    λ s. let a = c.args in
    rw (c.building_losses.ensures s, c.reading_losses.ensures s)
    (kept_losses s (beat_in s a.v a.b.now a.notes.now) (chord_in s a.v a.notes.now a.chord.now) a.losses.now (sym c.kept.ensures ∙ c.if-kept.true))

pub returns-else-kept : goal.returns-else-kept
returns-else-kept c =
    λ s. let a = c.args in
    rw (c.reading_losses.ensures s)
    (unkept_losses s (beat_in s a.v a.b.now a.notes.now) (chord_in s a.v a.notes.now a.chord.now) a.losses.now (sym c.kept.ensures ∙ c.if-kept.false))
