-- Note by note.
use borrow.Author.Rules.{rules}
use native.Mathlib.Omega.{arith}
use Prim.Native.Nat.{ℕ}
use mathlib.Core.List.{List}
use mathlib.Core.Path.{◌≡◌, ◌∙◌}
use mathlib.Core.Bool.{false}
use lib.ListN.{drop_of_length-le}
use Rattle.draft.specs.Chord.{chord_in}
use Rattle.model.specs.Marks.{added_in}
use Rattle.beat.specs.Words.{effects_in}
use Rattle.note.specs.Points.{points_at}
use Rattle.note.specs.Words.{start, note_in, read_in}
use Rattle.score.specs.Rows as rule
use Rattle.draft.specs.Steps.{played_in, played_by, add_marks, beat_harmonic}
use Rattle.draft.proofs.Steps.{marks_packed}
use Rattle.draft.proofs.Walks.{next_played, next_marks}
use Rattle.draft.proofs.Quiet.{not_played, accents_only, neither}
use Rattle.draft.proofs.voicing.voiced_by.Goals as goal
use Rattle.draft.proofs.voicing.voiced_by.Goals.{then-effects-harmonic, else-effects-harmonic}

pub loop-struck-init : goal.loop-struck-init
unfolding chord_in points_at
loop-struck-init c =
    let a = c.args in (
      λ s. search rules,
      λ s. rw c.none_added-m.ensures
          (marks_packed (effects_in a.v a.b.now) (chord_in s a.v a.notes.now a.chord.now)),
    )

pub loop-struck-preserved : goal.loop-struck-preserved
unfolding chord_in points_at
loop-struck-preserved c =
    let l = c.loop-struck in
    let x = c.beat_harmonic-harmonic in
    let y = c.effects in
    let a = c.args in
    let e = effects_in a.v a.b.now in
    let string = c.string_of-string.result in
    let one : ((s : List ℕ) → played_in s c.if-effects-harmonic.played ≡ played_by (note_in s a.v a.notes.now (start string)) (played_in s l.played))
    × (added_in c.if-effects-harmonic.m ≡ add_marks (added_in l.m) (rule.note_marks e (read_in a.v a.notes.now string))) =
    elim c.if-effects-harmonic.branch [
      | then-effects-harmonic w ↦ (λ s. rw w.played-is (w.played_by-played.ensures s), rw w.m-is w.with_note-m.ensures)
      | else-effects-harmonic w ↦
          let no = neither y.result x.result w.if-effects-harmonic.false in
          let plain : beat_harmonic e ≡ false = rw x.ensures at no.1 in
          let bare = y.ensures.none a.v no.0 in (
            λ s. rw w.played-is (not_played a.v a.notes.now bare s (played_in s l.played)),
            rw (w.m-is, accents_only a.v a.notes.now bare e plain) (w.with_accent-m.ensures a.v),
          )
    ] in (
      λ s. next_played s a.v a.notes.now a.chord.now l.struck-index (omega arith) c.string_of-string.ensures.0 (played_in s l.played)
          (one.0 s) ∙ l.invariant.0 s,
      λ s. next_marks s a.v a.notes.now a.chord.now l.struck-index (omega arith) c.string_of-string.ensures.0 e (added_in l.m)
          one.1 ∙ l.invariant.1 s,
    )

pub returns : goal.returns
unfolding chord_in points_at
returns c =
    let l = c.loop-struck in
    let end = drop_of_length-le c.args.chord.now {i = l.struck-index} (omega arith) in
    record { played = λ s. rw end at (l.invariant.0 s); marks = λ s. rw end at (l.invariant.1 s) }
