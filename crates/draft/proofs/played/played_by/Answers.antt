-- Effect by effect.
use Rattle.note.specs.Words.{start, note_in}
use Rattle.draft.proofs.Steps.{played_in_turn}
use Rattle.draft.proofs.played.played_by.Goals as goal

pub returns : goal.returns
returns c =
    λ s. let a = c.args in
    let n = note_in s a.v a.notes.now (start a.string) in
    let bent = rw c.bend.ensures at (c.with_bend-p.ensures s) in
    played_in_turn n _ _ _ _ _ (c.with_text-p.ensures s a.v) bent (c.with_hammer-p.ensures s a.v) (c.with_slide.ensures s)
