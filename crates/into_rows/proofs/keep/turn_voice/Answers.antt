-- Thing by thing.
use Rattle.words.specs.Voices.{voice_in}
use Rattle.into_rows.proofs.Drawing.{voice_kept}
use Rattle.into_rows.proofs.keep.turn_voice.Goals as goal

pub returns : goal.returns
returns c =
    λ ms ps sums. let a = c.args in
    voice_kept ms ps a.draft a.company a.kept (voice_in a.voice.now) sums c.span_of-own.ensures
    (rw c.last.ensures at c.last_after-last.ensures)
    (rw c.run.ensures at c.run_after-run.ensures)
    (c.hammer_after.ensures ms ps sums)
    c.put_last.ensures c.put_run.ensures c.put_hammer.ensures
