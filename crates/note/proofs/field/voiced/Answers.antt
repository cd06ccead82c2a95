-- By its accents and its effects.
use Rattle.note.specs.Words.{voiced_in}
use Rattle.note.proofs.Plain.{plain}
use Rattle.note.proofs.field.voiced.Goals as goal

pub returns : goal.returns
unfolding voiced_in
returns c =
    let light = c.accent.ensures in
    let heavy = c.heavy_accent.ensures in record { told = rw (light 0, heavy 0, c.effects.ensures.told); plain = λ v e. plain c.args.i (light v) (heavy v) (c.effects.ensures.none v) e }
