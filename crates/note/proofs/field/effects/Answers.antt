-- By its two bytes.
use Rattle.note.specs.Words.{effects_given}
use Rattle.note.proofs.Plain.{without_effects}
use Rattle.note.proofs.field.effects.Goals as goal

pub returns : goal.returns
unfolding effects_given
returns c =
    let a = c.args in record { told = rw (c.byte.ensures, c.byte-2.ensures); none = λ v e. without_effects a.i c.byte.ensures c.byte-2.ensures e }
