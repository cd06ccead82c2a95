-- The word of a kind, case by case.
use mathlib.Core.Path.{◌≡◌, ap, ◌∙◌}
use mir.Syntax.{w8, w32}
use mir.Val.{SFits}
use mir.Facts.{to_z-of_z, sfits_widen}
use Rattle.bin.specs.Signed.{unsigned}
use Rattle.model.specs.declared.Key.TheVariants.{Fifths}
use borrow.Author.Rules.{rules}
use Rattle.model.proofs.kinds.fifths_word.Goals as goal

pub overflow_cast-n : goal.overflow_cast-n
overflow_cast-n c =
    let f : SFits w8 c.in-Fifths.n = search rules in rw (to_z-of_z f) (sfits_widen tt f)

pub returns-in-Fifths : goal.returns-in-Fifths
returns-in-Fifths c =
    let f : SFits w8 c.in-Fifths.n = search rules in
    let k : c.args.x ≡ Fifths c.in-Fifths.n c.in-Fifths.field-1 = cc in
    rw k (c.from_i32.ensures ∙ ap (unsigned 2147483648) (rw (to_z-of_z f) (to_z-of_z (sfits_widen {w' = w32} tt f))))
