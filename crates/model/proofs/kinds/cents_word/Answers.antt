-- The word of a kind, case by case.
use mathlib.Core.Path.{ap, ◌∙◌}
use mir.Syntax.{w16, w32}
use mir.Val.{SFits}
use mir.Facts.{to_z-of_z, sfits_widen}
use Rattle.bin.specs.Signed.{unsigned}
use borrow.Author.Rules.{rules}
use Rattle.model.proofs.kinds.cents_word.Goals as goal

pub returns : goal.returns
returns c =
    let f : SFits w16 c.args.x.0 = search rules in c.from_i32.ensures ∙ ap (unsigned 2147483648) (rw (to_z-of_z f) (to_z-of_z (sfits_widen {w' = w32} tt f)))
