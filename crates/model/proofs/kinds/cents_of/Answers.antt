-- The kind that a word stands for; the last arm by what no other arm names.
use mir.Syntax.{w16}
use mir.Facts.{to_z-of_z}
use borrow.Author.Rules.{sfits_of}
use Rattle.model.proofs.kinds.cents_of.Goals as goal

pub returns : goal.returns
returns c =
    rw (to_z-of_z (sfits_of {w = w16} c.to_i16.type_inv), c.to_i16.ensures)
