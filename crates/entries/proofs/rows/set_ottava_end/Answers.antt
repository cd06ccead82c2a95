-- One field of an entry is one word.
use mathlib.Core.Path.{◌∙◌}
use Rattle.entries.proofs.rows.set_ottava_end.Goals as goal

pub returns : goal.returns
returns c =
    c.store_field.ensures ∙ rw c.flag_word.ensures
