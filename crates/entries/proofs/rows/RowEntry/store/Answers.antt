-- The words of an entry, stored where the entry starts.
use mathlib.Core.Path.{◌∙◌}
use Rattle.entries.proofs.Stored.{row_stored}
use Rattle.entries.proofs.rows.RowEntry.store.Goals as goal

pub returns : goal.returns
returns c =
    c.store_words-2.ensures ∙ rw (c.store_words.ensures, c.back_words-back.ensures, c.front_words-front.ensures) (row_stored c.args.table.now c.args.self _ _ c.start_of-at.ensures)
