-- The words of an entry, stored where the entry starts.
use mathlib.Core.Path.{◌∙◌}
use Rattle.tables.proofs.Laws.{sets_start}
use Rattle.tables.proofs.store_entry.Goals as goal

pub returns : goal.returns
returns c =
    c.store_words.ensures ∙ sets_start c.args.w.now c.args.t.now _ _ c.start_of-at.ensures
