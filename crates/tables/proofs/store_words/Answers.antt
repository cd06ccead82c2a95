-- From the end on nothing is stored.
use mathlib.Core.Path.{sym}
use Rattle.tables.proofs.Laws.{sets_out}
use Rattle.tables.proofs.store_words.Goals as goal

pub returns-then-t-at : goal.returns-then-t-at
returns-then-t-at g c =
    sym (sets_out c.args.w.now c.args.t.now _ c.if-t-at.true)
