-- A byte is stored.
use borrow.Author.Rules.{rules}
use Rattle.note.proofs.Stores.{byte_stored}
use Rattle.note.proofs.places.put.Goals as goal

pub returns : goal.returns
returns g c =
    byte_stored (search rules) c.store.ensures
