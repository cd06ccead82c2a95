-- What the shelf is, and its words.
use Rattle.export.proofs.shelf.fungusleigh_shelf.Goals as goal

pub returns : goal.returns
returns c =
    rw (c.words_of-words.ensures, c.shelf.ensures) at c.store_words.ensures
