-- What `utf8` gives, and its answer in words.
use Rattle.export.proofs.titles.fungusleigh_from_utf8.Goals as goal

pub returns : goal.returns
returns c =
    (c.from_utf8.ensures.1, rw c.from_utf8.ensures.0 at c.say.ensures)
