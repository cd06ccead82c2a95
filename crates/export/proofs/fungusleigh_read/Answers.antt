-- What the reader gives, and its answer in words.
use mathlib.Core.Path.{ap}
use Rattle.score.specs.Reading.{Result}
use Rattle.export.proofs.fungusleigh_read.Goals as goal

pub returns : goal.returns
returns c =
    let read = c.read-answer.ensures.is in (
      ap (λ (x : Result). x.tables) read,
      rw (c.said_words-words.ensures, ap (λ (x : Result). x.answer) read) at c.store_words.ensures,
    )
