-- Its two words.
use Rattle.beat.proofs.Filled.{range_stored}
use Rattle.beat.proofs.places.put_range.Goals as goal

pub returns : goal.returns
returns c =
    search range_stored
