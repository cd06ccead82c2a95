-- Both bytes, or none.
use Rattle.note.proofs.Filled.{hands_none, hands_both}
use Rattle.note.proofs.hands_at.Goals as goal

pub returns-then-flags-eq0 : goal.returns-then-flags-eq0
returns-then-flags-eq0 c =
    search hands_none

pub returns : goal.returns
returns c =
    search hands_both
