-- One field after another.
use Rattle.note.proofs.Filled.{harmonic_none, harmonic_some}
use Rattle.note.proofs.marks.harmonic_at.Goals as goal

pub returns-then-more-eq0 : goal.returns-then-more-eq0
returns-then-more-eq0 c =
    search harmonic_none

pub returns : goal.returns
returns c =
    search harmonic_some
