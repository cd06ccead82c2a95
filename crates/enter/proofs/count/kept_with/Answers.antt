-- Table by table.
use Rattle.enter.proofs.count.kept_with.Goals as goal

pub returns : goal.returns
returns c =
    rw (c.plus.ensures, c.plus-2.ensures, c.with_graces-before.ensures)
