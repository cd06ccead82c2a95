use Rattle.entries.proofs.flag_at.Goals as goal

pub returns : goal.returns
returns c =
    rw (c.flag_of.ensures, c.load.ensures)
