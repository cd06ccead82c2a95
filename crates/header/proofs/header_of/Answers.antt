-- Each part by its function.
use Rattle.header.specs.Header.{header_of}
use Rattle.header.proofs.header_of.Goals as goal

pub returns : goal.returns
unfolding header_of
returns c =
    rw (c.passes_of.ensures, c.ending_number.ensures, c.has-3.ensures, c.has-2.ensures, c.has.ensures)
