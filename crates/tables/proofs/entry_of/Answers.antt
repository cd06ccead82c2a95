-- The whole entry, or none.
use Rattle.tables.proofs.Starts.{entry_got}
use Rattle.tables.proofs.entry_of.Goals as goal

pub returns : goal.returns
returns c =
    entry_got c.args.t.now c.args.i c.args.stride _ c.start_of-at.ensures _ _ _ c.get.ensures.lookup c.unwrap_or.ensures
