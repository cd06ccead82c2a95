-- The flats of its key.
use Rattle.enter.proofs.Steps.{enters}
use Rattle.enter.proofs.Page.enter_bar.Goals as goal

pub returns-clause-bar : goal.returns-clause-bar
returns-clause-bar c =
    let p = c.args.self.now in
    λ s. enters s c.args.bar p.bars.now p.rows.now p.members.now p.points.now p.texts.now p.parts.now p.tally
    c.key_at-key.ensures c.flat_after-self.ensures
