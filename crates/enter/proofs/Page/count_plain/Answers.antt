-- A row, and the strings that sound.
use Rattle.enter.proofs.Counts.{counted, counted_plain}
use Rattle.enter.proofs.Page.count_plain.Goals as goal

pub returns-clause-beat : goal.returns-clause-beat
returns-clause-beat c =
    let sound = c.that_sound-sounding.ensures in
    λ x u. counted c.args.track x _
    (counted_plain _ c.args.self.now.tally sound.small (rw c.string_count.ensures at sound.sound) c.kept_with-self.ensures c.plus-self.ensures x u)
