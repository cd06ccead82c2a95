-- Field by field.
use Rattle.words.specs.Counted.{count_tally}
use Rattle.enter.specs.Steps.{with_rooms}
use Rattle.enter.proofs.Counts.{counted}
use Rattle.enter.proofs.Page.count_beat.Goals as goal

pub returns-clause-beat : goal.returns-clause-beat
unfolding count_tally with_rooms
returns-clause-beat c =
    λ v. counted c.args.track _ _
    (rw (c.count_rooms.ensures v, c.kept_of-self.ensures c.args.s.now v, c.string_count-strings.ensures))
