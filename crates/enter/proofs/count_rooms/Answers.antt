-- Field by field.
use mathlib.Core.List.{[]}
use Rattle.into_losses.proofs.Sums.{plus_cut}
use Rattle.enter.specs.Steps.{with_rooms}
use Rattle.enter.proofs.count_rooms.Goals as goal

pub returns : goal.returns
unfolding with_rooms
returns c =
    λ v. rw (c.plus-tally.ensures, c.bend_rooms.ensures c.args.s.now v, plus_cut _ _, c.text_room-tally.ensures v [])
