-- Beat by beat.
use native.Mathlib.Omega.{arith}
use mathlib.Core.Bool.{true}
use Rattle.format.specs.Place.{Reaches}
use Rattle.format.proofs.Rules.{then, turn_on, turns_done, turns_still}
use Rattle.score.specs.File.{one_beat}
use Rattle.words.proofs.Places.{done_as}
use Rattle.enter.specs.Pages.{walked, SamePage}
use Rattle.walk.specs.Entering.{entering}
use Rattle.walk.proofs.Walks.{still_same}
use Rattle.walk.proofs.CountingPass.beats.Goals as goal
use Rattle.walk.proofs.CountingPass.beats.Goals.{Joined-hop_beat, in-Some, in_default}

-- a turn counts one beat: hopped over, or read
module _ (m : Joined-hop_beat) where
  one : Reaches (one_beat (entering true m.args.s.now) m.args.v m.args.place.bar m.args.place.track m.args.place.voice m.loop.counter (walked m.loop.page)) m.args.s.now m.loop.at (walked m.match-hop_beat.page) m.match-hop_beat.at
  unfolding one_beat
  one = elim m.match-hop_beat.branch [
    | in-Some w ↦
        let plain = m.hop_beat.ensures.to _ _ w.in-Some.is in
        rw (w.page-is, w.at-is) (then _ plain.reads (done_as (w.count_plain.ensures.beat _ plain.unmarked)))
    | in_default w ↦ rw (w.page-is, w.at-is) w.count_read-at.ensures.beat
  ]

  same : SamePage m.loop.page m.match-hop_beat.page
  same = elim m.match-hop_beat.branch [
    | in-Some w ↦ rw w.page-is w.count_plain.ensures.lent
    | in_default w ↦ rw w.page-is w.count_read-at.ensures.lent
  ]

pub returns-in_default-at-clause-beats : goal.returns-in_default-at-clause-beats
returns-in_default-at-clause-beats c =
    turns_still (turn_on _ _ _ _ c.loop.invariant.1 c.loop-test.true (one (goal.at.returns-in_default-at-clause-beats c).Joined-hop_beat)) c.in_default-at.is

pub returns-in_default-at-clause-lent : goal.returns-in_default-at-clause-lent
returns-in_default-at-clause-lent c =
    still_same c.loop.invariant.0 (same (goal.at.returns-in_default-at-clause-lent c).Joined-hop_beat)

pub loop-preserved : goal.loop-preserved
loop-preserved c =
    let turn = (goal.at.loop-preserved c).Joined-hop_beat in
    (still_same c.loop.invariant.0 (same turn), turn_on _ _ _ _ c.loop.invariant.1 c.loop-test.true (one turn))

pub returns-clause-beats : goal.returns-clause-beats
returns-clause-beats c =
    turns_done _ _ _ _ c.loop.invariant.1 (omega (arith, c.loop-test.false))
