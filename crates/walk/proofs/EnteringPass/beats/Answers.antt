-- The words of the track are lent, and put back.
use native.Mathlib.Omega.{arith}
use Rattle.format.proofs.Rules.{turns_start, turns_done}
use Rattle.walk.proofs.Held.{put_there}
use Rattle.walk.proofs.EnteringPass.beats.Goals as goal

pub returns-then-n-eq0-clause-beats : goal.returns-then-n-eq0-clause-beats
returns-then-n-eq0-clause-beats c =
    turns_done _ _ _ _ (turns_start _ _ _) (omega (arith, c.if-n-eq0.true))

pub returns-clause-beats : goal.returns-clause-beats
returns-clause-beats c =
    let a = c.args in
    put_there a.place.track a.place.voice _ _ _
    (c.held_beats-next.ensures.beats a.page.now.parts.now (omega (arith, c.if-n-eq0.false)) c.requires c.held_of-held.ensures)
    (rw c.held_beats-next.ensures.parts at c.put_voice.ensures)
    c.put_running.ensures
