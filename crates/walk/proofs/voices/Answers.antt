-- Turn by turn.
use native.Mathlib.Omega.{arith}
use Rattle.format.proofs.Rules.{turn_on, turns_done, turns_still}
use Rattle.walk.proofs.Walks.{still_same}
use Rattle.walk.proofs.voices.Goals as goal

pub one_voice-at-requires : goal.one_voice-at-requires
one_voice-at-requires g c =
    omega (arith, c.loop-voice.invariant.0.words)

pub returns-in_default-clause-voices : goal.returns-in_default-clause-voices
returns-in_default-clause-voices g c =
    turns_still (turn_on _ _ _ _ c.loop-voice.invariant.1 c.loop-voice-test.true c.one_voice-at.ensures.voice) c.in_default.is

pub returns-in_default-clause-lent : goal.returns-in_default-clause-lent
returns-in_default-clause-lent g c =
    still_same c.loop-voice.invariant.0 c.one_voice-at.ensures.lent

pub loop-voice-preserved : goal.loop-voice-preserved
loop-voice-preserved g c =
    (still_same c.loop-voice.invariant.0 c.one_voice-at.ensures.lent, turn_on _ _ _ _ c.loop-voice.invariant.1 c.loop-voice-test.true c.one_voice-at.ensures.voice)

pub returns-clause-voices : goal.returns-clause-voices
returns-clause-voices g c =
    turns_done _ _ _ _ c.loop-voice.invariant.1 (omega (arith, c.loop-voice-test.false))
