-- By its flag.
use Rattle.words.specs.Words.{voice_from, run_of}
use Rattle.words.proofs.voice.VoiceWords.run.Goals as goal

pub returns-then-flag_of : goal.returns-then-flag_of
unfolding voice_from run_of
returns-then-flag_of c =
    rw (← c.flag_of.ensures, c.if-flag_of.true, c.from.ensures)

pub returns : goal.returns
unfolding voice_from run_of
returns c =
    rw (← c.flag_of.ensures, c.if-flag_of.false)
