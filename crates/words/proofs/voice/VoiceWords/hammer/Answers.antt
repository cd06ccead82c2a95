-- By its flag.
use Rattle.words.specs.Words.{voice_from, hammer_of}
use Rattle.words.proofs.voice.VoiceWords.hammer.Goals as goal

pub returns-then-flag_of : goal.returns-then-flag_of
unfolding voice_from hammer_of
returns-then-flag_of c =
    rw (← c.flag_of.ensures, c.if-flag_of.true, c.byte_of.ensures)

pub returns : goal.returns
unfolding voice_from hammer_of
returns c =
    rw (← c.flag_of.ensures, c.if-flag_of.false)
