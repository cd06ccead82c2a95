-- Word by word.
use mathlib.Core.Path.{◌∙◌, ap}
use Rattle.words.specs.Words.{hammer_words, run_words}
use Rattle.words.proofs.Voices.{words_kept}
use Rattle.words.proofs.voice.VoiceWords.kept.Goals as goal

pub returns : goal.returns
returns c =
    words_kept c.args.self.now.words c.fret_word.ensures c.fret_word-2.ensures c.fret_word-3.ensures c.fret_word-4.ensures c.fret_word-5.ensures c.fret_word-6.ensures c.fret_word-7.ensures (c.hammer_words-waits.ensures.words ∙ ap hammer_words c.hammer.ensures) (c.run_words-over.ensures ∙ ap run_words c.run.ensures)
