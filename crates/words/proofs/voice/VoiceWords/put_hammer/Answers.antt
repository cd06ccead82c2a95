-- In the place of its three words.
use Rattle.words.proofs.Voices.{hammer_put}
use borrow.Author.Rules.{rules}
use Rattle.words.proofs.voice.VoiceWords.put_hammer.Goals as goal

pub returns : goal.returns
returns c =
    rw c.copy_from_slice.ensures.after (hammer_put c.args.self.now.words (search rules) c.hammer_words.result (search rules) c.hammer_words.ensures.said)
