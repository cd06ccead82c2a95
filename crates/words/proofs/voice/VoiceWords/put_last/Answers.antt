-- In the place of its two words.
use Rattle.words.proofs.Voices.{last_put}
use borrow.Author.Rules.{rules}
use Rattle.words.proofs.voice.VoiceWords.put_last.Goals as goal

pub returns : goal.returns
returns c =
    last_put c.args.self.now.words (search rules) c.args.x
