-- In the place of the first seven words.
use Rattle.words.proofs.Voices.{frets_put}
use borrow.Author.Rules.{rules}
use Rattle.words.proofs.voice.VoiceWords.put_frets.Goals as goal

pub returns : goal.returns
returns c =
    rw c.copy_from_slice.ensures.after (frets_put c.args.self.now.words (search rules) c.args.frets (search rules))
