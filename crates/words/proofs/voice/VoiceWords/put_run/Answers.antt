-- In the place of its three words.
use Rattle.words.proofs.Voices.{run_put}
use borrow.Author.Rules.{rules}
use Rattle.words.proofs.voice.VoiceWords.put_run.Goals as goal

pub returns : goal.returns
returns c =
    rw c.copy_from_slice.ensures.after (run_put c.args.self.now.words (search rules) c.args.x (search rules) c.run_words.ensures)
