-- The whole file with the words of the tables as its states.
use Rattle.std.specs.Prelude.{ℕ, Bool, List, []}
use Rattle.format.specs.Prog.{Prog, ret, bind}
use Rattle.format.specs.Text.{pick}
use Rattle.beat.specs.Beat.{beat}
use Rattle.score.specs.File.{Adding}
use Rattle.score.specs.Page.{Kind, Heads, Staves, Walk, add_beat, keeping}
use Rattle.words.specs.Words.{Words, words}
use Rattle.words.specs.Counted.{count_beat, passing}

abbrev unlent : (k : Kind) → Words k
unlent k = []

-- what is added does not depend on what was lent
abbrev pub entering : (counting : Bool) → List ℕ → Adding (Heads Words) (Staves Words) (Walk Words)
entering counting s = passing counting (keeping (words s) unlent)

abbrev pub beat_step : (counting : Bool) → List ℕ → (v bar track voice : ℕ) → Walk Words → Prog (Walk Words)
beat_step counting s v bar track voice w =
    bind (beat v) (λ x. ret (pick counting (count_beat track x w) (add_beat (words s) bar track voice x w)))
