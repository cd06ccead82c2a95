-- Losses counted in words: the counts are the same in every file.
use Rattle.std.specs.Prelude.{ℕ, List, []}
use Rattle.model.specs.declared.Loss.{Loss}
use Rattle.score.specs.Page.{report}
use Rattle.words.specs.Words.{words}

unfoldable pub reports : List Loss → List ℕ → List ℕ
reports ls counts = report (words []) ls counts
