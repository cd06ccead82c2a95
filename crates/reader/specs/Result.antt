-- What each pass of a reading leaves, and the result of the whole.
use Rattle.std.specs.Prelude.{ℕ, ◌*◌, ◌≤◌, ◌≡◌, true, false, List, length, Result as StdResult, Ok}
use Rattle.format.specs.declared.Stop.{Stop}
use Rattle.model.specs.declared.Answer.{Answer}
use Rattle.score.specs.Reading.{Tables, Result}
use Rattle.words.specs.Words.{part_stride}
use Rattle.words.specs.Lent.{Lent}
use Rattle.words.specs.Left.{lent_with}
use Rattle.reader.specs.declared.pass.Passed.{Passed}
use Rattle.reader.specs.Passed.{Passes}
use Rattle.reader.specs.Answered.{tables, answered}

abbrev pub result_of : Answer → (bars tracks rows members points texts : List ℕ) → Result
result_of answer bars tracks rows members points texts = record { answer = answer; tables = tables bars tracks rows members points texts }

-- a pass that counts
pub record FirstPass (s : List ℕ) (read : StdResult (Passed × ℕ) Stop) : Type 0 where
  pub before : Lent
  pub after : Lent
  pub own : 100 * part_stride ≤ length before.parts
  pub passes : Passes true s before after read

-- a pass into the caller's tables, and the answer where it comes to an end
pub record Fills (s : List ℕ) (before after : Tables) (answer : Answer) : Type 0 where
  pub parts : List ℕ
  pub left : List ℕ
  pub read : StdResult (Passed × ℕ) Stop
  pub own : 100 * part_stride ≤ length parts
  pub passes : Passes false s (lent_with before parts) (lent_with after left) read
  pub answers : (p : Passed) (used : ℕ) → read ≡ Ok (p, used) → answer ≡ answered p.song p.tally used after.bars
