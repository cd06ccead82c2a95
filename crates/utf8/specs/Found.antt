-- What the code counts on its way.
use Rattle.std.specs.Prelude.{ℕ, leb, Option, None, Some}
use Rattle.format.specs.Text.{pick}
use Rattle.utf8.specs.Answers.{largest}

-- a length, as far as one can be stated
abbrev pub stated : ℕ → Option ℕ
stated n = pick (leb n largest) (Some n) None
