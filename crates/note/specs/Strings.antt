-- The strings of a set of bits, one after another.
use Rattle.std.specs.Prelude.{ℕ, ◌<◌, ◌≡◌, Option, MatchOption}
use Rattle.note.specs.Words.{first_string, other_strings}

-- a string is taken of a set: the first one, and the others are left
pub record Taken (before i after : ℕ) : Type 0 where
  pub some : 0 < before
  pub first : i ≡ first_string before
  pub others : after ≡ other_strings before i

abbrev pub NextString : ℕ → Option ℕ → ℕ → Type 0
NextString before r after = MatchOption r (before ≡ 0) (λ i. Taken before i after)
