-- Signed numbers of every width, by the half of the unsigned range.
use Rattle.std.specs.Prelude.{ℕ, ◌+◌, ◌-◌, ltb, ℤ, pos, negsuc}
use Rattle.format.specs.Text.{pick}

-- the number that a two's complement stands for; half is 128, 32,768 or 2,147,483,648
unfoldable pub signed : ℕ → ℕ → ℤ
signed half v = pick (ltb v half) (pos v) (negsuc (half + half - 1 - v))

-- its two's complement
unfoldable pub unsigned : ℕ → ℤ → ℕ
unsigned half (pos n) = n
unsigned half (negsuc n) = half + half - 1 - n
