-- The sign of a byte: 0 to 127 is 0 or more, 128 to 255 is negative.
use Rattle.std.specs.Prelude.{ℕ, Bool, ltb}

unfoldable pub not_negative : ℕ → Bool
not_negative b = ltb b 128
