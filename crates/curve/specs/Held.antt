-- Numbers held to a range.
use Rattle.std.specs.Prelude.{ℕ, ◌≤◌, min, max, ◌≡◌, ltb}
use Rattle.format.specs.Text.{pick}

-- docs/RULES.md 14, "held to range": x held to lo..hi. From `half` on, a two's complement x stands for a number below zero, and so below lo.
unfoldable pub held : (half lo hi x : ℕ) → ℕ
held half lo hi x = pick (ltb x half) (max lo (min hi x)) lo

-- the first byte, and the first word of four bytes, that stand for a number below zero
abbrev pub byte_half : ℕ
byte_half = 0x80

abbrev pub word_half : ℕ
word_half = 0x80000000

-- past the last byte: an unsigned byte never reaches it
abbrev pub byte_end : ℕ
byte_end = 0x100

-- what the function of every range ensures: the number, and the range that callers count with
pub record HeldTo (half lo hi x r : ℕ) : Type 0 where
  pub is : r ≡ held half lo hi x
  pub low : lo ≤ r
  pub high : r ≤ hi
