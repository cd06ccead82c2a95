-- A step of reading: so many bytes at a position, what is handed on of them, and what becomes of each.
use Rattle.std.specs.Prelude.{ℕ, ◌+◌, ◌≤◌, ◌<◌, ◌≡◌, Bool, List, get_or, take, drop}
use Rattle.format.specs.declared.Counted.{Counted}
use Rattle.format.specs.declared.Stop.{Stop}
use Rattle.format.specs.declared.Stop.TheVariants.{Count}
use Rattle.format.specs.Text.{TextRead, pick, text_of, zero_at}
use Rattle.format.specs.Count.{too_many, little, as_word}
use Rattle.format.specs.Sign.{not_negative}

-- a byte that is kept; n bytes that are passed over; a byte of which the sign alone is handed on (document 02, n); n bytes of text, of
-- which the part after cut and trim is handed on; four bytes that are a count; no byte: the position itself is handed on (document 02, f)
pub data Step : Type 0 where
  byte : Step
  pass : ℕ → Step
  sign : Step
  text : ℕ → Step
  counted : Counted → Step
  position : Step

-- how many bytes it has
abbrev pub width : Step → ℕ
width byte = 1
width (pass n) = n
width sign = 1
width (text n) = n
width (counted c) = 4
width position = 0

-- what is handed on of the bytes l, which stand at a position of the file
abbrev pub Handed : Step → Type 0
Handed byte = ℕ
Handed (pass n) = Unit
Handed sign = Bool
Handed (text n) = TextRead
Handed (counted c) = ℕ
Handed position = ℕ

abbrev pub handed : (k : Step) → ℕ → List ℕ → Handed k
handed byte at l = get_or l 0 0
handed (pass n) at l = tt
handed sign at l = not_negative (get_or l 0 0)
handed (text n) at l = text_of at l
handed (counted c) at l = little l
handed position at l = at

-- and so at a position of the file s
abbrev pub seen : (k : Step) → List ℕ → ℕ → Handed k
seen k s at = handed k at (take (width k) (drop at s))

-- what was read is fine, or the file is refused for it
pub data Judged : Type 0 where
  fine : Judged
  stops : Stop → Judged

-- a count that is over its limit is refused, with its value and the position of its first byte (document 02, k)
abbrev pub judged : (k : Step) → ℕ → Handed k → Judged
judged byte at v = fine
judged (pass n) at v = fine
judged sign at v = fine
judged (text n) at v = fine
judged (counted c) at v = pick (too_many c v) (stops (Count c v (as_word at))) fine
judged position at v = fine

-- ---- what becomes of its bytes, where it stands at a position of the file s
-- the byte at position i is kept: it reaches the answer, or decides it. Of a text these are its bytes as far as its first zero byte, which
-- is kept too (document 02, n)
abbrev pub Keeps : Step → List ℕ → (at i : ℕ) → Type 0
Keeps byte s at i = i ≡ at
Keeps (pass n) s at i = ⊥
Keeps sign s at i = ⊥
Keeps (text n) s at i = (at ≤ i) × (i < at + n) × (i ≤ zero_at s at n)
Keeps (counted c) s at i = (at ≤ i) × (i < at + 4)
Keeps position s at i = ⊥

-- of the byte at position i the sign alone counts
abbrev pub Signs : Step → List ℕ → (at i : ℕ) → Type 0
Signs byte s at i = ⊥
Signs (pass n) s at i = ⊥
Signs sign s at i = i ≡ at
Signs (text n) s at i = ⊥
Signs (counted c) s at i = ⊥
Signs position s at i = ⊥

-- the n bytes from position k on are passed over; of a text those after its first zero byte (document 02, n)
abbrev pub Passes : Step → List ℕ → (at k n : ℕ) → Type 0
Passes byte s at k n = ⊥
Passes (pass m) s at k n = (k ≡ at) × (n ≡ m)
Passes sign s at k n = ⊥
Passes (text m) s at k n = (k ≡ zero_at s at m + 1) × (k + n ≡ at + m)
Passes (counted c) s at k n = ⊥
Passes position s at k n = ⊥
