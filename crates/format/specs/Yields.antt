-- What a program of reads hands on.
use Rattle.std.specs.Prelude.{ℕ, ◌≤◌, ◌<◌, ◌≡◌, List, length, get_or}
use Rattle.format.specs.declared.Range.{Range}
use Rattle.format.specs.Text.{TextRead, text_in}
use Rattle.format.specs.Prog.{Prog, ok, run}

-- At a position of the file s, Q holds of all that p gives and of where it ends. A record and no bare function, so that
-- a rule reads the file, the program and the position off it
pub record Yields {A : Type 0} (s : List ℕ) (p : Prog A) (at : ℕ) (Q : A → ℕ → Type 0) : Type 0 where
  pub yields : at ≤ length s → (a : A) (n : ℕ) → run p s at ≡ ok a n → Q a n

-- further on in the file, and not past its end
abbrev pub Onward : List ℕ → ℕ → ℕ → Type 0
Onward s at n = (at ≤ n) × (n ≤ length s)

-- a file of bytes
abbrev pub Bytes : List ℕ → Type 0
Bytes s = (i : ℕ) → get_or s i 0 < 256

-- a part of a file of that size
pub record Inside (size : ℕ) (r : Range) : Type 0 where
  pub sorted : r.start ≤ r.end
  pub ends : r.end ≤ size

-- a text whose bytes are those of its range
pub record OfFile (s : List ℕ) (t : TextRead) : Type 0 where
  pub is : t ≡ text_in s t.range
  pub inside : Inside (length s) t.range
