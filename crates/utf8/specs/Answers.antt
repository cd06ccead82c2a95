-- What the two functions answer, and what they leave in the buffer (document 02, l).
use Rattle.std.specs.Prelude.{ℕ, min, List, ◌++◌, length, drop, leb, Option, None, Some, Result, Ok, Err}
use Rattle.format.specs.Text.{pick}
use Rattle.format.specs.declared.Range.{Range}
use Rattle.bin.specs.Part.{part_of, when_within}
use Rattle.utf8.specs.declared.CodingError.{CodingError}
use Rattle.utf8.specs.declared.CodingError.TheVariants.{NoRange, NoCharacter, Short}
use Rattle.utf8.specs.Characters.{written}
use Rattle.utf8.specs.Back.{back}

-- so many bytes, or why there are none
abbrev pub Coded : Type 0
Coded = Result ℕ CodingError

-- document 02's number of an answer
abbrev pub number_of : Coded → ℕ
number_of (Ok n) = 0
number_of (Err NoRange) = 9
number_of (Err NoCharacter) = 10
number_of (Err (Short n)) = 8

-- the length, or the length needed; 0 where the answer names none
abbrev pub length_of : Coded → ℕ
length_of (Ok n) = n
length_of (Err NoRange) = 0
length_of (Err NoCharacter) = 0
length_of (Err (Short n)) = n

pub record Answer : Type 0 where
  pub coded : Coded
  pub buffer : List ℕ

-- a refusal leaves the buffer as it was
abbrev pub refused : CodingError → List ℕ → Answer
refused why out = record { coded = Err why; buffer = out }

-- no length is stated that is larger: of a longer text this one is, and no buffer holds it
abbrev pub largest : ℕ
largest = 18446744073709551615

-- a text in a buffer that has room for it, with the buffer's own bytes after it
unfoldable pub put : List ℕ → List ℕ → Answer
put text out =
    pick (leb (length text) (length out))
    (record { coded = Ok (length text); buffer = text ++ drop (length text) out })
    (refused (Short (min (length text) largest)) out)

-- 9 for a range that does not fit, then 8
unfoldable pub to_utf8 : List ℕ → Range → List ℕ → Answer
to_utf8 s r out =
    when_within s r.start r.end (put (written (part_of s r.start r.end)) out) (refused NoRange out)

-- 10 where nothing is read back, then 8
abbrev pub handed : Option (List ℕ) → List ℕ → Answer
handed None out = refused NoCharacter out
handed (Some bs) out = put bs out

unfoldable pub from_utf8 : List ℕ → List ℕ → Answer
from_utf8 us out = handed (back us) out
