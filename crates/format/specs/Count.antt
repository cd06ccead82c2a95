-- A count: a number of four bytes that is negative, or over its limit, is refused.
use Rattle.std.specs.Prelude.{ℕ, ◌+◌, ◌*◌, ◌%◌, Bool, ◌||◌, List, [], ◌∷◌, take, drop, ltb, leb}
use Rattle.format.specs.declared.Counted.{Counted}
use Rattle.format.specs.declared.Counted.TheVariants as C

-- document 01's number of a count, and its limit
abbrev pub count_number : Counted → ℕ
count_number C.NoticeLines = 1
count_number C.Bars = 2
count_number C.Tracks = 3
count_number C.Strings = 4
count_number C.Beats = 5
count_number C.Points = 6

abbrev pub limit_of : Counted → ℕ
limit_of C.NoticeLines = 1000
limit_of C.Bars = 10000
limit_of C.Tracks = 100
limit_of C.Strings = 7
limit_of C.Beats = 1000
limit_of C.Points = 1000

-- the first 32-bit number that is negative
abbrev pub NEGATIVE : ℕ
NEGATIVE = 2147483648

-- a count that is refused: negative, or over its limit
unfoldable pub too_many : Counted → ℕ → Bool
too_many which v = leb NEGATIVE v || ltb (limit_of which) v

-- bytes as a number, the least first
unfoldable pub little : List ℕ → ℕ
little [] = 0
little (b ∷ bs) = b + 256 * little bs

-- that of the four bytes at a position of the file s
abbrev pub word_at : List ℕ → ℕ → ℕ
word_at s at = little (take 4 (drop at s))

-- a position as a stop holds it, as a word: in a file of no more than LIMIT bytes it is the position itself
unfoldable pub as_word : ℕ → ℕ
as_word at = at % 4294967296
