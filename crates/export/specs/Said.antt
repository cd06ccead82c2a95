-- An answer in words, for a caller in another language.
use Rattle.std.specs.Prelude.{ℕ, ◌%◌, List, [], ◌∷◌, ◌++◌}
use Rattle.bin.specs.Signed.{unsigned}
use Rattle.model.specs.declared.Answer.{Answer}
use Rattle.model.specs.declared.Outcome.{Outcome}
use Rattle.model.specs.declared.Sizes.{Sizes}
use Rattle.model.specs.Answers.{numbers_of}
use Rattle.utf8.specs.Answers.{Coded, number_of, length_of}

abbrev pub size_words : Sizes → List ℕ
size_words x = x.bars ∷ x.tracks ∷ x.rows ∷ x.members ∷ x.points ∷ x.texts ∷ []

-- which count was refused, its value in two's complement, and the offset of its four bytes
abbrev pub count_words : Outcome → List ℕ
count_words x =
    (numbers_of x).which ∷ unsigned 2147483648 (numbers_of x).value ∷ (numbers_of x).offset % 4294967296 ∷ []

-- the outcome and the bytes used; how many entries each table holds, and the rooms needed; the count
unfoldable pub said_words : Answer → List ℕ
said_words x =
    (numbers_of x.outcome).number ∷ x.song.used % 4294967296
    ∷ size_words x.counts ++ size_words x.rooms ++ count_words x.outcome

-- the answer of writing UTF-8, and of reading it back
abbrev pub coded_words : Coded → List ℕ
coded_words x = number_of x ∷ length_of x ∷ []
