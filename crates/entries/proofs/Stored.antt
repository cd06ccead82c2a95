-- The two parts of a row, stored one after the other, are the row's words.
use Prim.Native.Nat.{ℕ, ◌+◌, min}
use mathlib.Core.Path.{◌≡◌}
use mathlib.Core.List.{List}
use lib.ListN.{length}
use lib.Seq.{sets}
use Rattle.tables.proofs.Laws.{sets_append, sets_start}
use Rattle.model.specs.declared.Row.{Row}
use Rattle.entries.specs.Words.{front_words, back_words, row_words}
use Rattle.entries.proofs.Laws.{front_length}

pub row_stored : (t : List ℕ) (x : Row) (m at : ℕ) → at ≡ min m (length t) → sets (sets t at (front_words x)) (at + 17) (back_words x) ≡ sets t m (row_words x)
unfolding row_words
row_stored t x m at e = rw (sets_append (front_words x) (back_words x) t at 17 (front_length x)) (sets_start (row_words x) t m at e)
