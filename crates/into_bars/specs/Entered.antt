-- A text of a file, and a text of the table that it is compared with.
use Rattle.std.specs.Prelude.{ℕ, ◌+◌, ◌*◌, Bool, ◌&&◌, List, eqb, get_or}
use Rattle.std.proofs.Math.Seq.{slice}
use Rattle.format.specs.declared.Range.{Range}
use Rattle.format.specs.Text.{text_in}
use Rattle.entries.specs.Words.{text_stride}
use Rattle.score.specs.Page.{TextIs}
use Rattle.score.specs.Score.{same_bytes}

abbrev pub text_here : List ℕ → (bar track : ℕ) → Range → TextIs
text_here s bar track range = record { bar = bar; track = track; text = text_in s range }

-- whether text i of the table is of a bar and track, and whether it has the bytes of another
abbrev pub in_bar : List ℕ → (i bar track : ℕ) → Bool
in_bar t i bar track = eqb bar (get_or t (i * text_stride) 0) && eqb track (get_or t (i * text_stride + 1) 0)

abbrev pub same_at : (s t : List ℕ) → ℕ → Range → Bool
same_at s t i range =
    same_bytes (slice range.start range.end s)
    (slice (get_or t (i * text_stride + 2) 0) (get_or t (i * text_stride + 3) 0) s)
