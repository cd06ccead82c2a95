-- Whoever gives what `reading` comes to keeps the whole promise: document 01's numbers are those of its outcomes.
use Prim.Native.Nat.{ℕ}
use mathlib.Core.Bool.{Bool, true, false}
use mathlib.Core.List.{List}
use mathlib.Core.Path.{◌≡◌, refl}
use Rattle.format.specs.Text.{pick}
use Rattle.format.specs.Verdict as Ends
use Rattle.format.specs.Verdict.{Verdict, whole, bad_version, bad_count, verdict}
use Rattle.model.specs.Answers.{just_number, numbers_of, no_room_answer}
use Rattle.score.specs.Score.{scored}
use Rattle.score.specs.Reading.{Tables, Result, Score, needed, enough, file_answer, filled, refused, result_of, reading}
use Rattle.theorems.specs.Promise.{Promise, verdict_numbers}

module _ (t : Tables) where
  numbers_so : (v : Verdict Score) → numbers_of (result_of t v).answer.outcome ≡ verdict_numbers t v
  numbers_so (whole x n) = go (enough (needed x) t)
    where
      go : (room : Bool) → numbers_of (pick room (record { answer = file_answer x n; tables = filled t x }) (refused (no_room_answer (needed x)) t)).answer.outcome ≡ just_number (pick room 0 6)
      go true = refl
      go false = refl
  numbers_so Ends.truncated = refl
  numbers_so Ends.too_long = refl
  numbers_so bad_version = refl
  numbers_so (bad_count which value offset) = refl
  numbers_so Ends.empty = refl

pub promised : {d : List ℕ} {t : Tables} {r : Result} → r ≡ reading d t → Promise d t r
unfolding reading
promised {d} {t} e = record { is = e; numbers = rw e (numbers_so t (verdict scored d)) }
