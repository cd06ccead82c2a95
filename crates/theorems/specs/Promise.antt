-- The promise of `read`, and the words that its theorems use: a beginning that fits, the seven outcomes.
use Rattle.std.specs.Prelude.{ℕ, ◌≤◌, ◌<◌, ◌⊎◌, ◌≡◌, true, false, List, length}
use Rattle.bin.specs.Signed.{signed}
use Rattle.format.specs.declared.Counted.{Counted}
use Rattle.format.specs.declared.Stop.{Stop}
use Rattle.format.specs.declared.Stop.TheVariants as S
use Rattle.format.specs.Prog.{stopped, run}
use Rattle.format.specs.Fits.{Begins}
use Rattle.format.specs.Text.{pick}
use Rattle.format.specs.Count.{count_number}
use Rattle.format.specs.Verdict as Ends
use Rattle.format.specs.Verdict.{LIMIT, Verdict, whole, bad_version, bad_count, up_to, verdict}
use Rattle.model.specs.declared.Outcome.TheVariants as O
use Rattle.model.specs.Answers.{Numbers, just_number, numbers_of, refusal, no_room_answer}
use Rattle.score.specs.Score.{scored}
use Rattle.score.specs.Reading.{Tables, Result, Score, needed, enough, filled, file_answer, refused, reading}

-- document 01, "Seven outcomes": the numbers of what reading a file into the tables t came to
abbrev pub verdict_numbers : Tables → Verdict Score → Numbers
verdict_numbers t (whole x used) = just_number (pick (enough (needed x) t) 0 6)
verdict_numbers t Ends.truncated = just_number 1
verdict_numbers t bad_version = just_number 2
verdict_numbers t (bad_count which value offset) =
    record { number = 3; which = count_number which; value = signed 2147483648 value; offset = offset }
verdict_numbers t Ends.empty = just_number 4
verdict_numbers t Ends.too_long = just_number 5

-- r, the answer and the six tables after a call, is what reading the file d into the tables t comes to, and its outcome has document 01's
-- numbers
pub record Promise (d : List ℕ) (t : Tables) (r : Result) : Type 0 where
  pub is : r ≡ reading d t
  pub numbers : numbers_of r.answer.outcome ≡ verdict_numbers t (verdict scored d)

-- ---- the words that the theorems use

-- document 01's number of the outcome
abbrev pub outcome_in : Result → ℕ
outcome_in r = (numbers_of r.answer.outcome).number

abbrev pub used : Result → ℕ
used r = r.answer.song.used

-- a beginning of d, of n bytes and no more than 16,777,216, fits the format and gives the score x
pub record Beginning (d : List ℕ) (x : Score) (n : ℕ) : Type 0 where
  pub limit : n ≤ LIMIT
  pub begins : Begins scored d x n

-- reading, of no more than 16,777,216 bytes, stops before the format's end, and why: the first reason in file order
pub record Stops (d : List ℕ) (why : Stop) : Type 0 where
  pub stops : run scored (up_to LIMIT d) 0 ≡ stopped why

-- document 01, "Seven outcomes": when each is given, with the answer and the tables
pub data Seven (d : List ℕ) (t : Tables) : Result → Type 0 where
  read : {x : Score} {n : ℕ} → Beginning d x n → enough (needed x) t ≡ true
      → Seven d t (record { answer = file_answer x n; tables = filled t x })
  truncated : ((length d ≤ LIMIT) × Stops d S.Ends) ⊎ Stops d S.Text → Seven d t (refused (refusal O.Truncated) t)
  version : Stops d S.Version → Seven d t (refused (refusal O.Version) t)
  count : {which : Counted} {value offset : ℕ} → Stops d (S.Count which value offset)
      → Seven d t (refused (refusal (O.Count which (signed 2147483648 value) offset)) t)
  empty : Stops d S.Empty → Seven d t (refused (refusal O.Empty) t)
  too_long : LIMIT < length d → Stops d S.Ends → Seven d t (refused (refusal O.TooLong) t)
  no_room : {x : Score} {n : ℕ} → Beginning d x n → enough (needed x) t ≡ false
      → Seven d t (refused (no_room_answer (needed x)) t)
