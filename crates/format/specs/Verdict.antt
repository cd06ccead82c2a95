-- What the reading of a whole file comes to.
use Rattle.std.specs.Prelude.{ℕ, List, length, take, leb}
use Rattle.format.specs.declared.Counted.{Counted}
use Rattle.format.specs.declared.Stop.{Stop}
use Rattle.format.specs.declared.Stop.TheVariants as S
use Rattle.format.specs.Text.{pick}
use Rattle.format.specs.Prog.{Prog, Res, ok, stopped, run}

abbrev pub LIMIT : ℕ
LIMIT = 16777216

-- the outcomes of reading, without "no room": a file read whole with its bytes used, truncated, too long, or refused
pub data Verdict (A : Type 0) : Type 0 where
  whole : A → ℕ → Verdict A
  truncated : Verdict A
  too_long : Verdict A
  bad_version : Verdict A
  bad_count : Counted → ℕ → ℕ → Verdict A
  empty : Verdict A

-- the verdict of a reading that stopped; `ends` is the verdict where the bytes end before the format does
abbrev pub stop_verdict : {A : Type 0} → Verdict A → Stop → Verdict A
stop_verdict ends S.Ends = ends
stop_verdict ends S.Text = truncated
stop_verdict ends S.Version = bad_version
stop_verdict ends (S.Count which value offset) = bad_count which value offset
stop_verdict ends S.Empty = empty

abbrev pub as_verdict : {A : Type 0} → Verdict A → Res A → Verdict A
as_verdict ends (ok a n) = whole a n
as_verdict ends (stopped x) = stop_verdict ends x

-- a beginning of the file, of at most n bytes
unfoldable pub up_to : ℕ → List ℕ → List ℕ
up_to n s = take n s

-- at most LIMIT bytes are read: where those end, it is the file that ends, or the limit that was met
unfoldable pub verdict : {A : Type 0} → Prog A → List ℕ → Verdict A
verdict p s =
    pick (leb (length s) LIMIT) (as_verdict truncated (run p s 0)) (as_verdict too_long (run p (up_to LIMIT s) 0))
