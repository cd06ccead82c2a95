-- What can be counted of a reading: bytes used, entries kept, rooms needed, losses.
use Prim.Native.Nat.{ℕ}
use mathlib.Core.List.{List, [], ◌∷◌, ◌++◌}
use lib.ListN.{length}
use Rattle.format.specs.Prog.{Res, ok, stopped}
use Rattle.score.specs.File.{Whole}
use Rattle.score.specs.Page.{Staves, Walk}
use Rattle.score.specs.Score.{Lists}

-- entries kept: bars, tracks, rows, members, curve points, texts
abbrev pub counts : Staves Lists → Walk Lists → List ℕ
counts t w =
    length w.bars ∷ length t.tracks ∷ length w.rows ∷ length w.members ∷ length w.points ∷ length w.texts ∷ []

-- rooms needed: bars, tracks, rows and members exactly; curve points and texts as document 01 says
abbrev pub rooms : Staves Lists → Walk Lists → List ℕ
rooms t w =
    length w.bars ∷ length t.tracks ∷ length w.rows ∷ length w.members ∷ w.tally.point_room ∷ w.tally.text_room ∷ []

abbrev pub summary : Res (Whole (Staves Lists) (Walk Lists)) → List ℕ
summary (ok x n) = n ∷ counts x.tracks x.bars ++ rooms x.tracks x.bars ++ x.bars.tally.losses
summary (stopped x) = []
