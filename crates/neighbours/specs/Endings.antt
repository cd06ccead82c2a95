-- An ending's place among equal neighbours, said of a finished list of bars.
use Rattle.std.specs.Prelude.{ℕ, zero, suc, List, eqb, get_or, None, Option, Some}
use Rattle.format.specs.Text.{pick}
use Rattle.model.specs.declared.Bar.{Bar}
use Rattle.model.specs.declared.EndingPlace.{EndingPlace}
use Rattle.model.specs.declared.EndingPlace.TheVariants.{NoPlace, Begin, Mid, End, BeginEnd}
use Rattle.score.specs.Bars.{no_bar}

-- by three ending numbers, 0 for none. A bar without an ending has no place; one between two neighbours of its number
-- is in the middle; one that follows such a neighbour only is the end; one that such a neighbour follows only is the
-- beginning; one with no such neighbour is both
abbrev pub place_by : (before own after : ℕ) → EndingPlace
place_by before own after =
    pick (eqb own 0) NoPlace
    (pick (eqb before own) (pick (eqb after own) Mid End) (pick (eqb after own) Begin BeginEnd))

-- the number of an ending
abbrev pub number_of : Option ℕ → ℕ
number_of None = 0
number_of (Some n) = n

-- the ending number of bar i, 0 where there is no such bar
abbrev pub number_at : List Bar → ℕ → ℕ
number_at bs i = number_of (get_or bs i no_bar).ending

-- that of the bar before it: none stands before bar 0
abbrev pub number_before : List Bar → ℕ → ℕ
number_before bs zero = 0
number_before bs (suc i) = number_at bs i

-- the place of bar i, by its own ending and those of the bars beside it
abbrev pub place_at : List Bar → ℕ → EndingPlace
place_at bs i = place_by (number_before bs i) (number_at bs i) (number_at bs (suc i))
