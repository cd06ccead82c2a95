-- Bars: what is made of a header, of the headers before it, and of the directions.
use Rattle.std.specs.Prelude.{ℕ, ◌+◌, List, [], ◌∷◌, Bool, true, false, not, ◌&&◌, get_or, eqb, ltb, pos, negsuc, None, Option, Some}
use Rattle.format.specs.Text.{pick}
use Rattle.model.specs.declared.Bar.{Bar}
use Rattle.model.specs.declared.Time.{Time}
use Rattle.model.specs.declared.Key.{Key}
use Rattle.model.specs.declared.Key.TheVariants.{NoKey, Fifths}
use Rattle.model.specs.declared.Mode.TheVariants.{Major}
use Rattle.model.specs.declared.EndingPlace.{EndingPlace}
use Rattle.model.specs.declared.EndingPlace.TheVariants.{NoPlace, Begin, Mid, End, BeginEnd}
use Rattle.model.specs.declared.Direction.{Direction}
use Rattle.model.specs.declared.Direction.TheVariants as D
use Rattle.model.specs.Kinds.{fifths_word, mode_word}
use Rattle.header.specs.declared.Header.{Header}
use Rattle.score.specs.declared.Before.{Before}

-- ---- directions: entries 0, 2, 4, 5, 6, 8, 9, 10, 12 and 17 are kept in that order; any other above 0 is a loss
pub record Sign : Type 0 where
  pub number : ℕ
  pub direction : Direction

abbrev sign_of : ℕ → Direction → Sign
sign_of n d = record { number = n; direction = d }

abbrev pub kept_signs : List Sign
kept_signs =
    sign_of 0 D.Coda ∷ sign_of 2 D.Segno ∷ sign_of 4 D.Fine ∷ sign_of 5 D.DaCapo ∷ sign_of 6 D.DaCapoAlCoda ∷ sign_of 8 D.DaCapoAlFine
    ∷ sign_of 9 D.DalSegno ∷ sign_of 10 D.DalSegnoAlCoda ∷ sign_of 12 D.DalSegnoAlFine ∷ sign_of 17 D.ToCoda ∷ []

abbrev pub other_signs : List ℕ
other_signs = 1 ∷ 3 ∷ 7 ∷ 11 ∷ 13 ∷ 14 ∷ 15 ∷ 16 ∷ 18 ∷ []

-- whether a sign stands at a bar, whose number in the file is one more
abbrev pub stands_at : List ℕ → ℕ → ℕ → Bool
stands_at numbers bar n = eqb (get_or numbers n 0) (bar + 1)

-- a bar keeps its first
abbrev pub first_sign : List ℕ → ℕ → List Sign → Direction
first_sign numbers bar [] = D.NoDirection
first_sign numbers bar (e ∷ es) = pick (stands_at numbers bar e.number) e.direction (first_sign numbers bar es)

abbrev pub one_if : Bool → ℕ
one_if true = 1
one_if false = 0

abbrev pub signs_at : List ℕ → ℕ → List Sign → ℕ
signs_at numbers bar [] = 0
signs_at numbers bar (e ∷ es) = one_if (stands_at numbers bar e.number) + signs_at numbers bar es

-- more than one adds one loss for that bar
unfoldable pub several : List ℕ → ℕ → Bool
several numbers bar = ltb 1 (signs_at numbers bar kept_signs)

unfoldable pub direction_at : List ℕ → ℕ → Direction
direction_at numbers bar = first_sign numbers bar kept_signs

abbrev pub unsupported : List ℕ → List ℕ → ℕ
unsupported numbers [] = 0
unsupported numbers (e ∷ es) = one_if (ltb 0 (get_or numbers e 0)) + unsupported numbers es

-- ---- keys: the last key read in any bar so far; C major at the start
abbrev pub c_major : Key
c_major = Fifths (pos 0) Major

abbrev pub key_after : Key → Key → Key
key_after before NoKey = before
key_after before (Fifths n m) = Fifths n m

-- flats are preferred where it is below 0 (docs/RULES.md 16)
abbrev pub flat_after : Bool → Key → Bool
flat_after flat NoKey = flat
flat_after flat (Fifths (pos n) m) = false
flat_after flat (Fifths (negsuc n) m) = true

-- ---- whether time or key changed: never in bar 0; the key is compared with the last key read (docs/RULES.md 10)
abbrev pub same_time : Time → Time → Bool
same_time a b = eqb a.numerator b.numerator && eqb a.denominator b.denominator

abbrev pub same_key : Key → Key → Bool
same_key a b = eqb (fifths_word a) (fifths_word b) && eqb (mode_word a) (mode_word b)

abbrev pub is_key : Key → Bool
is_key NoKey = false
is_key (Fifths n m) = true

unfoldable pub key_changed : ℕ → Key → Key → Bool
key_changed bar before key = ltb 0 bar && is_key key && not (same_key key before)

unfoldable pub time_changed : ℕ → Time → Time → Bool
time_changed bar before time = ltb 0 bar && not (same_time before time)

-- ---- endings: place among equal neighbours; a neighbour that does not exist has ending 0 (docs/RULES.md 9)
abbrev pub goes_on : Before → Header → Bool
goes_on before h = not (eqb h.ending 0) && eqb before.ending h.ending

-- a bar's place while no bar follows it
abbrev pub last_place : Before → Header → EndingPlace
last_place before h = pick (eqb h.ending 0) NoPlace (pick (eqb before.ending h.ending) End BeginEnd)

-- a bar's place once its neighbour after it has the same ending
abbrev pub followed : EndingPlace → EndingPlace
followed NoPlace = NoPlace
followed Begin = Begin
followed Mid = Mid
followed End = Mid
followed BeginEnd = Begin

abbrev pub ending_entry : ℕ → Option ℕ
ending_entry n = pick (eqb n 0) None (Some n)

abbrev pub passes_entry : ℕ → Option ℕ
passes_entry m = pick (eqb m 0) None (Some m)

-- a double bar stands where no repeat ends
unfoldable pub bar_of : List ℕ → ℕ → Time → Header → Before → Bar
bar_of numbers bar time h before =
    record {
      time = h.time;
      key = h.key;
      changed = record { time = time_changed bar time h.time; key = key_changed bar before.key h.key };
      repeats = record { start = h.repeat_start; end = h.repeat_end; double = h.double_bar && not h.repeat_end };
      ending = ending_entry h.ending;
      passes = passes_entry h.passes;
      place = last_place before h;
      marker = h.marker;
      direction = direction_at numbers bar;
      tempo = None;
    }

-- beside an index that is out of range
unfoldable pub no_bar : Bar
no_bar =
    record {
      time = record { numerator = 0; denominator = 0 };
      key = NoKey;
      changed = record { time = false; key = false };
      repeats = record { start = false; end = false; double = false };
      ending = None;
      passes = None;
      place = NoPlace;
      marker = record { start = 0; end = 0 };
      direction = D.NoDirection;
      tempo = None;
    }
