-- The worked examples of document 01, "How much each promise says", as a single table under a single theorem; and two more of its
-- sentences on versions. All by computation.
use Rattle.std.specs.Prelude.{Some}
use Prim.Native.Nat.{ℕ, ◌-◌}
use mathlib.Core.Path.{◌≡◌, refl}
use mathlib.Core.List.{List, [], ◌∷◌, ◌++◌}
use lib.Count.{ones, ones_in, count_trailing_zeros}
use lib.IntN.{pos, negsuc}
use Rattle.format.specs.Text.{blank, cut_len, lead_len, keep_len, keep_next, cut, trim, range_of, text_of}
use Rattle.format.specs.Prog.{Prog, ret, refuse, wrong_version, when_le, run, ok}
use Rattle.format.specs.Fields.{text_bytes}
use Rattle.model.specs.declared.Cents.{Cents}
use Rattle.song.specs.Version.{PREFIX, starts, is_digit, digits_len, digits_from, short, unplussed, version_number, version_of, accepted}
use Rattle.header.specs.Header.{common_time, power_of_two, time_of, ending_of, passes_of}
use Rattle.curve.specs.Held.{held}
use Rattle.curve.specs.Bend.{point, place, point_of, finish, larger, curve_height}

-- a version by its text after "FICHIER GUITAR PRO v"
abbrev read : List ℕ → Prog ℕ
read number = accepted (version_of (PREFIX ++ number))

abbrev up : ℕ → Cents
up n = record { 0 = pos n }

abbrev down : ℕ → Cents
down n = record { 0 = negsuc (n - 1) }

pub record Worked : Type 0 where
  -- v2.100 is 300 and accepted
  pub v2_100 : read (50 ∷ 46 ∷ 49 ∷ 48 ∷ 48 ∷ []) ≡ ret 300
  -- v5.100 is 600 and refused
  pub v5_100 : (version_of (PREFIX ++ (53 ∷ 46 ∷ 49 ∷ 48 ∷ 48 ∷ [])) ≡ 600) × (read (53 ∷ 46 ∷ 49 ∷ 48 ∷ 48 ∷ []) ≡ refuse wrong_version)
  -- v5. is refused
  pub v5_point : read (53 ∷ 46 ∷ []) ≡ refuse wrong_version
  -- v656.300 is refused: no wrapping
  pub v656_300 : read (54 ∷ 53 ∷ 54 ∷ 46 ∷ 51 ∷ 48 ∷ 48 ∷ []) ≡ refuse wrong_version
  -- time 0/4 and time 3/6: both 4
  pub time_0_4 : time_of 0 4 ≡ common_time
  pub time_3_6 : time_of 3 6 ≡ common_time
  -- masks 0x06 (number 2, passes 2 and 3: bits 1 and 2) and 0x04 (3, no list)
  pub mask_06 : (ending_of 0x06 ≡ 2) × (passes_of 0x06 ≡ 0b110)
  pub mask_04 : (ending_of 0x04 ≡ 3) × (passes_of 0x04 ≡ 0)
  -- text bytes 32, 65, 160, 0, 66 giving 65, which stands from 1 to 2
  pub text : run (text_bytes 5) (32 ∷ 65 ∷ 160 ∷ 0 ∷ 66 ∷ []) 0 ≡ ok (record { range = record { start = 1; end = 2 }; bytes = 65 ∷ [] }) 5
  -- offset 59 as 983
  pub offset_59 : (value : ℕ) → place (point_of 59 value) ≡ 983
  -- heights -100 then 100 giving 100
  pub heights_100 : curve_height (finish (point 0 (down 100) ∷ point 1000 (up 100) ∷ [])) ≡ Some (up 100)

pub worked : Worked
unfolding starts is_digit digits_len digits_from short unplussed version_number version_of accepted when_le time_of power_of_two ending_of passes_of ones ones_in count_trailing_zeros run text_bytes text_of cut trim range_of blank cut_len lead_len keep_len keep_next held point_of finish curve_height larger
worked =
    record {
      v2_100 = refl;
      v5_100 = (refl, refl);
      v5_point = refl;
      v656_300 = refl;
      time_0_4 = refl;
      time_3_6 = refl;
      mask_06 = (refl, refl);
      mask_04 = (refl, refl);
      text = refl;
      offset_59 = λ value. refl;
      heights_100 = refl;
    }
