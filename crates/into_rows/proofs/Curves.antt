-- The points of a bend, gathered where they stand in the file.
use Prim.Native.Nat.{ℕ, zero, suc, ◌+◌, ◌-◌, ◌<◌, ◌≤◌, min}
use native.Mathlib.Omega.{arith}
use native.Mathlib.Decide.{dec_le}
use native.Mathlib.Nat.{min-eq_left, min-eq_right}
use mathlib.Core.Path.{◌≡◌, refl}
use mathlib.Core.List.{List, [], ◌∷◌, map}
use lib.ListN.{length, get_or-eq_default}
use Rattle.model.specs.declared.Point.{Point}
use Rattle.curve.specs.Bend.{point_of, finish}
use Rattle.note.specs.declared.bend.Bend.{Bend}
use Rattle.note.specs.Points.{BendPoint, word, points_at, bend_in}
use Rattle.score.specs.Rows.{curve_of}

-- a point of the file as one of a curve
abbrev pub point_in : BendPoint → Point
point_in p = point_of p.offset p.value

-- ---- where they stand

-- one point, and those after it
pub points_step : (s : List ℕ) (at n : ℕ) → 0 < n
    → map point_in (points_at s at n) ≡ point_of (word s at) (word s (at + 4)) ∷ map point_in (points_at s (at + 9) (n - 1))
unfolding points_at
points_step s at zero h = absurd (omega arith)
points_step s at (suc n) h = let e : suc n - 1 ≡ n = omega arith in rw e

-- past the end of the file every byte is 0, so all points are alike
word_past : (s : List ℕ) (at : ℕ) → length s ≤ at → word s at ≡ 0
unfolding word
word_past s at h =
    rw (
      get_or-eq_default s 0 {n = at} h,
      get_or-eq_default s 0 {n = at + 1} (omega arith),
      get_or-eq_default s 0 {n = at + 2} (omega arith),
      get_or-eq_default s 0 {n = at + 3} (omega arith),
    )

past_alike : (s : List ℕ) (n at to : ℕ) → length s ≤ at → length s ≤ to → points_at s at n ≡ points_at s to n
unfolding points_at
past_alike s zero at to h k = refl
past_alike s (suc n) at to h k =
    rw (
      word_past s at h,
      word_past s to k,
      word_past s (at + 4) (omega arith),
      word_past s (to + 4) (omega arith),
      past_alike s n (at + 9) (to + 9) (omega arith) (omega arith),
    )

pub points_held : (s : List ℕ) (at n : ℕ) → points_at s (min at (length s)) n ≡ points_at s at n
points_held s at n = elim (dec_le at (length s)) [
  | yes d ↦ rw (min-eq_left d)
  | no d ↦
      let e : min at (length s) ≡ length s = min-eq_right (omega arith) in
      rw e (past_alike s n (length s) at (omega arith) (omega arith))
]

-- a bend without points has no curve
pub no_curve : (s : List ℕ) (b : Bend) → b.count ≡ 0 → curve_of (bend_in s b) ≡ []
unfolding finish points_at
no_curve s b e = rw e
