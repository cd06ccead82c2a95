-- Document 01, "Bytes passed over": what bends, whammies and grace notes pass over.
use Prim.Native.Nat.{ℕ, zero, suc, ◌+◌, ◌<◌}
use native.Mathlib.Omega.{arith}
use mathlib.Core.Path.{◌≡◌, sym}
use mathlib.Core.List.{List}
use Rattle.format.specs.declared.Counted.TheVariants as C
use Rattle.format.specs.Prog.{ok, run}
use Rattle.format.specs.Fields.{skip, count}
use Rattle.format.proofs.Run.{ret_ok}
use Rattle.note.specs.Points.{BendPoint, bend_point, bend_points, bend, whammy}
use Rattle.note.specs.Marks.{grace_note}
use Rattle.format.specs.Passed.{Skips, Stands, itself, first, then}
use Rattle.format.proofs.Passed.{both_read, skips_first, stands_skips}
use Rattle.format.proofs.PassedFields.{next_byte, next_number, next_skip, skip_passed}

module _ {s : List ℕ} {at : ℕ} where
  -- "bend type, value": a byte and a number
  pub bend_type_value : Skips s at 5 bend at
  unfolding bend
  bend_type_value = skips_first _ (skip_passed 5)

  point_last : Skips s (at + 4 + 4) 1 bend_point at
  unfolding bend_point
  point_last = next_number 4 _ (λ _. next_number 4 _ (λ _. skips_first _ (skip_passed 1)))

  -- "whammy type and value"
  pub whammy_type_value : Skips s at 5 whammy at
  unfolding whammy
  whammy_type_value = skips_first _ (skip_passed 5)

  -- "grace dynamic and duration": the second and the fourth byte
  pub grace_dynamic : (v : ℕ) → Skips s (at + 1) 1 (grace_note v) at
  unfolding grace_note
  grace_dynamic v = next_byte _ (λ _. skips_first _ (skip_passed 1))

  pub grace_duration : (v : ℕ) → Skips s (at + 1 + 1 + 1) 1 (grace_note v) at
  unfolding grace_note
  grace_duration v = next_byte _ (λ _. next_skip 1 _ (next_byte _ (λ _. skips_first _ (skip_passed 1))))

-- a point stands where those before it end
pub point_stands : {s : List ℕ} {from at : ℕ} (n i : ℕ) {ps : List BendPoint} → i < n
    → run (bend_points i) s from ≡ ok ps at → Stands s bend_point at (bend_points n) from
unfolding bend_points
point_stands zero i l e = absurd (omega arith)
point_stands {s = s} {from = from} {at = at} (suc n) zero {ps = ps} l e =
    rw (sym (ret_ok s from at ps _ e).1) (first _ itself)
point_stands {s = s} {from = from} {at = at} (suc n) (suc i) {ps = ps} l e =
    both_read _ _ s from at ps e (λ _ a d e.
    both_read _ _ s a at ps e (λ _ b f e.
    let m : b ≡ at = (ret_ok s b at ps _ e).1 in
    then _ _ d (first _ (point_stands n i (omega arith) (rw m at f)))))

-- "point vibrato": of point i of n, after its offset and its value
pub point_vibrato : {s : List ℕ} {at n m i k : ℕ} {ps : List BendPoint} → run (skip 5) s at ≡ ok tt k
    → run (count C.Points) s k ≡ ok n m → i < n → {q : ℕ} → run (bend_points i) s m ≡ ok ps q
    → Skips s (q + 4 + 4) 1 bend at
unfolding bend
point_vibrato {n = n} {i = i} e f l g = stands_skips (then _ _ e (then _ _ f (point_stands n i l g))) point_last
