-- Where an entry starts, cut at the table's end: what is handed out of it.
use Prim.Native.Nat.{ℕ, ◌+◌, ◌*◌, ◌-◌, ◌≤◌, ◌<◌, min}
use mathlib.Core.Path.{◌≡◌, ◌∙◌, refl}
use mathlib.Core.List.{List, []}
use native.Mathlib.Omega.{arith}
use native.Mathlib.Decide.{dec_le}
use native.Mathlib.Nat.{mul-zero, min-eq_left, min-eq_right, min-le_left}
use borrow.Author.Tests.{le-leb, lt-leb}
use denote.Bor.{Bor}
use lib.ListN.{length, take, drop, length-drop}
use lib.Seq.{take_all}
use Rattle.std.specs.Prelude.{Option, Some, None}
use Rattle.std.specs.Option.{unwrap_or}
use Rattle.std.specs.Slice.{IsGetRangeResult}
use Rattle.std.proofs.Common.{inl, inr}
use Rattle.std.proofs.lemmas.Slice.{between_from_start}
use Rattle.tables.specs.Table.{entry}

-- a whole entry
whole : (i s n at : ℕ) → at ≡ min (i * s) n → s ≤ n - at → at ≡ i * s
whole i s n at e h = elim (dec_le (i * s) n) [
  | yes d ↦ e ∙ min-eq_left d
  | no d ↦
      let f : min (i * s) n ≡ n = min-eq_right (omega arith) in
      let z : s ≡ 0 = omega arith in
      let m : i * s ≡ 0 = rw (z, mul-zero) in
      absurd (omega arith)
]

module _ (t : List ℕ) (i s at : ℕ) (e : at ≡ min (i * s) (length t)) where
  -- what there is from an entry's start on
  abbrev pub rest : List ℕ
  rest = take (length t - at) (drop at t)

  rest_all : rest ≡ drop at t
  rest_all = take_all (length t - at) (drop at t) (omega (arith, length-drop at t))

  rest_length : length rest ≡ length t - at
  rest_length = rw (rest_all, length-drop) refl

  -- the entry, where the rest has a whole one, and else none
  pub entry_got : (r : Option (Bor (List ℕ))) (x : Bor (List ℕ)) (p : _) → IsGetRangeResult rest 0 s r → x ≡ unwrap_or r (record { ref_ptr = p; now = [] }) → x.now ≡ entry t i s
  unfolding entry
  entry_got (Some y) x p h g =
      let w : s ≤ length t - at = rw rest_length at h.0.1 in
      let m : at ≡ i * s = whole i s (length t) at e w in
      let l : i * s + s ≤ length t = omega (arith, min-le_left (i * s) (length t)) in
      rw (g, le-leb _ _ l, h.0.2, between_from_start, rest_all, m) refl
  entry_got None x p h g =
      let w : length t - at < s = elim h.0 [ inl z ↦ absurd (omega arith) | inr y ↦ rw rest_length at y ] in
      let l : length t < i * s + s = omega (arith, min-le_left (i * s) (length t)) in
      rw (g, lt-leb _ _ l)
