-- Laws of one step: where its bytes stand, what becomes of each of them, and what it takes for two files to hand on the same. What is
-- said of programs of reads goes through a program once and has these for its steps.
use Prim.Native.Nat.{ℕ, ◌+◌, ◌-◌, ◌≤◌, ◌<◌}
use native.Mathlib.Omega.{arith}
use native.Mathlib.Decide.{dec_le}
use mathlib.Core.Logic.{◌⊎◌, inl, inr}
use mathlib.Core.Path.{◌≡◌, refl, ap, sym, ◌∙◌}
use mathlib.Core.List.{List}
use lib.ListN.{length, get_or, take, drop, length-take, length-drop}
use lib.Seq.{ext_get_or, get_or-take, get_or-drop}
use Rattle.format.specs.Text.{zero_at}
use Rattle.format.specs.Count.{little}
use Rattle.format.specs.Sign.{not_negative}
use Rattle.format.specs.Step.{Step, byte, pass, sign, text, counted, position, width, seen, Keeps, Signs, Passes}
use Rattle.format.proofs.Run.{first_byte}
use Rattle.format.proofs.Text.{text_by_cut}

-- ---- within its bytes
module _ (s : List ℕ) (at i : ℕ) where
  pub keeps_within : (k : Step) → Keeps k s at i → (at ≤ i) × (i < at + width k)
  keeps_within byte h = omega arith
  keeps_within (pass n) h = absurd h
  keeps_within sign h = absurd h
  keeps_within (text n) h = omega arith
  keeps_within (counted c) h = h
  keeps_within position h = absurd h

  pub signs_within : (k : Step) → Signs k s at i → (at ≤ i) × (i < at + width k)
  signs_within byte h = absurd h
  signs_within (pass n) h = absurd h
  signs_within sign h = omega arith
  signs_within (text n) h = absurd h
  signs_within (counted c) h = absurd h
  signs_within position h = absurd h

pub passes_within : (s : List ℕ) (at k n : ℕ) (step : Step) → Passes step s at k n → (at ≤ k) × (k + n ≤ at + width step)
passes_within s at k n byte h = absurd h
passes_within s at k n (pass m) h = omega arith
passes_within s at k n sign h = absurd h
passes_within s at k n (text m) h = omega arith
passes_within s at k n (counted c) h = absurd h
passes_within s at k n position h = absurd h

-- ---- each of them is kept, or its sign alone counts, or it is passed over; and no two of these
module _ (s : List ℕ) (at i : ℕ) where
  pub signs_not_kept : (k : Step) → Signs k s at i → Keeps k s at i → ⊥
  signs_not_kept byte h x = absurd h
  signs_not_kept (pass n) h x = absurd h
  signs_not_kept sign h x = absurd x
  signs_not_kept (text n) h x = absurd h
  signs_not_kept (counted c) h x = absurd h
  signs_not_kept position h x = absurd h

  module _ (k n : ℕ) (l : k ≤ i) (b : i < k + n) where
    pub passes_not_kept : (step : Step) → Passes step s at k n → Keeps step s at i → ⊥
    passes_not_kept byte h x = absurd h
    passes_not_kept (pass m) h x = absurd x
    passes_not_kept sign h x = absurd h
    passes_not_kept (text m) h x = omega arith
    passes_not_kept (counted c) h x = absurd h
    passes_not_kept position h x = absurd h

    pub passes_not_signed : (step : Step) → Passes step s at k n → Signs step s at i → ⊥
    passes_not_signed byte h x = absurd h
    passes_not_signed (pass m) h x = absurd x
    passes_not_signed sign h x = absurd h
    passes_not_signed (text m) h x = absurd x
    passes_not_signed (counted c) h x = absurd h
    passes_not_signed position h x = absurd h

  -- a run of bytes passed over, and i among them
  abbrev pub Over : Step → Type 0
  Over step = (k : ℕ) × (n : ℕ) × Passes step s at k n × (k ≤ i) × (i < k + n)

  pub one_of_three : (step : Step) → at ≤ i → i < at + width step → Keeps step s at i ⊎ (Signs step s at i ⊎ Over step)
  one_of_three byte l h = inl (omega arith)
  one_of_three (pass n) l h = inr (inr (at, n, (refl, refl), l, h))
  one_of_three sign l h = inr (inl (omega arith))
  one_of_three (text n) l h = elim (dec_le i (zero_at s at n)) [
    | yes c ↦ inl (l, h, c)
    | no c ↦ inr (inr (zero_at s at n + 1, at + n - (zero_at s at n + 1), (refl, omega arith), omega arith, omega arith))
  ]
  one_of_three (counted c) l h = inl (l, h)
  one_of_three position l h = let w : ⊥ = omega arith in absurd w

-- ---- the same is handed on where the kept bytes are the same, and the signs
module _ (s t : List ℕ) (at n : ℕ) (d : at + n ≤ length s) (e : at + n ≤ length t) where
  same_length : length (take n (drop at s)) ≡ length (take n (drop at t))
  same_length = simp (length-take, length-drop) (omega arith)

  -- byte i of both parts, by byte at + i of both files
  same_at_lem : (i : ℕ) → i < length (take n (drop at s)) → (i < n → get_or s (at + i) 0 ≡ get_or t (at + i) 0)
      → get_or (take n (drop at s)) i 0 ≡ get_or (take n (drop at t)) i 0
  same_at_lem i l h =
      let k : i < n = omega (arith, simp (length-take, length-drop) at l) in
      rw (get_or-take n (drop at s) i 0 k, get_or-take n (drop at t) i 0 k, get_or-drop at s i 0, get_or-drop at t i 0) (h k)

pub seen_by : (k : Step) (s t : List ℕ) (at : ℕ) → at + width k ≤ length s → at + width k ≤ length t
    → ((i : ℕ) → Keeps k s at i → get_or s i 0 ≡ get_or t i 0)
    → ((i : ℕ) → Signs k s at i → not_negative (get_or s i 0) ≡ not_negative (get_or t i 0)) → seen k s at ≡ seen k t at
seen_by byte s t at d e h g = first_byte s at ∙ h at refl ∙ sym (first_byte t at)
seen_by (pass n) s t at d e h g = refl
seen_by sign s t at d e h g = rw (first_byte s at, first_byte t at) (g at refl)
seen_by (text n) s t at d e h g =
    text_by_cut at (take n (drop at s)) (take n (drop at t)) (same_length s t at n d e) (λ i l c.
    same_at_lem s t at n d e i l (λ k. h (at + i) (omega arith, omega arith, omega arith)))
seen_by (counted c) s t at d e h g =
    ap little
    (ext_get_or 0 (take 4 (drop at s)) (take 4 (drop at t)) (same_length s t at 4 d e) (λ i l.
    same_at_lem s t at 4 d e i l (λ k. h (at + i) (omega arith, omega arith))))
seen_by position s t at d e h g = refl
