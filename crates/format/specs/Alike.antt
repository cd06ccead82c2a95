-- What an answer depends on.
use Rattle.std.specs.Prelude.{ℕ, ◌+◌, ◌≤◌, ◌≡◌, List, ◌↔◌, ◌⊎◌, length, get_or}
use Rattle.format.specs.Sign.{not_negative}
use Rattle.format.specs.Step.{width, seen, Keeps, Signs}
use Rattle.format.specs.Prog.{Prog, ret, refuse, read}

-- Two files are alike for a program at a position: what is handed on is the same, read by read, as far as the program goes. Of the bytes
-- that are passed over, and of what comes after the end, it says nothing
abbrev pub Alike : {A : Type 0} → Prog A → List ℕ → List ℕ → ℕ → Type 0
Alike (ret a) s t at = Unit
Alike (refuse r) s t at = Unit
Alike (read k f) s t at = (at + width k ≤ length s ↔ at + width k ≤ length t)
    × (at + width k ≤ length s → (seen k s at ≡ seen k t at) × Alike (f (seen k s at)) s t (at + width k))

-- the positions whose bytes reach the answer, or decide it: all but those that are passed over, those whose sign alone counts and those
-- after the end
abbrev pub Kept : {A : Type 0} → Prog A → List ℕ → ℕ → ℕ → Type 0
Kept (ret a) s at i = ⊥
Kept (refuse r) s at i = ⊥
Kept (read k f) s at i = Keeps k s at i ⊎ Kept (f (seen k s at)) s (at + width k) i

-- the positions of whose bytes the sign alone counts
abbrev pub Signed : {A : Type 0} → Prog A → List ℕ → ℕ → ℕ → Type 0
Signed (ret a) s at i = ⊥
Signed (refuse r) s at i = ⊥
Signed (read k f) s at i = Signs k s at i ⊎ Signed (f (seen k s at)) s (at + width k) i

-- t has the kept bytes of s, and the signs
pub record Same {A : Type 0} (p : Prog A) (s t : List ℕ) (at : ℕ) : Type 0 where
  pub kept : (i : ℕ) → Kept p s at i → get_or s i 0 ≡ get_or t i 0
  pub signs : (i : ℕ) → Signed p s at i → not_negative (get_or s i 0) ≡ not_negative (get_or t i 0)
