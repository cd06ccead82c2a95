-- Reading UTF-8 back: the bytes whose characters were written, sought among all 256. There is no other table: proofs/Theorems.antt has it
-- that what is accepted is what `written` gives, and nothing else.
use Rattle.std.specs.Prelude.{ℕ, zero, suc, Bool, true, false, ◌&&◌, List, [], ◌∷◌, length, drop, eqb}
use Rattle.std.specs.Prelude.{Option, None, Some}
use Rattle.format.specs.Text.{pick}
use Rattle.utf8.specs.Characters.{character}

-- whether a text begins with these bytes
unfoldable pub begins : List ℕ → List ℕ → Bool
begins [] us = true
begins (x ∷ xs) [] = false
begins (x ∷ xs) (u ∷ us) = eqb x u && begins xs us

-- of the bytes below n, sought from the last one down, the first whose character stands at the front
unfoldable pub among : ℕ → List ℕ → Option ℕ
among zero us = None
among (suc n) us = pick (begins (character n) us) (Some n) (among n us)

-- the byte whose character stands at the front
unfoldable pub front : List ℕ → Option ℕ
front us = among 256 us

-- a byte before those that follow it, where they are read back
abbrev pub before : ℕ → Option (List ℕ) → Option (List ℕ)
before b None = None
before b (Some bs) = Some (b ∷ bs)

abbrev pub followed : Option ℕ → (ℕ → Option (List ℕ)) → Option (List ℕ)
followed None more = None
followed (Some b) more = before b (more b)

-- n characters at most: each has a byte or more, so a text has no more than its length
unfoldable pub back_by : ℕ → List ℕ → Option (List ℕ)
back_by zero [] = Some []
back_by zero (u ∷ us) = None
back_by (suc n) [] = Some []
back_by (suc n) (u ∷ us) = followed (front (u ∷ us)) (λ b. back_by n (drop (length (character b)) (u ∷ us)))

unfoldable pub back : List ℕ → Option (List ℕ)
back us = back_by (length us) us
