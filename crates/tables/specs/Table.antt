-- A lent table is a list of words; an entry is K of them, the stride. What a table shows, for every stride and every kind of entry.
use Rattle.std.specs.Prelude.{ℕ, zero, suc, ◌+◌, ◌*◌, ◌/◌, List, [], ◌∷◌, ◌++◌, length, take, drop, ltb, leb}
use Rattle.std.proofs.lemmas.List.Edits.{sets}
use Rattle.format.specs.Text.{pick}

-- the room of a table: the number of whole entries; none of no words
abbrev pub room : List ℕ → ℕ → ℕ
room t K = length t / K

-- entry i of a table that has it whole, and no words otherwise
unfoldable pub entry : List ℕ → ℕ → ℕ → List ℕ
entry t i K = pick (leb (i * K + K) (length t)) (take K (drop (i * K) t)) []

-- the words of many entries, one after another: f says the words of one
abbrev pub words : {A : Type 0} → (A → List ℕ) → List A → List ℕ
words f [] = []
words f (a ∷ es) = f a ++ words f es

-- the words w from the table's start on, cut where the table ends, and the table's own after them
abbrev pub over : List ℕ → List ℕ → List ℕ
over [] w = []
over (x ∷ t) [] = x ∷ t
over (x ∷ t) (y ∷ w) = y ∷ over t w

-- entries stored in order from entry i on
abbrev pub stores : {A : Type 0} → (A → List ℕ) → ℕ → List ℕ → ℕ → List A → List ℕ
stores f K t i [] = t
stores f K t i (a ∷ es) = stores f K (sets t (i * K) (f a)) (i + 1) es

-- entry p changed by g, the others as they are; nothing where there is no entry p
abbrev pub change : {A : Type 0} → (A → A) → List A → ℕ → List A
change g [] p = []
change g (a ∷ es) zero = g a ∷ es
change g (a ∷ es) (suc p) = a ∷ change g es p

-- one more, as far as a word of 32 bits goes
unfoldable pub one_more : ℕ → ℕ
one_more n = pick (ltb n 4294967295) (n + 1) n
