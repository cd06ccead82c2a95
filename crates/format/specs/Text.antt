-- A kept text: cut at the first zero byte, then trimmed at both ends.
use Rattle.std.specs.Prelude.{ℕ, zero, suc, ◌+◌, List, [], ◌∷◌, Bool, true, false, length, take, drop, leb, eqb}
use Rattle.std.proofs.Math.Seq.{slice}
use Rattle.format.specs.declared.Range.{Range}

-- what is left of a text, and where it stands in the file
pub record TextRead : Type 0 where
  pub range : Range
  pub bytes : List ℕ

abbrev pub pick : {X : Type 0} → Bool → X → X → X
pick true a b = a
pick false a b = b

-- bytes 9 to 13, 32 and 160; 0x85 is an ellipsis and stays
unfoldable pub blank : ℕ → Bool
blank x = pick (leb 9 x) (pick (leb x 13) true (pick (eqb x 32) true (eqb x 160))) false

-- how many bytes stand before the first zero
unfoldable pub cut_len : List ℕ → ℕ
cut_len [] = 0
cut_len (x ∷ xs) = pick (eqb x 0) 0 (suc (cut_len xs))

-- where the first zero byte stands among the n bytes at a position of the file s; where there is none, their end
abbrev pub zero_at : List ℕ → (at n : ℕ) → ℕ
zero_at s at n = at + cut_len (take n (drop at s))

-- how many blanks stand at the start
unfoldable pub lead_len : List ℕ → ℕ
lead_len [] = 0
lead_len (x ∷ xs) = pick (blank x) (suc (lead_len xs)) 0

-- how long it is without the blanks at its end
unfoldable pub keep_next : ℕ → ℕ → ℕ
keep_next x zero = pick (blank x) 0 1
keep_next x (suc k) = suc (suc k)

unfoldable pub keep_len : List ℕ → ℕ
keep_len [] = 0
keep_len (x ∷ xs) = keep_next x (keep_len xs)

unfoldable pub cut : List ℕ → List ℕ
cut l = take (cut_len l) l

unfoldable pub trim : List ℕ → List ℕ
trim l = take (keep_len (drop (lead_len l) l)) (drop (lead_len l) l)

-- n bytes from start on; an empty text is 0 and 0
unfoldable pub range_of : ℕ → ℕ → Range
range_of start zero = record { start = 0; end = 0 }
range_of start (suc n) = record { start = start; end = start + suc n }

-- the text of the bytes l that stand at a position of the file
unfoldable pub text_of : ℕ → List ℕ → TextRead
text_of at l = record { range = range_of (at + lead_len (cut l)) (length (trim (cut l))); bytes = trim (cut l) }

unfoldable pub no_text : TextRead
no_text = record { range = record { start = 0; end = 0 }; bytes = [] }

-- the text whose range is known, of a file
abbrev pub text_in : List ℕ → Range → TextRead
text_in s r = record { range = r; bytes = slice r.start r.end s }
