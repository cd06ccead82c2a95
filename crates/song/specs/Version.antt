-- Version: a length byte, then 30 bytes. After trimming: "FICHIER GUITAR PRO v", an optional "+", digits, ".", digits, both up
-- to 65,535; the rest is ignored.
use Rattle.std.specs.Prelude.{ℕ, suc, ◌+◌, ◌*◌, ◌-◌, List, [], ◌∷◌, Bool, true, false, get_or, take, drop, leb, eqb}
use Rattle.format.specs.Text.{pick}
use Rattle.format.specs.Prog.{Prog, ret, refuse, wrong_version, bind, when_le}
use Rattle.format.specs.Fields.{fixed_string}

-- "FICHIER GUITAR PRO v"
abbrev pub PREFIX : List ℕ
PREFIX = 70 ∷ 73 ∷ 67 ∷ 72 ∷ 73 ∷ 69 ∷ 82 ∷ 32 ∷ 71 ∷ 85 ∷ 73 ∷ 84 ∷ 65 ∷ 82 ∷ 32 ∷ 80 ∷ 82 ∷ 79 ∷ 32 ∷ 118 ∷ []

-- whether a text starts so
unfoldable pub starts : List ℕ → List ℕ → Bool
starts [] l = true
starts (p ∷ ps) [] = false
starts (p ∷ ps) (x ∷ xs) = pick (eqb p x) (starts ps xs) false

-- a Guitar Pro 3, 4 or 5 file starts with "FICHIER GUITAR PRO " after its length byte, whatever that says (docs/RULES.md 2)
unfoldable pub is_family : List ℕ → Bool
is_family l = starts (take 19 PREFIX) (drop 1 l)

-- "0" to "9"
unfoldable pub is_digit : ℕ → Bool
is_digit x = pick (leb 48 x) (leb x 57) false

-- how many digits stand at the start, and the number that they make after others that made n
unfoldable pub digits_len : List ℕ → ℕ
digits_len [] = 0
digits_len (x ∷ xs) = pick (is_digit x) (suc (digits_len xs)) 0

unfoldable pub digits_from : ℕ → List ℕ → ℕ
digits_from n [] = n
digits_from n (x ∷ xs) = pick (is_digit x) (digits_from (10 * n + (x - 48)) xs) n

-- at least one digit, and a number of up to 65,535
unfoldable pub short : List ℕ → Bool
short l = pick (eqb (digits_len l) 0) false (leb (digits_from 0 l) 65535)

-- an optional "+" is left out
unfoldable pub unplussed : List ℕ → List ℕ
unplussed l = pick (eqb (get_or l 0 0) 43) (drop 1 l) l

-- digits, ".", digits: hundreds times major plus minor, worked out without wrapping; 0 where it is unreadable
unfoldable pub version_number : List ℕ → ℕ
version_number l =
    pick (short l)
    (pick (eqb (get_or l (digits_len l) 0) 46)
    (pick (short (drop (digits_len l + 1) l)) (100 * digits_from 0 l + digits_from 0 (drop (digits_len l + 1) l)) 0)
    0)
    0

-- the number of a version's text, after cut and trim
unfoldable pub version_of : List ℕ → ℕ
version_of l = pick (starts PREFIX l) (version_number (unplussed (drop 20 l))) 0

-- a number not in 300..599 is refused
unfoldable pub accepted : ℕ → Prog ℕ
accepted v = when_le 300 v (when_le v 599 (ret v) (refuse wrong_version)) (refuse wrong_version)

-- "bytes of a fixed field past its stated length" are passed over
unfoldable pub version : Prog ℕ
version = bind (fixed_string 30) (λ t. accepted (version_of t.bytes))
