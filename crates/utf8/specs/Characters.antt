-- Texts of windows-1252 as UTF-8 (document 02, l).
use Rattle.std.specs.Prelude.{ℕ, ◌+◌, ◌-◌, ◌/◌, ◌%◌, List, [], ◌∷◌, ◌++◌, take, get_or, leb, ltb}
use Rattle.format.specs.Text.{pick}

-- the windows-1252 index of the WHATWG Encoding Standard: the code points of the bytes 0x80 to 0x9F, in their order
unfoldable pub index : List ℕ
index =
    0x20AC ∷ 0x81 ∷ 0x201A ∷ 0x192 ∷ 0x201E ∷ 0x2026 ∷ 0x2020 ∷ 0x2021
    ∷ 0x2C6 ∷ 0x2030 ∷ 0x160 ∷ 0x2039 ∷ 0x152 ∷ 0x8D ∷ 0x17D ∷ 0x8F
    ∷ 0x90 ∷ 0x2018 ∷ 0x2019 ∷ 0x201C ∷ 0x201D ∷ 0x2022 ∷ 0x2013 ∷ 0x2014
    ∷ 0x2DC ∷ 0x2122 ∷ 0x161 ∷ 0x203A ∷ 0x153 ∷ 0x9D ∷ 0x17E ∷ 0x178 ∷ []

-- the code point of a byte: the index has those of these 32, every other byte is its own
unfoldable pub code_point : ℕ → ℕ
code_point b = pick (leb 0x80 b) (pick (leb b 0x9F) (get_or index (b - 0x80) 0) b) b

-- UTF-8 of a code point below 0x10000: one, two or three bytes, by its size
unfoldable pub encoded : ℕ → List ℕ
encoded c =
    pick (ltb c 0x80) (c ∷ [])
    (pick (ltb c 0x800) ((0xC0 + c / 64) ∷ (0x80 + c % 64) ∷ [])
    ((0xE0 + c / 4096) ∷ (0x80 + c / 64 % 64) ∷ (0x80 + c % 64) ∷ []))

-- three bytes: these, and zeros behind them
abbrev pub filled : List ℕ → List ℕ
filled bs = take 3 (bs ++ (0 ∷ 0 ∷ 0 ∷ []))

-- the character of a byte
unfoldable pub character : ℕ → List ℕ
character b = encoded (code_point b)

-- the characters of a text's bytes, one after another
unfoldable pub written : List ℕ → List ℕ
written [] = []
written (b ∷ bs) = character b ++ written bs
