-- Bytes as upper-case hexadecimal digits. Assumes nothing.
use Rattle.std.specs.Prelude.{ℕ, ◌+◌, ◌/◌, ◌%◌, cond, List, [], ◌∷◌, ltb}
use Rattle.rows.specs.Walk.{pieces}

-- the ASCII code of a digit below 16: '0' to '9', then 'A' to 'F'
abbrev pub glyph : ℕ → ℕ
glyph d = cond (ltb d 10) (48 + d) (55 + d)

abbrev pub hex_byte : ℕ → List ℕ
hex_byte b = glyph (b / 16) ∷ glyph (b % 16) ∷ []

-- a hyphen where there are none
abbrev pub shown : List ℕ → List ℕ
shown [] = 45 ∷ []
shown (b ∷ bs) = pieces hex_byte (b ∷ bs)
