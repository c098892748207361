-- The quoted form of a text: ASCII on one line, between two quotation marks.
use Rattle.std.specs.Prelude.{ℕ, ◌/◌, ◌%◌, ◌||◌, ◌&&◌, List, [], ◌∷◌, ◌++◌, nat_le, ◌==◌, flat_map, if◌then◌else◌}
use Rattle.std.specs.Char.{digit_char}

-- a unit by its number: `\u` and four lower-case hexadecimal digits
abbrev pub unit_escape : ℕ → List ℕ
unit_escape u = 0x5C ∷ 0x75 ∷ digit_char (u / 0x1000) ∷ digit_char (u / 0x100 % 0x10) ∷ digit_char (u / 0x10 % 0x10) ∷ digit_char (u % 0x10) ∷ []

-- one unit: a quotation mark or a backslash after a backslash, another unit from U+0020 to U+007E
-- as itself, and each other by its number
unfoldable pub quoted_unit : ℕ → List ℕ
quoted_unit u = if u == 0x22 || u == 0x5C then 0x5C ∷ u ∷ []
    else (if nat_le 0x20 u && nat_le u 0x7E then u ∷ []
    else unit_escape u)

-- the whole text, between two quotation marks
abbrev pub quoted_text : List ℕ → List ℕ
quoted_text text = 0x22 ∷ flat_map quoted_unit text ++ 0x22 ∷ []
