-- The units of a text and the characters that they make (ECMA-262 §6.1.4, §11.1, §12.2, §12.3, §12.7, §12.9).
use Rattle.std.specs.Prelude.{ℕ, ◌+◌, ◌-◌, ◌*◌, Bool, false, ◌&&◌, ◌||◌, ◌==◌, nat_le, nat_lt, if◌then◌else◌, List, [], ◌∷◌, Option, Some, None}
use Rattle.unicode_ident.specs.Ident.{is_xid_start, is_xid_continue}

-- a text: UTF-16 units, each from 0 to 0xFFFF (§6.1.4)
abbrev pub Text : Type 0
Text = List ℕ

abbrev pub between : ℕ → ℕ → ℕ → Bool
between low high c = nat_le low c && nat_le c high

-- §12.2, WhiteSpace: tab, vertical tab, form feed, U+FEFF and the space separators of Unicode
abbrev pub is_white_space : ℕ → Bool
is_white_space c = (c == 9) || (c == 11) || (c == 12) || (c == 32) || (c == 0xA0) || (c == 0x1680) || between 0x2000 0x200A c
    || (c == 0x202F) || (c == 0x205F) || (c == 0x3000) || (c == 0xFEFF)

-- §12.3, LineTerminator: line feed, carriage return, line separator, paragraph separator
abbrev pub is_line_end : ℕ → Bool
is_line_end c = (c == 10) || (c == 13) || (c == 0x2028) || (c == 0x2029)

-- §12.9.3, DecimalDigit
abbrev pub is_digit : ℕ → Bool
is_digit c = between 48 57 c

-- §12.9.3, HexDigit, and what it is worth (its MV)
abbrev pub is_hex_digit : ℕ → Bool
is_hex_digit c = is_digit c || between 65 70 c || between 97 102 c

abbrev pub hex_value : ℕ → ℕ
hex_value c = if is_digit c then c - 48 else (if between 65 70 c then c - 55 else c - 87)

-- whether the text begins with this unit, or with a digit
abbrev pub begins : ℕ → Text → Bool
begins u [] = false
begins u (c ∷ a) = c == u

abbrev pub begins_digit : Text → Bool
begins_digit [] = false
begins_digit (c ∷ a) = is_digit c

-- what follows the first unit
abbrev pub rest : Text → Text
rest [] = []
rest (c ∷ a) = a

-- what follows the line end that the unit c begins: U+000D U+000A is one (§12.3, LineTerminatorSequence)
abbrev pub past_line_end : ℕ → Text → Text
past_line_end c a = if (c == 13) && begins 10 a then rest a else a

-- §6.1.4: the units of a surrogate pair, and its character
abbrev pub is_high_surrogate : ℕ → Bool
is_high_surrogate c = between 0xD800 0xDBFF c

abbrev pub is_low_surrogate : ℕ → Bool
is_low_surrogate c = between 0xDC00 0xDFFF c

abbrev pub pair_character : ℕ → ℕ → ℕ
pair_character high low = 0x10000 + (high - 0xD800) * 0x400 + (low - 0xDC00)

-- §11.1.4, CodePointAt: the first character and what follows it. A surrogate pair is one character, and any other unit is one
unfoldable pub first_character : Text → Option (ℕ × Text)
first_character [] = None
first_character (c ∷ []) = Some (c, [])
first_character (c ∷ d ∷ a) = if is_high_surrogate c && is_low_surrogate d then Some (pair_character c d, a) else Some (c, d ∷ a)

-- a character that is no lone surrogate
abbrev pub is_scalar : ℕ → Bool
is_scalar c = nat_lt c 0xD800 || between 0xE000 0x10FFFF c

-- §12.7, IdentifierStartChar: `$`, `_` or a character with the property XID_Start
unfoldable pub starts_word : ℕ → Bool
starts_word c = (c == 36) || (c == 95) || (is_scalar c && is_xid_start c)

-- §12.7, IdentifierPartChar: `$`, U+200C, U+200D or a character with the property XID_Continue
unfoldable pub continues_word : ℕ → Bool
continues_word c = (c == 36) || (c == 0x200C) || (c == 0x200D) || (is_scalar c && is_xid_continue c)
