-- Escapes of texts and templates (ECMA-262 §12.9.4, EscapeSequence and LineContinuation).
use Rattle.std.specs.Prelude.{codes, ◌≡◌, ◌≢◌, ℕ, ◌+◌, ◌-◌, ◌*◌, ◌/◌, ◌%◌, ◌≤◌, nat_lt, Bool, true, false, not, ◌||◌, ◌==◌, if◌then◌else◌, [], ◌∷◌, ◌++◌, length, fold, Option, Some, None, is_some}
use Rattle.std.specs.List.{list_all}
use Rattle.actx_lex.specs.Units.{Text, is_line_end, is_digit, is_hex_digit, hex_value, begins_digit, past_line_end}

-- SingleEscapeCharacter: what b, t, n, v, f and r stand for
abbrev pub control_unit : ℕ → Option ℕ
control_unit c =
    if c == 98 then Some 8 else
    (if c == 116 then Some 9 else
    (if c == 110 then Some 10 else
    (if c == 118 then Some 11 else
    (if c == 102 then Some 12 else
    (if c == 114 then Some 13 else None)))))

-- whether the unit stands for itself: SingleEscapeCharacter and NonEscapeCharacter but those
abbrev pub stands_for_itself : ℕ → Bool
stands_for_itself c = not (is_some (control_unit c) || is_digit c || (c == 120) || (c == 117) || is_line_end c)

-- the number of hexadecimal digits (the MV of HexDigits)
abbrev pub hex_number : Text → ℕ
hex_number us = fold (λ n c. n * 16 + hex_value c) 0 us

abbrev pub are_hex_digits : Text → Bool
are_hex_digits us = list_all is_hex_digit us

-- the units of a character (§11.1.1, UTF16EncodeCodePoint)
abbrev pub utf16_units : ℕ → Text
utf16_units v = if nat_lt v 0x10000 then v ∷ [] else (0xD800 + (v - 0x10000) / 0x400) ∷ (0xDC00 + (v - 0x10000) % 0x400) ∷ []

-- After a backslash: the text a is the rest of an escape that stands for the units us, and then b.
pub data Escape : Text → Text → Text → Type 0 where
  control : {c u : ℕ} {a b : Text} → a ≡ c ∷ b → control_unit c ≡ Some u → Escape (u ∷ []) a b
  itself : {c : ℕ} {a b : Text} → a ≡ c ∷ b → stands_for_itself c ≡ true → Escape (c ∷ []) a b
  zero_unit : {a b : Text} → a ≡ codes "0" ++ b → begins_digit b ≡ false → Escape (0 ∷ []) a b
  two_digits : (ds : Text) {a b : Text} → a ≡ codes "x" ++ (ds ++ b) → are_hex_digits ds ≡ true → length ds ≡ 2
      → Escape (hex_number ds ∷ []) a b
  four_digits : (ds : Text) {a b : Text} → a ≡ codes "u" ++ (ds ++ b) → are_hex_digits ds ≡ true → length ds ≡ 4
      → Escape (hex_number ds ∷ []) a b
  code_point : (ds : Text) {a b : Text} → a ≡ codes "u{" ++ (ds ++ (codes "}" ++ b)) → are_hex_digits ds ≡ true → ds ≢ []
      → hex_number ds ≤ 0x10FFFF → Escape (utf16_units (hex_number ds)) a b
  continuation : {c : ℕ} {a m b : Text} → a ≡ c ∷ m → is_line_end c ≡ true → b ≡ past_line_end c m → Escape [] a b
