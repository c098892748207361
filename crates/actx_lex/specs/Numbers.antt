-- Numbers (ECMA-262 §12.9.3): of NumericLiteral only DecimalIntegerLiteral without separators.
use Rattle.std.specs.Prelude.{◌≡◌, ℕ, ◌≤◌, Bool, true, not, ◌&&◌, ◌++◌}
use Rattle.std.specs.Fmt.{decimal}
use Rattle.actx_lex.specs.Units.{Text, begins, begins_digit}
use Rattle.actx_lex.specs.Words.{begins_word_part}

-- Number.MAX_SAFE_INTEGER (§21.1.2.6)
abbrev pub max_safe_integer : ℕ
max_safe_integer = 9007199254740991

-- whether neither `.` nor a digit nor a character of a word follows
abbrev pub ends_number : Text → Bool
ends_number b = not (begins 46 b) && not (begins_digit b) && not (begins_word_part b)

-- The text a is the decimal of n, with no leading zero, and then b.
pub data Number : ℕ → Text → Text → Type 0 where
  number : {n : ℕ} {a b : Text} → a ≡ decimal n ++ b → n ≤ max_safe_integer → ends_number b ≡ true → Number n a b
