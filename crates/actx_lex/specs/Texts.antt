-- Texts between quotes (ECMA-262 §12.9.4, StringLiteral).
use Rattle.std.specs.Prelude.{◌≡◌, ℕ, Bool, true, not, ◌||◌, ◌==◌, [], ◌∷◌}
use Rattle.actx_lex.specs.Units.{Text}
use Rattle.actx_lex.specs.Escapes.{Escape}
use Rattle.actx_lex.specs.Parts.{Parts}

-- `"` or `'`
abbrev pub is_quote : ℕ → Bool
is_quote c = (c == 34) || (c == 39)

-- whether the unit stands for itself between these quotes: no such quote, backslash, line feed or carriage return
abbrev pub is_text_unit : ℕ → ℕ → Bool
is_text_unit quote c = not ((c == quote) || (c == 92) || (c == 10) || (c == 13))

-- Between these quotes: the text a is a unit or an escape, which stands for the units us, and then b.
pub data TextPart (quote : ℕ) : Text → Text → Text → Type 0 where
  unit : {c : ℕ} {a b : Text} → a ≡ c ∷ b → is_text_unit quote c ≡ true → TextPart quote (c ∷ []) a b
  escape : {us a m b : Text} → a ≡ 92 ∷ m → Escape us m b → TextPart quote us a b

-- The text a is a quote, parts that stand for the units us, the same quote, and then b.
pub data QuotedText : Text → Text → Text → Type 0 where
  quoted : {quote : ℕ} {us a m n b : Text} → a ≡ quote ∷ m → is_quote quote ≡ true → Parts (TextPart quote) us m n → n ≡ quote ∷ b
      → QuotedText us a b
