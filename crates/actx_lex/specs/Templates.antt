-- Pieces of templates (ECMA-262 §12.9.6: NoSubstitutionTemplate, TemplateHead, TemplateMiddle, TemplateTail).
use Rattle.std.specs.Prelude.{codes, ◌≡◌, ℕ, Bool, true, false, not, ◌&&◌, ◌||◌, ◌==◌, [], ◌∷◌, ◌++◌}
use Rattle.actx_lex.specs.Units.{Text, begins, past_line_end}
use Rattle.actx_lex.specs.Escapes.{Escape}
use Rattle.actx_lex.specs.Parts.{Parts}

-- whether the unit c stands for itself before b: no backquote, backslash or carriage return, and no "${"
abbrev pub is_template_unit : ℕ → Text → Bool
is_template_unit c b = not ((c == 96) || (c == 92) || (c == 13) || ((c == 36) && begins 123 b))

-- The text a is a unit, a line end or an escape, which stands for the units us (its TV), and then b. U+000D, alone or
-- before U+000A, stands for U+000A.
pub data TemplatePart : Text → Text → Text → Type 0 where
  unit : {c : ℕ} {a b : Text} → a ≡ c ∷ b → is_template_unit c b ≡ true → TemplatePart (c ∷ []) a b
  carriage_return : {a m b : Text} → a ≡ 13 ∷ m → b ≡ past_line_end 13 m → TemplatePart (10 ∷ []) a b
  escape : {us a m b : Text} → a ≡ 92 ∷ m → Escape us m b → TemplatePart us a b

-- what ends a piece, where the template ends with it and where it doesn't
abbrev pub piece_end : Bool → Text
piece_end true = codes "`"
piece_end false = codes "${"

-- After the backquote or brace that begins a piece: the text a is parts that stand for v.0, the end of the piece, and
-- then b; whether the template ends with it.
pub data TemplatePiece : Text × Bool → Text → Text → Type 0 where
  piece : {closes : Bool} {us a n b : Text} → Parts TemplatePart us a n → n ≡ piece_end closes ++ b → TemplatePiece (us, closes) a b
