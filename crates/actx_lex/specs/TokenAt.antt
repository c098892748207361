-- The spellings of a token (ECMA-262 §12, InputElementDiv and InputElementTemplateTail).
use Rattle.std.specs.Prelude.{codes, ◌≡◌, ℕ, ◌≤◌, Bool, true, false, if◌then◌else◌, ◌++◌, length, pos}
use Rattle.actx_lex.specs.declared.token.Punct.{Punct}
use Rattle.actx_lex.specs.declared.token.TokenKind.{TokenKind}
use Rattle.actx_lex.specs.declared.token.TokenKind.TheVariants as k
use Rattle.actx_lex.specs.Units.{Text}
use Rattle.actx_lex.specs.Words.{Word, is_reserved}
use Rattle.actx_lex.specs.Numbers.{Number}
use Rattle.actx_lex.specs.Texts.{QuotedText}
use Rattle.actx_lex.specs.Templates.{TemplatePiece}
use Rattle.actx_lex.specs.Signs.{Sign}

-- what a word is
abbrev pub word_kind : Text → TokenKind
word_kind us = if is_reserved us then k.Reserved us else k.Name us

-- The text a is a token of this kind and then b, where the innermost open brace is "${" or not.
pub data TokenAt (in_template : Bool) : TokenKind → Text → Text → Type 0 where
  word : {us a b : Text} → Word us a b → TokenAt in_template (word_kind us) a b
  number : {n : ℕ} {a b : Text} → Number n a b → TokenAt in_template (k.Number (pos n)) a b
  text : {us a b : Text} → QuotedText us a b → TokenAt in_template (k.Text us) a b
  first_piece : {us a m b : Text} {closes : Bool} → a ≡ codes "`" ++ m → TemplatePiece (us, closes) m b
      → TokenAt in_template (k.Template us true closes) a b
  later_piece : {us a m b : Text} {closes : Bool} → in_template ≡ true → a ≡ codes "}" ++ m → TemplatePiece (us, closes) m b
      → TokenAt in_template (k.Template us false closes) a b
  sign : {s : Punct} {a b : Text} → Sign in_template s a b → TokenAt in_template (k.Punct s) a b

-- No longer front of a is a token.
abbrev pub Longest : Bool → Text → Text → Type 0
Longest in_template a b = (j : TokenKind) (c : Text) → TokenAt in_template j a c → length b ≤ length c
