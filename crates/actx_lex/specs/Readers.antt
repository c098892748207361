-- What the private functions return that read one thing at the front of a text. The definitions of tokens don't cite these:
-- proofs/ shows that they read what those define.
use Rattle.std.specs.Prelude.{◌≡◌, ℕ, ◌+◌, ◌-◌, ◌*◌, ◌/◌, ◌%◌, nat_le, nat_lt, Bool, true, false, not, ◌&&◌, ◌||◌, ◌==◌, if◌then◌else◌, List, [], ◌∷◌, Option, Some, None, filter}
use Rattle.actx_lex.specs.declared.token.Punct.{Punct}
use Rattle.actx_lex.specs.declared.token.Punct.TheVariants as p
use Rattle.actx_lex.specs.declared.token.TokenKind.{TokenKind}
use Rattle.actx_lex.specs.declared.token.TokenKind.TheVariants as k
use Rattle.actx_lex.specs.declared.element.Element.{Element}
use Rattle.actx_lex.specs.declared.element.Element.TheVariants as el
use Rattle.actx_lex.specs.declared.element.Class.{Class}
use Rattle.actx_lex.specs.declared.element.Class.TheVariants as cl
use Rattle.actx_lex.specs.Units.{Text, between, is_line_end, is_white_space, is_digit, is_hex_digit, hex_value, begins, begins_digit, rest, past_line_end, first_character, starts_word, continues_word}
use Rattle.actx_lex.specs.Escapes.{control_unit}
use Rattle.actx_lex.specs.Texts.{is_quote}
use Rattle.actx_lex.specs.Templates.{TemplatePiece}
use Rattle.actx_lex.specs.Signs.{spelling, may_stand}

-- ---- gaps

-- the text from the first line end on
unfoldable pub to_line_end : Text → Text
to_line_end [] = []
to_line_end (c ∷ a) = if is_line_end c then c ∷ a else to_line_end a

-- the text after the first "*/", and whether a line end stands before it
unfoldable pub to_star : Bool → Text → Option (Bool × Text)
to_star line [] = None
to_star line (c ∷ a) = if (c == 42) && begins 47 a then Some (line, rest a) else to_star (line || is_line_end c) a

-- after a `/`: the text after the comment that it begins
abbrev pub comment : Text → Option (Bool × Text)
comment [] = None
comment (c ∷ a) = if c == 47 then Some (false, to_line_end a) else (if c == 42 then to_star false a else None)

-- the text after its first white space, line end or comment, and whether that counts as a line end
unfoldable pub gap_item : Text → Option (Bool × Text)
gap_item [] = None
gap_item (c ∷ a) = if is_line_end c then Some (true, a) else (if is_white_space c then Some (false, a) else (if c == 47 then comment a else None))

-- the text after a comment "#!" at its start
unfoldable pub opened : Text → Text
opened [] = []
opened (c ∷ a) = if (c == 35) && begins 33 a then to_line_end (rest a) else c ∷ a

-- ---- words

abbrev pub fits : Bool → ℕ → Bool
fits true c = starts_word c
fits false c = continues_word c

abbrev pub fitting : Bool → Option (ℕ × Text) → Option Text
fitting start None = None
fitting start (Some r) = if fits start r.0 then Some r.1 else None

-- the text after its first character, where that may begin a word (true) or go on with one (false)
unfoldable pub after_character : Bool → Text → Option Text
after_character start a = fitting start (first_character a)

-- ---- numbers

-- the digit at the front, and what follows it
unfoldable pub digit_at : Text → Option (ℕ × Text)
digit_at [] = None
digit_at (c ∷ a) = if is_digit c then Some (c - 48, a) else None

-- the number so far, the number in the end, the digits and what follows them
pub data Digits : ℕ → ℕ → Text → Text → Type 0 where
  last : {n : ℕ} {a : Text} → Digits n n a a
  digit : {v n d : ℕ} {a m b : Text} → digit_at a ≡ Some (d, m) → Digits (v * 10 + d) n m b → Digits v n a b

-- ---- texts and templates

-- What an element of a text or template stands for, and the text after it.
abbrev pub Reading : Type 0
Reading = Option (Element × Text)

abbrev pub units_of : Element → Text
units_of el.Empty = []
units_of (el.One c) = c ∷ []
units_of (el.Two c d) = c ∷ d ∷ []

abbrev pub hex_of : ℕ → ℕ → Text → Option (ℕ × Text)
hex_of c d a = if is_hex_digit c && is_hex_digit d then Some (hex_value c * 16 + hex_value d, a) else None

-- the number of two hexadecimal digits
unfoldable pub hex_pair : Text → Option (ℕ × Text)
hex_pair [] = None
hex_pair (c ∷ []) = None
hex_pair (c ∷ d ∷ a) = hex_of c d a

abbrev pub two_by : Option (ℕ × Text) → Reading
two_by None = None
two_by (Some r) = Some (el.One r.0, r.1)

abbrev pub low_by : ℕ → Option (ℕ × Text) → Reading
low_by h None = None
low_by h (Some r) = Some (el.One (h * 256 + r.0), r.1)

abbrev pub four_by : Option (ℕ × Text) → Reading
four_by None = None
four_by (Some r) = low_by r.0 (hex_pair r.1)

-- hexadecimal digits up to "}", with the number of those before them, up to 10FFFF
unfoldable pub hex_run : ℕ → Text → Option (ℕ × Text)
hex_run v [] = None
hex_run v (c ∷ a) = if c == 125 then Some (v, a) else (if is_hex_digit c && nat_le (v * 16 + hex_value c) 0x10FFFF then hex_run (v * 16 + hex_value c) a else None)

-- a character as units
abbrev pub encoded : ℕ → Element
encoded v = if nat_lt v 0x10000 then el.One v else el.Two (0xD800 + (v - 0x10000) / 0x400) (0xDC00 + (v - 0x10000) % 0x400)

abbrev pub run_by : Option (ℕ × Text) → Reading
run_by None = None
run_by (Some r) = Some (encoded r.0, r.1)

abbrev pub braced : Text → Reading
braced [] = None
braced (c ∷ a) = if is_hex_digit c then run_by (hex_run (hex_value c) a) else None

-- what stands after "\u"
unfoldable pub unicode : Text → Reading
unicode [] = None
unicode (c ∷ a) = if c == 123 then braced a else four_by (hex_pair (c ∷ a))

abbrev pub digit_escape : ℕ → Text → Reading
digit_escape c a = if (c == 48) && not (begins_digit a) then Some (el.One 0, a) else None

abbrev pub other_escape : ℕ → Text → Reading
other_escape c a =
    if c == 120 then two_by (hex_pair a) else
    (if c == 117 then unicode a else
    (if is_digit c then digit_escape c a else
    (if is_line_end c then Some (el.Empty, past_line_end c a) else Some (el.One c, a))))

abbrev pub escape_by : Option ℕ → ℕ → Text → Reading
escape_by (Some u) c a = Some (el.One u, a)
escape_by None c a = other_escape c a

-- what the escape after a backslash stands for, and the text after it
unfoldable pub escape_at : Text → Reading
escape_at [] = None
escape_at (c ∷ a) = escape_by (control_unit c) c a

-- the first part of what stands in these quotes
unfoldable pub text_part : ℕ → Text → Reading
text_part quote [] = None
text_part quote (c ∷ a) = if c == 92 then escape_at a else (if (c == quote) || (c == 10) || (c == 13) then None else Some (el.One c, a))

-- the first part of a piece of a template
unfoldable pub template_part : Text → Reading
template_part [] = None
template_part (c ∷ a) =
    if c == 92 then escape_at a else
    (if c == 13 then Some (el.One 10, past_line_end c a) else
    (if (c == 96) || ((c == 36) && begins 123 a) then None else Some (el.One c, a)))

-- the quote at the front, and the text after it
unfoldable pub quote_at : Text → Option (ℕ × Text)
quote_at [] = None
quote_at (c ∷ a) = if is_quote c then Some (c, a) else None

-- the end of a piece at the front, whether it is the template's, and the text after it
unfoldable pub end_at : Text → Option (Bool × Text)
end_at [] = None
end_at (c ∷ a) = if c == 96 then Some (true, a) else (if (c == 36) && begins 123 a then Some (false, rest a) else None)

-- the token of a piece, after the backquote or brace that begins it
abbrev pub PieceToken : Bool → TokenKind → Text → Text → Type 0
PieceToken opens j a b = (v : Text × Bool) × (j ≡ k.Template v.0 opens v.1) × TemplatePiece v a b

-- ---- signs

-- what follows the units
unfoldable pub strip : Text → Text → Option Text
strip [] a = Some a
strip (u ∷ us) [] = None
strip (u ∷ us) (c ∷ a) = if c == u then strip us a else None

abbrev pub allowed : Bool → Punct → Option Text → Option Text
allowed i s None = None
allowed i s (Some b) = if may_stand i s b then Some b else None

-- what follows the sign, where it may stand
abbrev pub sign_end : Bool → Punct → Text → Option Text
sign_end i s a = allowed i s (strip (spelling s) a)

abbrev pub or_else : Punct → Option Text → Option (Punct × Text) → Option (Punct × Text)
or_else s None o = o
or_else s (Some b) o = Some (s, b)

unfoldable pub first_sign : List Punct → Bool → Text → Option (Punct × Text)
first_sign [] i a = None
first_sign (s ∷ ss) i a = or_else s (sign_end i s a) (first_sign ss i a)

-- the signs, the longer ones first
abbrev pub signs : List Punct
signs =
    p.Ellipsis ∷ p.StrictEqual ∷ p.StrictNotEqual ∷ p.AndAssign ∷ p.OrAssign ∷ p.CoalesceAssign ∷
    p.PlusPlus ∷ p.PlusAssign ∷ p.OptionalDot ∷ p.Coalesce ∷ p.Equal ∷ p.Arrow ∷ p.SlashAssign ∷
    p.LessOrEqual ∷ p.GreaterOrEqual ∷ p.NotEqual ∷ p.MinusMinus ∷ p.And ∷ p.Or ∷ p.MinusAssign ∷
    p.StarAssign ∷ p.PercentAssign ∷ p.OpenBrace ∷ p.CloseBrace ∷ p.OpenParenthesis ∷ p.CloseParenthesis ∷
    p.Dot ∷ p.Question ∷ p.Plus ∷ p.Assign ∷ p.Slash ∷ p.Less ∷ p.CloseBracket ∷ p.OpenBracket ∷
    p.Semicolon ∷ p.Comma ∷ p.Greater ∷ p.Minus ∷ p.Star ∷ p.Percent ∷ p.Not ∷ p.Colon ∷ []

-- those that begin with this unit
unfoldable pub signs_from : ℕ → List Punct
signs_from u = filter (λ s. begins u (spelling s)) signs

-- the sign at the front: the first that fits of those that begin so
unfoldable pub sign_at : Bool → Text → Option (Punct × Text)
sign_at i [] = None
sign_at i (c ∷ a) = first_sign (signs_from c) i (c ∷ a)

-- ---- which tokens a text may begin with

abbrev pub is_sign_unit : ℕ → Bool
is_sign_unit c = (c == 33) || between 37 38 c || between 40 47 c || between 58 63 c || (c == 91) || (c == 93) || between 123 125 c

unfoldable pub class : Bool → Text → Class
class i [] = cl.Word
class i (u ∷ a) =
    if is_digit u then cl.Number else
    (if is_quote u then cl.Text else
    (if u == 96 then cl.FirstPiece else
    (if (u == 125) && i then cl.LaterPiece else
    (if is_sign_unit u then cl.Sign else cl.Word))))
