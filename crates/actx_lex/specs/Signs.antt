-- Signs (ECMA-262 §12.8, Punctuator).
use Rattle.std.specs.Prelude.{codes, ◌≡◌, Bool, true, not, ◌||◌, ◌++◌}
use Rattle.actx_lex.specs.declared.token.Punct.{Punct}
use Rattle.actx_lex.specs.declared.token.Punct.TheVariants as p
use Rattle.actx_lex.specs.Units.{Text, begins, begins_digit}

abbrev pub spelling : Punct → Text
spelling p.OpenBrace = codes "{"
spelling p.CloseBrace = codes "}"
spelling p.OpenParenthesis = codes "("
spelling p.CloseParenthesis = codes ")"
spelling p.OpenBracket = codes "["
spelling p.CloseBracket = codes "]"
spelling p.Dot = codes "."
spelling p.Ellipsis = codes "..."
spelling p.Semicolon = codes ";"
spelling p.Comma = codes ","
spelling p.Less = codes "<"
spelling p.Greater = codes ">"
spelling p.LessOrEqual = codes "<="
spelling p.GreaterOrEqual = codes ">="
spelling p.Equal = codes "=="
spelling p.NotEqual = codes "!="
spelling p.StrictEqual = codes "==="
spelling p.StrictNotEqual = codes "!=="
spelling p.Plus = codes "+"
spelling p.Minus = codes "-"
spelling p.Star = codes "*"
spelling p.Slash = codes "/"
spelling p.Percent = codes "%"
spelling p.PlusPlus = codes "++"
spelling p.MinusMinus = codes "--"
spelling p.Not = codes "!"
spelling p.And = codes "&&"
spelling p.Or = codes "||"
spelling p.Coalesce = codes "??"
spelling p.Question = codes "?"
spelling p.OptionalDot = codes "?."
spelling p.Colon = codes ":"
spelling p.Assign = codes "="
spelling p.PlusAssign = codes "+="
spelling p.MinusAssign = codes "-="
spelling p.StarAssign = codes "*="
spelling p.SlashAssign = codes "/="
spelling p.PercentAssign = codes "%="
spelling p.AndAssign = codes "&&="
spelling p.OrAssign = codes "||="
spelling p.CoalesceAssign = codes "??="
spelling p.Arrow = codes "=>"

-- Whether the sign may stand before b: a `}` that closes "${" begins a piece of a template, `?.` doesn't stand before a
-- digit (§12.8, OptionalChainingPunctuator), and a comment is no sign.
abbrev pub may_stand : Bool → Punct → Text → Bool
may_stand in_template p.CloseBrace b = not in_template
may_stand in_template p.OptionalDot b = not (begins_digit b)
may_stand in_template p.Slash b = not (begins 47 b || begins 42 b)
may_stand in_template _ b = true

-- The text a is a sign and then b, where the innermost open brace is "${" or not.
pub data Sign (in_template : Bool) : Punct → Text → Text → Type 0 where
  sign : {s : Punct} {a b : Text} → a ≡ spelling s ++ b → may_stand in_template s b ≡ true → Sign in_template s a b
