-- What the grammar sees of a token, and the operators.
use Rattle.std.specs.Prelude.{ℕ, Bool, true, false, ◌||◌, Option, Some, None, is_some}
use Rattle.actx_lex.specs.declared.token.TokenKind.{TokenKind}
use Rattle.actx_lex.specs.declared.token.TokenKind.TheVariants as k
use Rattle.actx_lex.specs.declared.token.Punct.TheVariants as p
use Rattle.actx_tree.specs.declared.operator.BinaryOp.{BinaryOp}
use Rattle.actx_tree.specs.declared.operator.BinaryOp.TheVariants as binary
use Rattle.actx_tree.specs.declared.operator.UnaryOp.{UnaryOp}
use Rattle.actx_tree.specs.declared.operator.UnaryOp.TheVariants as unary
use Rattle.actx_tree.specs.declared.operator.StepOp.{StepOp}
use Rattle.actx_tree.specs.declared.operator.StepOp.TheVariants as step
use Rattle.actx_tree.specs.declared.operator.AssignOp.{AssignOp}
use Rattle.actx_tree.specs.declared.operator.AssignOp.TheVariants as assign
use Rattle.actx_grammar.specs.declared.kind.Kind.{Kind}
use Rattle.actx_grammar.specs.declared.kind.Kind.TheVariants as kind
use Rattle.actx_grammar.specs.declared.word.Word.TheVariants as word
use Rattle.actx_grammar.specs.declared.bracket.Bracket.{Bracket}
use Rattle.actx_grammar.specs.declared.bracket.Bracket.TheVariants as bracket
use Rattle.actx_grammar.specs.Words.{word_of}

abbrev pub kind_of : TokenKind → Kind
kind_of (k.Name units) = kind.Name
kind_of (k.Reserved units) = kind.Word (word_of units)
kind_of (k.Number value) = kind.Number
kind_of (k.Text units) = kind.Text
kind_of (k.Template units opens closes) = kind.Piece opens closes
kind_of (k.Punct sign) = kind.Sign sign

-- ---- brackets

abbrev pub opening : Bracket → Kind
opening bracket.Round = kind.Sign p.OpenParenthesis
opening bracket.Square = kind.Sign p.OpenBracket
opening bracket.Curly = kind.Sign p.OpenBrace

abbrev pub closing : Bracket → Kind
closing bracket.Round = kind.Sign p.CloseParenthesis
closing bracket.Square = kind.Sign p.CloseBracket
closing bracket.Curly = kind.Sign p.CloseBrace

abbrev pub closes : Bracket → Kind → Bool
closes bracket.Round (kind.Sign p.CloseParenthesis) = true
closes bracket.Square (kind.Sign p.CloseBracket) = true
closes bracket.Curly (kind.Sign p.CloseBrace) = true
closes _ _ = false

-- ---- single signs and words

abbrev pub is_open_parenthesis : Kind → Bool
is_open_parenthesis (kind.Sign p.OpenParenthesis) = true
is_open_parenthesis _ = false

abbrev pub is_open_bracket : Kind → Bool
is_open_bracket (kind.Sign p.OpenBracket) = true
is_open_bracket _ = false

abbrev pub is_open_brace : Kind → Bool
is_open_brace (kind.Sign p.OpenBrace) = true
is_open_brace _ = false

abbrev pub is_comma : Kind → Bool
is_comma (kind.Sign p.Comma) = true
is_comma _ = false

abbrev pub is_colon : Kind → Bool
is_colon (kind.Sign p.Colon) = true
is_colon _ = false

abbrev pub is_semicolon : Kind → Bool
is_semicolon (kind.Sign p.Semicolon) = true
is_semicolon _ = false

abbrev pub is_question : Kind → Bool
is_question (kind.Sign p.Question) = true
is_question _ = false

abbrev pub is_dots : Kind → Bool
is_dots (kind.Sign p.Ellipsis) = true
is_dots _ = false

abbrev pub is_equals : Kind → Bool
is_equals (kind.Sign p.Assign) = true
is_equals _ = false

abbrev pub is_arrow_sign : Kind → Bool
is_arrow_sign (kind.Sign p.Arrow) = true
is_arrow_sign _ = false

abbrev pub is_star : Kind → Bool
is_star (kind.Sign p.Star) = true
is_star _ = false

abbrev pub is_name : Kind → Bool
is_name kind.Name = true
is_name _ = false

abbrev pub is_function_word : Kind → Bool
is_function_word (kind.Word word.Function) = true
is_function_word _ = false

abbrev pub is_class_word : Kind → Bool
is_class_word (kind.Word word.Class) = true
is_class_word _ = false

abbrev pub is_extends_word : Kind → Bool
is_extends_word (kind.Word word.Extends) = true
is_extends_word _ = false

abbrev pub is_static_word : Kind → Bool
is_static_word (kind.Word word.Static) = true
is_static_word _ = false

-- ---- operators

-- §13.6 to §13.13
abbrev pub binary_op : Kind → Option BinaryOp
binary_op (kind.Sign p.Star) = Some binary.Multiply
binary_op (kind.Sign p.Slash) = Some binary.Divide
binary_op (kind.Sign p.Percent) = Some binary.Remainder
binary_op (kind.Sign p.Plus) = Some binary.Add
binary_op (kind.Sign p.Minus) = Some binary.Subtract
binary_op (kind.Sign p.Less) = Some binary.Less
binary_op (kind.Sign p.Greater) = Some binary.Greater
binary_op (kind.Sign p.LessOrEqual) = Some binary.LessOrEqual
binary_op (kind.Sign p.GreaterOrEqual) = Some binary.GreaterOrEqual
binary_op (kind.Word word.Instanceof) = Some binary.InstanceOf
binary_op (kind.Word word.In) = Some binary.In
binary_op (kind.Sign p.Equal) = Some binary.Equal
binary_op (kind.Sign p.NotEqual) = Some binary.NotEqual
binary_op (kind.Sign p.StrictEqual) = Some binary.StrictEqual
binary_op (kind.Sign p.StrictNotEqual) = Some binary.StrictNotEqual
binary_op (kind.Sign p.And) = Some binary.And
binary_op (kind.Sign p.Or) = Some binary.Or
binary_op (kind.Sign p.Coalesce) = Some binary.Coalesce
binary_op _ = None

-- The level of a chain: Prod 1, Sum 2, Rel 3, Eq 4, And 5, Or 6, and 7 for `??`.
abbrev pub level_of : BinaryOp → ℕ
level_of binary.Multiply = 1
level_of binary.Divide = 1
level_of binary.Remainder = 1
level_of binary.Add = 2
level_of binary.Subtract = 2
level_of binary.Less = 3
level_of binary.Greater = 3
level_of binary.LessOrEqual = 3
level_of binary.GreaterOrEqual = 3
level_of binary.InstanceOf = 3
level_of binary.In = 3
level_of binary.Equal = 4
level_of binary.NotEqual = 4
level_of binary.StrictEqual = 4
level_of binary.StrictNotEqual = 4
level_of binary.And = 5
level_of binary.Or = 6
level_of binary.Coalesce = 7

-- §13.5, and `await` of §15.8
abbrev pub unary_op : Kind → Option UnaryOp
unary_op (kind.Sign p.Not) = Some unary.Not
unary_op (kind.Sign p.Minus) = Some unary.Minus
unary_op (kind.Sign p.Plus) = Some unary.Plus
unary_op (kind.Word word.Typeof) = Some unary.TypeOf
unary_op (kind.Word word.Void) = Some unary.Void
unary_op (kind.Word word.Delete) = Some unary.Delete
unary_op (kind.Word word.Await) = Some unary.Await
unary_op _ = None

-- §13.4
abbrev pub step_op : Kind → Option StepOp
step_op (kind.Sign p.PlusPlus) = Some step.Increment
step_op (kind.Sign p.MinusMinus) = Some step.Decrement
step_op _ = None

-- §13.15
abbrev pub assign_op : Kind → Option AssignOp
assign_op (kind.Sign p.Assign) = Some assign.Plain
assign_op (kind.Sign p.PlusAssign) = Some assign.Add
assign_op (kind.Sign p.MinusAssign) = Some assign.Subtract
assign_op (kind.Sign p.StarAssign) = Some assign.Multiply
assign_op (kind.Sign p.SlashAssign) = Some assign.Divide
assign_op (kind.Sign p.PercentAssign) = Some assign.Remainder
assign_op (kind.Sign p.AndAssign) = Some assign.And
assign_op (kind.Sign p.OrAssign) = Some assign.Or
assign_op (kind.Sign p.CoalesceAssign) = Some assign.Coalesce
assign_op _ = None

-- ---- what may come next

-- the sign begins a Suffix
abbrev pub begins_suffix : Kind → Bool
begins_suffix (kind.Sign p.Dot) = true
begins_suffix (kind.Sign p.OptionalDot) = true
begins_suffix (kind.Sign p.OpenParenthesis) = true
begins_suffix (kind.Sign p.OpenBracket) = true
begins_suffix _ = false

-- the sign begins a member that `new` takes
abbrev pub begins_member : Kind → Bool
begins_member (kind.Sign p.Dot) = true
begins_member (kind.Sign p.OpenBracket) = true
begins_member _ = false

-- the token begins a Key
abbrev pub begins_key : Kind → Bool
begins_key kind.Name = true
begins_key kind.Number = true
begins_key kind.Text = true
begins_key (kind.Word w) = true
begins_key (kind.Sign p.OpenBracket) = true
begins_key _ = false

-- the token begins a Primary
abbrev pub begins_primary : Kind → Bool
begins_primary kind.Name = true
begins_primary kind.Number = true
begins_primary kind.Text = true
begins_primary (kind.Piece true closes) = true
begins_primary (kind.Sign p.OpenParenthesis) = true
begins_primary (kind.Sign p.OpenBracket) = true
begins_primary (kind.Sign p.OpenBrace) = true
begins_primary (kind.Word word.Class) = true
begins_primary (kind.Word word.False) = true
begins_primary (kind.Word word.Function) = true
begins_primary (kind.Word word.Null) = true
begins_primary (kind.Word word.Super) = true
begins_primary (kind.Word word.This) = true
begins_primary (kind.Word word.True) = true
begins_primary _ = false

abbrev pub is_new_word : Kind → Bool
is_new_word (kind.Word word.New) = true
is_new_word _ = false

abbrev pub is_yield_word : Kind → Bool
is_yield_word (kind.Word word.Yield) = true
is_yield_word _ = false

-- a Left
abbrev pub begins_left : Kind → Bool
begins_left sort = begins_primary sort || is_new_word sort

-- a Unary, and so a Cond
abbrev pub begins_unary : Kind → Bool
begins_unary sort = begins_left sort || is_some (unary_op sort) || is_some (step_op sort)

-- an Assign
abbrev pub begins_assign : Kind → Bool
begins_assign sort = begins_unary sort || is_yield_word sort

-- ---- where an expression ends

-- The token goes on with what stands before it, also as the first on its line, or ends a statement: End isn't empty
-- before it.
abbrev pub goes_on_line : Kind → Bool
goes_on_line (kind.Sign p.Semicolon) = true
goes_on_line (kind.Sign p.OpenParenthesis) = true
goes_on_line (kind.Sign p.OpenBracket) = true
goes_on_line (kind.Sign p.Dot) = true
goes_on_line (kind.Sign p.OptionalDot) = true
goes_on_line (kind.Sign p.Question) = true
goes_on_line (kind.Sign p.Colon) = true
goes_on_line (kind.Sign p.Comma) = true
goes_on_line (kind.Sign p.Plus) = true
goes_on_line (kind.Sign p.Minus) = true
goes_on_line (kind.Sign p.Star) = true
goes_on_line (kind.Sign p.Slash) = true
goes_on_line (kind.Sign p.Percent) = true
goes_on_line (kind.Sign p.Less) = true
goes_on_line (kind.Sign p.Greater) = true
goes_on_line (kind.Sign p.LessOrEqual) = true
goes_on_line (kind.Sign p.GreaterOrEqual) = true
goes_on_line (kind.Sign p.Equal) = true
goes_on_line (kind.Sign p.NotEqual) = true
goes_on_line (kind.Sign p.StrictEqual) = true
goes_on_line (kind.Sign p.StrictNotEqual) = true
goes_on_line (kind.Sign p.And) = true
goes_on_line (kind.Sign p.Or) = true
goes_on_line (kind.Sign p.Coalesce) = true
goes_on_line (kind.Sign p.Assign) = true
goes_on_line (kind.Sign p.PlusAssign) = true
goes_on_line (kind.Sign p.MinusAssign) = true
goes_on_line (kind.Sign p.StarAssign) = true
goes_on_line (kind.Sign p.SlashAssign) = true
goes_on_line (kind.Sign p.PercentAssign) = true
goes_on_line (kind.Sign p.AndAssign) = true
goes_on_line (kind.Sign p.OrAssign) = true
goes_on_line (kind.Sign p.CoalesceAssign) = true
goes_on_line (kind.Sign p.Arrow) = true
goes_on_line (kind.Word word.In) = true
goes_on_line (kind.Word word.Instanceof) = true
goes_on_line (kind.Piece opens closes) = true
goes_on_line _ = false

-- the token ends each Expr, wherever it stands
abbrev pub ends_always : Kind → Bool
ends_always kind.End = true
ends_always (kind.Sign p.CloseParenthesis) = true
ends_always (kind.Sign p.CloseBracket) = true
ends_always (kind.Sign p.CloseBrace) = true
ends_always (kind.Sign p.Colon) = true
ends_always (kind.Sign p.Semicolon) = true
ends_always (kind.Piece false closes) = true
ends_always _ = false
