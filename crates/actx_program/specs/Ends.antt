-- Where statements end, and what tells them apart.
use Rattle.std.specs.Prelude.{◌≡◌, ℕ, Bool, true, false, not, ◌&&◌, ◌||◌, codes, List, [], ◌∷◌, is_some}
use Rattle.actx_lex.specs.declared.token.Token.{Token}
use Rattle.actx_lex.specs.declared.token.TokenKind.{TokenKind}
use Rattle.actx_lex.specs.declared.token.TokenKind.TheVariants as k
use Rattle.actx_lex.specs.declared.token.Punct.TheVariants as p
use Rattle.actx_tree.specs.declared.expr.Expr.{Expr}
use Rattle.actx_tree.specs.declared.expr.Argument.{Argument}
use Rattle.actx_tree.specs.declared.expr.Entry.{Entry}
use Rattle.actx_tree.specs.declared.expr.Key.{Key}
use Rattle.actx_tree.specs.declared.expr.Suffix.{Suffix}
use Rattle.actx_tree.specs.declared.expr.Operand.{Operand}
use Rattle.actx_tree.specs.declared.expr.Piece.{Piece}
use Rattle.actx_tree.specs.declared.function.Class.{Class, out-Class}
use Rattle.actx_tree.specs.declared.function.Function.{Function, out-Function}
use Rattle.actx_tree.specs.declared.function.Member.{Member}
use Rattle.actx_tree.specs.declared.function.Method.{Method}
use Rattle.actx_tree.specs.declared.pattern.Prop.{Prop}
use Rattle.actx_tree.specs.declared.pattern.Target.{Target, Target-F, out-Target}
use Rattle.actx_tree.specs.declared.pattern.Elem.{Elem}
use Rattle.actx_tree.specs.declared.pattern.Params.{Params}
use Rattle.actx_grammar.specs.declared.kind.Kind.{Kind}
use Rattle.actx_grammar.specs.declared.kind.Kind.TheVariants as kind
use Rattle.actx_grammar.specs.declared.word.Word.TheVariants as word
use Rattle.actx_grammar.specs.Words.{same_units}
use Rattle.actx_grammar.specs.Kinds.{goes_on_line, is_open_brace, is_function_word, is_class_word}
use Rattle.actx_grammar.specs.Tokens.{Tokens, Is, next, is_on_line, is_async_function}

-- ---- ends (§12.10)

-- nothing is left, or `}` comes
abbrev pub ends_items : Kind → Bool
ends_items kind.End = true
ends_items (kind.Sign p.CloseBrace) = true
ends_items _ = false

-- an End may be empty here
unfoldable pub may_end : Tokens → Bool
may_end a = ends_items (next a) || (not (is_on_line a) && not (goes_on_line (next a)))

-- End = ";", or nothing before `}`, at the end of the tokens, and before a token that is the first on its line and
-- doesn't go on with what stands before it
pub data SpEnd : Tokens → Tokens → Type 0 where
  end-semicolon : {t : Token} {b : Tokens} → Is (kind.Sign p.Semicolon) t → SpEnd (t ∷ b) b
  end-nothing : {b : Tokens} → may_end b ≡ true → SpEnd b b

-- ---- words

-- `let`, or `const` where the test says so
abbrev pub let_word : Bool → Kind
let_word false = kind.Word word.Let
let_word true = kind.Word word.Const

abbrev pub is_else_word : Kind → Bool
is_else_word (kind.Word word.Else) = true
is_else_word _ = false

abbrev pub is_while_word : Kind → Bool
is_while_word (kind.Word word.While) = true
is_while_word _ = false

abbrev pub is_catch_word : Kind → Bool
is_catch_word (kind.Word word.Catch) = true
is_catch_word _ = false

abbrev pub is_finally_word : Kind → Bool
is_finally_word (kind.Word word.Finally) = true
is_finally_word _ = false

-- the units of `of`, which is a name
abbrev pub of_word : List ℕ
of_word = codes "of"

abbrev pub is_of_word : TokenKind → Bool
is_of_word (k.Name units) = same_units units of_word
is_of_word _ = false

-- the name `of` comes
unfoldable pub is_of : Tokens → Bool
is_of [] = false
is_of (t ∷ ts) = is_of_word t.kind

-- ---- what tells statements apart

-- a function declaration begins here, or what looks like one
unfoldable pub begins_function : Tokens → Bool
begins_function a = is_function_word (next a) || is_async_function a

-- no expression statement begins here (§14.5)
unfoldable pub begins_other : Tokens → Bool
begins_other a = is_open_brace (next a) || (is_class_word (next a) || begins_function a)

-- ---- names

abbrev pub has_function_name : Function → Bool
has_function_name x = is_some (out-Function x).name

abbrev pub has_class_name : Class → Bool
has_class_name x = is_some (out-Class x).name

abbrev TargetNode : Type 0
TargetNode = Target-F Argument Entry Expr Key Suffix Prop Target Operand Piece Class Function Member Method Elem Params

abbrev pub is_name_at : TargetNode → Bool
is_name_at (Target-F.Target::Name name) = true
is_name_at _ = false

-- the target is a name and no pattern
abbrev pub is_name_target : Target → Bool
is_name_target x = is_name_at (out-Target x)
