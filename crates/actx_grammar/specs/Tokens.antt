-- Lists of tokens: what comes next, and where brackets end.
use Rattle.std.specs.Prelude.{◌≡◌, ℕ, zero, suc, Bool, true, false, not, ◌&&◌, ◌||◌, if◌then◌else◌, List, [], ◌∷◌, Option, Some, None}
use Rattle.actx_lex.specs.declared.token.Token.{Token}
use Rattle.actx_lex.specs.declared.token.TokenKind.{TokenKind}
use Rattle.actx_lex.specs.declared.token.TokenKind.TheVariants as k
use Rattle.actx_lex.specs.declared.token.Punct.TheVariants as p
use Rattle.actx_tree.specs.declared.function.Flow.{Flow}
use Rattle.actx_tree.specs.declared.function.Flow.TheVariants as flow
use Rattle.actx_grammar.specs.declared.kind.Kind.{Kind}
use Rattle.actx_grammar.specs.declared.kind.Kind.TheVariants as kind
use Rattle.actx_grammar.specs.declared.bracket.Bracket.{Bracket}
use Rattle.actx_grammar.specs.declared.bracket.Bracket.TheVariants as bracket
use Rattle.actx_grammar.specs.Words.{same_units, async_word}
use Rattle.actx_grammar.specs.Kinds.{kind_of, begins_assign, begins_key, goes_on_line, ends_always, is_arrow_sign, is_function_word, is_star, is_static_word, is_open_parenthesis, is_open_brace, is_name, is_comma}

abbrev pub Tokens : Type 0
Tokens = List Token

-- the token is of that kind
abbrev pub Is : Kind → Token → Type 0
Is sort t = kind_of t.kind ≡ sort

-- ---- the next token

-- its kind
unfoldable pub next : Tokens → Kind
next [] = kind.End
next (t ∷ ts) = kind_of t.kind

-- the tokens behind it
unfoldable pub behind : Tokens → Tokens
behind [] = []
behind (t ∷ ts) = ts

-- there is one, and it isn't the first on its line
unfoldable pub is_on_line : Tokens → Bool
is_on_line [] = false
is_on_line (t ∷ ts) = not t.first

abbrev pub is_async_word : TokenKind → Bool
is_async_word (k.Name units) = same_units units async_word
is_async_word _ = false

-- it is the name `async`, with a token behind it on the line
unfoldable pub is_async : Tokens → Bool
is_async [] = false
is_async (t ∷ ts) = is_async_word t.kind && is_on_line ts

-- it begins an Assign, on the line
unfoldable pub has_operand : Tokens → Bool
has_operand a = begins_assign (next a) && is_on_line a

-- ---- brackets

-- How many brackets are open behind the token, where n and one more are open before it; None where that one is closed.
-- The pieces of a template are brackets too: between them stands what is between `${` and `}`.
abbrev pub open_after : Bracket → Kind → ℕ → Option ℕ
open_after bracket.Round (kind.Sign p.OpenParenthesis) n = Some (suc n)
open_after bracket.Round (kind.Sign p.CloseParenthesis) zero = None
open_after bracket.Round (kind.Sign p.CloseParenthesis) (suc n) = Some n
open_after bracket.Square (kind.Sign p.OpenBracket) n = Some (suc n)
open_after bracket.Square (kind.Sign p.CloseBracket) zero = None
open_after bracket.Square (kind.Sign p.CloseBracket) (suc n) = Some n
open_after bracket.Curly (kind.Sign p.OpenBrace) n = Some (suc n)
open_after bracket.Curly (kind.Piece true false) n = Some (suc n)
open_after bracket.Curly (kind.Sign p.CloseBrace) zero = None
open_after bracket.Curly (kind.Sign p.CloseBrace) (suc n) = Some n
open_after bracket.Curly (kind.Piece false true) zero = None
open_after bracket.Curly (kind.Piece false true) (suc n) = Some n
open_after _ _ n = Some n

abbrev pub after_one : Option ℕ → Tokens → (ℕ → Option Tokens) → Option Tokens
after_one None here later = Some here
after_one (Some n) here later = later n

-- the tokens behind the bracket that closes the outermost of n + 1 open ones
unfoldable pub after_brackets : Bracket → Tokens → ℕ → Option Tokens
after_brackets b [] n = None
after_brackets b (t ∷ ts) n = after_one (open_after b (kind_of t.kind) n) ts (after_brackets b ts)

-- ---- arrow functions (§15.3, §15.8)

abbrev pub is_before_arrow : Option Tokens → Bool
is_before_arrow None = false
is_before_arrow (Some b) = is_arrow_sign (next b)

abbrev pub arrow_by : Kind → Tokens → Bool
arrow_by kind.Name ts = is_arrow_sign (next ts)
arrow_by (kind.Sign p.OpenParenthesis) ts = is_before_arrow (after_brackets bracket.Round ts 0)
arrow_by _ ts = false

-- a name, or brackets, with `=>` behind
unfoldable pub has_arrow : Tokens → Bool
has_arrow [] = false
has_arrow (t ∷ ts) = arrow_by (kind_of t.kind) ts

-- An arrow function begins here, and whether it is async.
unfoldable pub arrow_start : Tokens → Option Bool
arrow_start a = if has_arrow a then Some false else (if is_async a && has_arrow (behind a) then Some true else None)

-- ---- functions and methods (§15.2 to §15.8)

-- `async` and then `function` on its line
unfoldable pub is_async_function : Tokens → Bool
is_async_function a = is_async a && is_function_word (next (behind a))

-- how a method that begins here runs: `async` counts where a key stands behind it on its line
unfoldable pub method_flow : Tokens → Flow
method_flow a = if is_star (next a) then flow.Generator else (if is_async a && begins_key (next (behind a)) then flow.Async else flow.Plain)

-- `static`, but not right before `(`
unfoldable pub is_static : Tokens → Bool
is_static a = is_static_word (next a) && not (is_open_parenthesis (next (behind a)))

abbrev pub ends_entry : Kind → Bool
ends_entry (kind.Sign p.Comma) = true
ends_entry (kind.Sign p.CloseBrace) = true
ends_entry _ = false

-- a name and then `,` or `}`
unfoldable pub is_shorthand : Tokens → Bool
is_shorthand a = is_name (next a) && ends_entry (next (behind a))

-- ---- where expressions end

-- a token that ends each Expr: a closing sign, or the first on its line before which a statement may end
unfoldable pub ends_expression : Tokens → Bool
ends_expression a = ends_always (next a) || (not (is_on_line a) && not (goes_on_line (next a)))

unfoldable pub ends_assign : Tokens → Bool
ends_assign a = is_comma (next a) || ends_expression a

-- the one closer of a Left
unfoldable pub ends_left : Tokens → Bool
ends_left a = is_open_brace (next a)
