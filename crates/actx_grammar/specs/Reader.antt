-- Reading as a function: what the code does, one definition for each function of it. This file has what reads no node.
use Rattle.std.specs.Prelude.{ℕ, ℤ, zero, suc, max, Bool, true, false, if◌then◌else◌, nat_le, List, [], ◌∷◌, ◌++◌, length, Option, Some, None, Result, Ok, Err}
use Rattle.actx_text.specs.declared.units.Units.{Units}
use Rattle.actx_lex.specs.declared.token.TokenKind.{TokenKind}
use Rattle.actx_lex.specs.declared.token.TokenKind.TheVariants as k
use Rattle.actx_tree.specs.declared.expr.Expr.{Expr}
use Rattle.actx_tree.specs.declared.expr.Key.{Key}
use Rattle.actx_tree.specs.declared.expr.Key.TheVariants as a_key
use Rattle.actx_tree.specs.declared.pattern.Target.{Target}
use Rattle.actx_tree.specs.declared.function.Flow.{Flow}
use Rattle.actx_tree.specs.declared.function.Flow.TheVariants as flow
use Rattle.actx_tree.specs.declared.function.Unread.{Unread}
use Rattle.actx_grammar.specs.declared.error.Cause.{Cause}
use Rattle.actx_grammar.specs.declared.error.Cause.TheVariants.{NoTree, TooNested}
use Rattle.actx_grammar.specs.declared.line.Line.{Line}
use Rattle.actx_grammar.specs.declared.kind.Kind.{Kind}
use Rattle.actx_grammar.specs.declared.bracket.Bracket.{Bracket}
use Rattle.actx_grammar.specs.declared.bracket.Bracket.TheVariants as bracket
use Rattle.actx_grammar.specs.Kinds.{closes, is_dots, is_name, is_star, is_open_brace, is_function_word, is_comma}
use Rattle.actx_grammar.specs.Tokens.{Tokens, next, behind, after_brackets, is_async_function, method_flow}

abbrev pub Outcome : Type 0 → Type 0
Outcome A = Result (A × Tokens) Cause

abbrev pub Parser : Type 0 → Type 0
Parser A = Tokens → Outcome A

unfoldable pub and_then : {A B : Type 0} → Outcome A → (A → Parser B) → Outcome B
and_then (Ok p) f = f p.0 p.1
and_then (Err e) f = Err e

infixl 10 ◌>>=◌
abbrev pub ◌>>=◌ : {A B : Type 0} → Parser A → (A → Parser B) → Parser B
p >>= f = λ i. and_then (p i) f

infixl 10 ◌>>◌
abbrev pub ◌>>◌ : {A B : Type 0} → Parser A → Parser B → Parser B
p >> q = p >>= (λ _. q)

abbrev pub pure : {A : Type 0} → A → Parser A
pure a = λ i. Ok (a, i)

abbrev pub refuse : {A : Type 0} → Parser A
refuse = λ i. Err NoTree

abbrev pub skip : Parser (Unit {0})
skip = λ i. Ok (tt, behind i)

unfoldable pub count : Tokens → ℕ
count i = length i

-- ---- single tokens

-- a token of the kinds that pass the test
unfoldable pub expect : (Kind → Bool) → Parser (Unit {0})
expect test = λ i. if test (next i) then Ok (tt, behind i) else Err NoTree

abbrev pub name_by : TokenKind → Tokens → Outcome Units
name_by (k.Name u) ts = Ok (u, ts)
name_by _ ts = Err NoTree

unfoldable pub name : Parser Units
name [] = Err NoTree
name (t ∷ ts) = name_by t.kind ts

abbrev pub word_by : TokenKind → Tokens → Outcome Units
word_by (k.Name u) ts = Ok (u, ts)
word_by (k.Reserved u) ts = Ok (u, ts)
word_by _ ts = Err NoTree

unfoldable pub word : Parser Units
word [] = Err NoTree
word (t ∷ ts) = word_by t.kind ts

abbrev pub number_by : TokenKind → Tokens → Outcome ℤ
number_by (k.Number n) ts = Ok (n, ts)
number_by _ ts = Err NoTree

unfoldable pub number : Parser ℤ
number [] = Err NoTree
number (t ∷ ts) = number_by t.kind ts

abbrev pub text_by : TokenKind → Tokens → Outcome Units
text_by (k.Text u) ts = Ok (u, ts)
text_by _ ts = Err NoTree

unfoldable pub text : Parser Units
text [] = Err NoTree
text (t ∷ ts) = text_by t.kind ts

-- a piece that begins a template, or one that doesn't, and whether it ends it
abbrev pub piece_by : Bool → TokenKind → Tokens → Outcome (Units × Bool)
piece_by true (k.Template u true closes) ts = Ok ((u, closes), ts)
piece_by false (k.Template u false closes) ts = Ok ((u, closes), ts)
piece_by _ _ ts = Err NoTree

unfoldable pub piece : Bool → Parser (Units × Bool)
piece opens [] = Err NoTree
piece opens (t ∷ ts) = piece_by opens t.kind ts

abbrev pub literal_by : TokenKind → Tokens → Outcome Key
literal_by (k.Name u) ts = Ok (a_key.Word u, ts)
literal_by (k.Reserved u) ts = Ok (a_key.Word u, ts)
literal_by (k.Text u) ts = Ok (a_key.Text u, ts)
literal_by (k.Number n) ts = Ok (a_key.Number n, ts)
literal_by _ ts = Err NoTree

unfoldable pub literal : Parser Key
literal [] = Err NoTree
literal (t ∷ ts) = literal_by t.kind ts

unfoldable pub optional_name : Parser (Option Units)
optional_name = λ i. if is_name (next i) then (name >>= (λ u. pure (Some u))) i else Ok (None, i)

unfoldable pub rest_name : Bracket → Parser (Option Units)
rest_name c = λ i. if closes c (next i) then Ok (None, behind i) else (do
  expect is_dots
  u ← name
  expect (closes c)
  pure (Some u)) i

-- ---- blocks that are passed over

abbrev pub range_of : ℕ → ℕ → Unread
range_of from to = record { from = from; to = to }

abbrev pub passed_to : ℕ → Option Tokens → Outcome Unread
passed_to from None = Err NoTree
passed_to from (Some b) = Ok (range_of from (count b), b)

unfoldable pub inside : Parser Unread
inside = λ i. passed_to (count i) (after_brackets bracket.Curly i 0)

unfoldable pub unread : Parser Unread
unread = expect is_open_brace >> inside

-- ---- heads of functions

unfoldable pub star : Parser Flow
star = λ i. if is_star (next i) then Ok (flow.Generator, behind i) else Ok (flow.Plain, i)

unfoldable pub function_head : Parser Flow
function_head = λ i. if is_async_function i then Ok (flow.Async, behind (behind i)) else (expect is_function_word >> star) i

abbrev pub after_flow : Flow → Tokens → Tokens
after_flow flow.Plain i = i
after_flow flow.Async i = behind i
after_flow flow.Generator i = behind i

unfoldable pub method_head : Parser Flow
method_head = λ i. Ok (method_flow i, after_flow (method_flow i) i)

-- ---- lists: their members, with the greatest of their levels. The number bounds the turns; each takes a token, so the
-- count of tokens is enough.

abbrev pub Read : Type 0 → Type 0
Read X = X × ℕ

-- members as long as the tokens pass the test
unfoldable pub many_from : {X : Type 0} → (Tokens → Bool) → Parser (Read X) → ℕ → List X → ℕ → Parser (Read (List X))
many_from go item zero found h = λ i. Ok ((found, h), i)
many_from go item (suc n) found h = λ i. if go i then and_then (item i) (λ x. many_from go item n (found ++ x.0 ∷ []) (max h x.1)) else Ok ((found, h), i)

-- behind a member: a comma, after which the list goes on, or the closing bracket
abbrev pub row_after : {A : Type 0} → Bracket → Parser A → A → Parser A
row_after c again found = λ i. if is_comma (next i) then again (behind i) else (if closes c (next i) then Ok (found, i) else Err NoTree)

-- members with commas between, and perhaps one behind the last, up to what ends them
unfoldable pub row_from : {X : Type 0} → Bracket → (Kind → Bool) → Parser (Read X) → ℕ → List X → ℕ → Parser (Read (List X))
row_from c ends item zero found h = λ i. Err NoTree
row_from c ends item (suc n) found h = λ i. if ends (next i) then Ok ((found, h), i) else
    and_then (item i) (λ x. row_after c (row_from c ends item n (found ++ x.0 ∷ []) (max h x.1)) (found ++ x.0 ∷ [], max h x.1))

-- ---- what lies in a node

-- the readers of what lies right in a node, none of more levels than `room`
pub record Inner : Type 0 where
  pub room : ℕ
  pub read : Line → Parser (Read Expr)
  pub target : Parser (Read Target)

-- so many levels fit into a node
unfoldable pub fits : Inner → ℕ → Parser (Unit {0})
fits inner h = λ i. if nat_le h inner.room then Ok (tt, i) else Err TooNested
