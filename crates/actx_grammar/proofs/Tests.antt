-- The token that a test is about.
use Rattle.std.proofs.Common.{◌≡◌, true, refl}
use Rattle.actx_lex.specs.declared.token.Punct.TheVariants as p
use Rattle.actx_grammar.specs.declared.kind.Kind.{Kind}
use Rattle.actx_grammar.specs.declared.kind.Kind.TheVariants as kind
use Rattle.actx_grammar.specs.declared.word.Word.TheVariants as word
use Rattle.actx_grammar.specs.declared.bracket.Bracket.{Bracket}
use Rattle.actx_grammar.specs.declared.bracket.Bracket.TheVariants as bracket
use Rattle.actx_grammar.specs.Kinds.{is_comma, is_colon, is_semicolon, is_question, is_dots, is_equals, is_arrow_sign, is_star, is_open_parenthesis, is_open_bracket, is_open_brace, is_function_word, is_class_word, is_extends_word, is_new_word, is_yield_word, closes, closing}

pub comma : (sort : Kind) → is_comma sort ≡ true → sort ≡ kind.Sign p.Comma
comma (kind.Sign p.Comma) e = refl
comma _ e = Prim.absurd (cc)

pub colon : (sort : Kind) → is_colon sort ≡ true → sort ≡ kind.Sign p.Colon
colon (kind.Sign p.Colon) e = refl
colon _ e = Prim.absurd (cc)

pub semicolon : (sort : Kind) → is_semicolon sort ≡ true → sort ≡ kind.Sign p.Semicolon
semicolon (kind.Sign p.Semicolon) e = refl
semicolon _ e = Prim.absurd (cc)

pub question : (sort : Kind) → is_question sort ≡ true → sort ≡ kind.Sign p.Question
question (kind.Sign p.Question) e = refl
question _ e = Prim.absurd (cc)

pub dots : (sort : Kind) → is_dots sort ≡ true → sort ≡ kind.Sign p.Ellipsis
dots (kind.Sign p.Ellipsis) e = refl
dots _ e = Prim.absurd (cc)

pub equals : (sort : Kind) → is_equals sort ≡ true → sort ≡ kind.Sign p.Assign
equals (kind.Sign p.Assign) e = refl
equals _ e = Prim.absurd (cc)

pub arrow_sign : (sort : Kind) → is_arrow_sign sort ≡ true → sort ≡ kind.Sign p.Arrow
arrow_sign (kind.Sign p.Arrow) e = refl
arrow_sign _ e = Prim.absurd (cc)

pub star : (sort : Kind) → is_star sort ≡ true → sort ≡ kind.Sign p.Star
star (kind.Sign p.Star) e = refl
star _ e = Prim.absurd (cc)

pub open_parenthesis : (sort : Kind) → is_open_parenthesis sort ≡ true → sort ≡ kind.Sign p.OpenParenthesis
open_parenthesis (kind.Sign p.OpenParenthesis) e = refl
open_parenthesis _ e = Prim.absurd (cc)

pub open_bracket : (sort : Kind) → is_open_bracket sort ≡ true → sort ≡ kind.Sign p.OpenBracket
open_bracket (kind.Sign p.OpenBracket) e = refl
open_bracket _ e = Prim.absurd (cc)

pub open_brace : (sort : Kind) → is_open_brace sort ≡ true → sort ≡ kind.Sign p.OpenBrace
open_brace (kind.Sign p.OpenBrace) e = refl
open_brace _ e = Prim.absurd (cc)

pub function_word : (sort : Kind) → is_function_word sort ≡ true → sort ≡ kind.Word word.Function
function_word (kind.Word word.Function) e = refl
function_word _ e = Prim.absurd (cc)

pub class_word : (sort : Kind) → is_class_word sort ≡ true → sort ≡ kind.Word word.Class
class_word (kind.Word word.Class) e = refl
class_word _ e = Prim.absurd (cc)

pub extends_word : (sort : Kind) → is_extends_word sort ≡ true → sort ≡ kind.Word word.Extends
extends_word (kind.Word word.Extends) e = refl
extends_word _ e = Prim.absurd (cc)

pub new_word : (sort : Kind) → is_new_word sort ≡ true → sort ≡ kind.Word word.New
new_word (kind.Word word.New) e = refl
new_word _ e = Prim.absurd (cc)

pub yield_word : (sort : Kind) → is_yield_word sort ≡ true → sort ≡ kind.Word word.Yield
yield_word (kind.Word word.Yield) e = refl
yield_word _ e = Prim.absurd (cc)

pub closer : (c : Bracket) (sort : Kind) → closes c sort ≡ true → sort ≡ closing c
closer bracket.Round (kind.Sign p.CloseParenthesis) e = refl
closer bracket.Square (kind.Sign p.CloseBracket) e = refl
closer bracket.Curly (kind.Sign p.CloseBrace) e = refl
closer bracket.Round _ e = Prim.absurd (cc)
closer bracket.Square _ e = Prim.absurd (cc)
closer bracket.Curly _ e = Prim.absurd (cc)
