-- Parts with no node in them are read as they are spelled.
use Rattle.std.proofs.Common.{◌≡◌, ℤ, Bool, true, false, ◌∷◌, length, Option, Some, None, Ok, refl, ap}
use Rattle.actx_text.specs.declared.units.Units.{Units}
use Rattle.actx_lex.specs.declared.token.Token.{Token}
use Rattle.actx_lex.specs.declared.token.TokenKind.TheVariants as k
use Rattle.actx_lex.specs.declared.token.Punct.TheVariants as p
use Rattle.actx_tree.specs.declared.expr.Key.{Key}
use Rattle.actx_tree.specs.declared.function.Flow.{Flow}
use Rattle.actx_tree.specs.declared.function.Unread.{Unread}
use Rattle.actx_grammar.specs.declared.kind.Kind.TheVariants as kind
use Rattle.actx_grammar.specs.declared.bracket.Bracket.{Bracket}
use Rattle.actx_grammar.specs.declared.bracket.Bracket.TheVariants as bracket
use Rattle.actx_grammar.specs.Kinds.{kind_of, closes, is_dots, is_name, is_open_brace, is_function_word}
use Rattle.actx_grammar.specs.Tokens.{Tokens, next, behind, after_brackets}
use Rattle.actx_grammar.specs.Reader.{and_then, count, name, name_by, word, word_by, literal, literal_by, number, number_by, text, text_by, piece, piece_by, optional_name, rest_name, passed_to, inside, unread, star, function_head, method_head}
use Rattle.actx_grammar.specs.Grammar.{SpWord, word-name, word-reserved, SpName, name-some, name-none, SpLiteral, literal-word, literal-text, literal-number, SpRestName, rest_name-none, rest_name-some, SpUnread, unread as unread-range, SpFunctionHead, head-plain, head-generator, head-async, SpMethodHead, method_head-plain, method_head-generator, method_head-async}
use Rattle.actx_grammar.proofs.Firsts.{not_async_function}
use Rattle.actx_grammar.proofs.Gets.{expected, closes_closing, closed}

pub name_is : (t : Token) (ts : Tokens) {u : Units} → t.kind ≡ k.Name u → name (t ∷ ts) ≡ Ok (u, ts)
unfolding name
name_is t ts e = ap (λ s. name_by s ts) e

pub number_is : (t : Token) (ts : Tokens) {n : ℤ} → t.kind ≡ k.Number n → number (t ∷ ts) ≡ Ok (n, ts)
unfolding number
number_is t ts e = ap (λ s. number_by s ts) e

pub text_is : (t : Token) (ts : Tokens) {u : Units} → t.kind ≡ k.Text u → text (t ∷ ts) ≡ Ok (u, ts)
unfolding text
text_is t ts e = ap (λ s. text_by s ts) e

pub opening_is : (t : Token) (ts : Tokens) {u : Units} {c : Bool} → t.kind ≡ k.Template u true c → piece true (t ∷ ts) ≡ Ok ((u, c), ts)
unfolding piece
opening_is t ts e = ap (λ s. piece_by true s ts) e

pub piece_is : (t : Token) (ts : Tokens) {u : Units} {c : Bool} → t.kind ≡ k.Template u false c → piece false (t ∷ ts) ≡ Ok ((u, c), ts)
unfolding piece
piece_is t ts e = ap (λ s. piece_by false s ts) e

pub word_is : {u : Units} {a b : Tokens} → SpWord u a b → word a ≡ Ok (u, b)
unfolding word
word_is (word-name {b = b} e) = ap (λ s. word_by s b) e
word_is (word-reserved {b = b} e) = ap (λ s. word_by s b) e

pub literal_is : {w : Key} {a b : Tokens} → SpLiteral w a b → literal a ≡ Ok (w, b)
unfolding literal
literal_is (literal-word (word-name {b = b} e)) = ap (λ s. literal_by s b) e
literal_is (literal-word (word-reserved {b = b} e)) = ap (λ s. literal_by s b) e
literal_is (literal-text {b = b} e) = ap (λ s. literal_by s b) e
literal_is (literal-number {b = b} e) = ap (λ s. literal_by s b) e

pub is_name_of : (t : Token) (ts : Tokens) {u : Units} → t.kind ≡ k.Name u → is_name (next (t ∷ ts)) ≡ true
unfolding next
is_name_of t ts e = ap (λ s. is_name (kind_of s)) e

pub optional_is : {n : Option Units} {a b : Tokens} → SpName n a b → optional_name a ≡ Ok (n, b)
unfolding optional_name and_then
optional_is (name-some {t = t} {b = b} e) = rw (is_name_of t b e, name_is t b e) refl
optional_is (name-none {b = b} e) = rw e refl

dots_no_close : (c : Bracket) → closes c (kind.Sign p.Ellipsis) ≡ false
dots_no_close bracket.Round = refl
dots_no_close bracket.Square = refl
dots_no_close bracket.Curly = refl

pub rest_is : {c : Bracket} {r : Option Units} {a b : Tokens} → SpRestName c r a b → rest_name c a ≡ Ok (r, b)
unfolding rest_name and_then behind next
rest_is {c = c} (rest_name-none {t = t} {b = b} e) = rw (e, closes_closing c) refl
rest_is {c = c} (rest_name-some {t = t} {u = u} {v = v} {b = b} e n f) =
    rw (e, dots_no_close c, expected is_dots t (u ∷ v ∷ b) e refl, name_is u (v ∷ b) n, closed c v b f) refl

passed_is : (m b : Tokens) (o : Option Tokens) (r : Unread) → o ≡ Some b → r.from ≡ length m → r.to ≡ length b → passed_to (count m) o ≡ Ok (r, b)
unfolding count
passed_is m b None r q f g = Prim.absurd (cc)
passed_is m b (Some c) r q f g = let e : c ≡ b = cc in rw (e, ← f, ← g) refl

pub unread_is : {r : Unread} {a b : Tokens} → SpUnread r a b → unread a ≡ Ok (r, b)
unfolding unread and_then inside
unread_is (unread-range {t = t} {r = r} {a = a} {b = b} e q f g) = rw (expected is_open_brace t a e refl) (passed_is a b (after_brackets bracket.Curly a 0) r q f g)

pub function_head_is : {f : Flow} {a b : Tokens} → SpFunctionHead f a b → function_head a ≡ Ok (f, b)
unfolding function_head and_then star next behind
function_head_is (head-plain {t = t} {b = b} e q) = rw (not_async_function t b e, expected is_function_word t b e refl, q) refl
function_head_is (head-generator {t = t} {u = u} {b = b} e q) = rw (not_async_function t (u ∷ b) e, expected is_function_word t (u ∷ b) e refl, q) refl
function_head_is (head-async {t = t} {u = u} {b = b} e) = rw e refl

pub method_head_is : {f : Flow} {a b : Tokens} → SpMethodHead f a b → method_head a ≡ Ok (f, b)
unfolding method_head behind
method_head_is (method_head-plain {b = b} e) = rw e refl
method_head_is (method_head-generator {t = t} {b = b} e) = rw e refl
method_head_is (method_head-async {t = t} {b = b} e) = rw e refl
