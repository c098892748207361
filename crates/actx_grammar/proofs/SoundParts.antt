-- Parts with no node in them that are read are spelled.
use Rattle.std.proofs.Common.{◌≡◌, Bool, true, false, ◌&&◌, [], ◌∷◌, length, Option, Some, None, refl}
use Rattle.actx_text.specs.declared.units.Units.{Units}
use Rattle.actx_lex.specs.declared.token.Token.{Token}
use Rattle.actx_lex.specs.declared.token.TokenKind.{TokenKind}
use Rattle.actx_lex.specs.declared.token.TokenKind.TheVariants as k
use Rattle.actx_tree.specs.declared.function.Flow.{Flow}
use Rattle.actx_tree.specs.declared.function.Flow.TheVariants as flow
use Rattle.actx_tree.specs.declared.function.Unread.{Unread}
use Rattle.actx_grammar.specs.declared.error.Cause.TheVariants.{NoTree}
use Rattle.actx_grammar.specs.declared.kind.Kind.TheVariants as kind
use Rattle.actx_grammar.specs.declared.bracket.Bracket.{Bracket}
use Rattle.actx_grammar.specs.declared.bracket.Bracket.TheVariants as bracket
use Rattle.actx_grammar.specs.Kinds.{kind_of, closes, is_dots, is_name, is_star, is_open_brace, is_function_word}
use Rattle.actx_grammar.specs.Tokens.{Tokens, next, behind, is_async, is_async_word, is_on_line, after_brackets, is_async_function, method_flow}
use Rattle.actx_grammar.specs.Reader as r
use Rattle.actx_grammar.specs.Grammar.{SpWord, word-name, word-reserved, SpName, name-some, name-none, SpLiteral, literal-word, literal-text, literal-number, SpRestName, rest_name-none, rest_name-some, SpUnread, unread, SpFunctionHead, head-plain, head-generator, head-async, SpMethodHead, method_head-plain, method_head-generator, method_head-async}
use Rattle.actx_grammar.proofs.Tests as is
use Rattle.actx_grammar.proofs.Firsts.{both_first, both_second}
use Rattle.actx_grammar.proofs.Holds.{Holds, done, fails, bind, branch, map, Taken, taken, taken_if, sound-expect}

-- a token with this payload, and what stands behind it
pub data Token_of (s : TokenKind) : Tokens → Tokens → Type 0 where
  token_of : {t : Token} {b : Tokens} → t.kind ≡ s → Token_of s (t ∷ b) b

name_kind : (t : Token) (ts : Tokens) (s : TokenKind) → t.kind ≡ s → Holds (λ u b. Token_of (k.Name u) (t ∷ ts) b) (r.name_by s ts)
name_kind t ts (k.Name u) e = done _ _ (token_of e)
name_kind t ts _ e = fails NoTree

pub sound-name : (a : Tokens) → Holds (λ u b. Token_of (k.Name u) a b) (r.name a)
unfolding r.name
sound-name [] = fails NoTree
sound-name (t ∷ ts) = name_kind t ts t.kind refl

number_kind : (t : Token) (ts : Tokens) (s : TokenKind) → t.kind ≡ s → Holds (λ n b. Token_of (k.Number n) (t ∷ ts) b) (r.number_by s ts)
number_kind t ts (k.Number n) e = done _ _ (token_of e)
number_kind t ts _ e = fails NoTree

pub sound-number : (a : Tokens) → Holds (λ n b. Token_of (k.Number n) a b) (r.number a)
unfolding r.number
sound-number [] = fails NoTree
sound-number (t ∷ ts) = number_kind t ts t.kind refl

text_kind : (t : Token) (ts : Tokens) (s : TokenKind) → t.kind ≡ s → Holds (λ u b. Token_of (k.Text u) (t ∷ ts) b) (r.text_by s ts)
text_kind t ts (k.Text u) e = done _ _ (token_of e)
text_kind t ts _ e = fails NoTree

pub sound-text : (a : Tokens) → Holds (λ u b. Token_of (k.Text u) a b) (r.text a)
unfolding r.text
sound-text [] = fails NoTree
sound-text (t ∷ ts) = text_kind t ts t.kind refl

piece_kind : (o : Bool) (t : Token) (ts : Tokens) (s : TokenKind) → t.kind ≡ s → Holds (λ u b. Token_of (k.Template u.0 o u.1) (t ∷ ts) b) (r.piece_by o s ts)
piece_kind true t ts (k.Template u true c) e = done _ _ (token_of e)
piece_kind false t ts (k.Template u false c) e = done _ _ (token_of e)
piece_kind true t ts _ e = fails NoTree
piece_kind false t ts _ e = fails NoTree

pub sound-piece : (o : Bool) (a : Tokens) → Holds (λ u b. Token_of (k.Template u.0 o u.1) a b) (r.piece o a)
unfolding r.piece
sound-piece o [] = fails NoTree
sound-piece o (t ∷ ts) = piece_kind o t ts t.kind refl

word_kind : (t : Token) (ts : Tokens) (s : TokenKind) → t.kind ≡ s → Holds (λ u b. SpWord u (t ∷ ts) b) (r.word_by s ts)
word_kind t ts (k.Name u) e = done _ _ (word-name e)
word_kind t ts (k.Reserved u) e = done _ _ (word-reserved e)
word_kind t ts _ e = fails NoTree

pub sound-word : (a : Tokens) → Holds (λ u b. SpWord u a b) (r.word a)
unfolding r.word
sound-word [] = fails NoTree
sound-word (t ∷ ts) = word_kind t ts t.kind refl

literal_kind : (t : Token) (ts : Tokens) (s : TokenKind) → t.kind ≡ s → Holds (λ w b. SpLiteral w (t ∷ ts) b) (r.literal_by s ts)
literal_kind t ts (k.Name u) e = done _ _ (literal-word (word-name e))
literal_kind t ts (k.Reserved u) e = done _ _ (literal-word (word-reserved e))
literal_kind t ts (k.Text u) e = done _ _ (literal-text e)
literal_kind t ts (k.Number n) e = done _ _ (literal-number e)
literal_kind t ts _ e = fails NoTree

pub sound-literal : (a : Tokens) → Holds (λ w b. SpLiteral w a b) (r.literal a)
unfolding r.literal
sound-literal [] = fails NoTree
sound-literal (t ∷ ts) = literal_kind t ts t.kind refl

some_name : {u : Units} {a b : Tokens} → Token_of (k.Name u) a b → SpName (Some u) a b
some_name (token_of e) = name-some e

pub sound-optional_name : (a : Tokens) → Holds (λ n b. SpName n a b) (r.optional_name a)
unfolding r.optional_name
sound-optional_name a = branch (is_name (next a)) (λ _. bind _ _ (sound-name a) (λ u b d. done _ _ (some_name d))) (λ e. done _ _ (name-none e))

closed_none : {c : Bracket} {a b : Tokens} → Taken (closes c) a b → SpRestName c None a b
closed_none {c = c} (taken {t = t} e) = rest_name-none (is.closer c (kind_of t.kind) e)

closed_some : {c : Bracket} {n : Units} {a m q b : Tokens} → Taken is_dots a m → Token_of (k.Name n) m q → Taken (closes c) q b → SpRestName c (Some n) a b
closed_some {c = c} (taken {t = t} e) (token_of n) (taken {t = u} f) = rest_name-some (is.dots (kind_of t.kind) e) n (is.closer c (kind_of u.kind) f)

pub no_end_closes : (c : Bracket) → closes c kind.End ≡ false
no_end_closes bracket.Round = refl
no_end_closes bracket.Square = refl
no_end_closes bracket.Curly = refl

pub sound-rest_name : (c : Bracket) (a : Tokens) → Holds (λ n b. SpRestName c n a b) (r.rest_name c a)
unfolding r.rest_name
sound-rest_name c a = branch (closes c (next a)) (λ e. done _ _ (closed_none (taken_if (closes c) a (no_end_closes c) e)))
    (λ _. bind _ _ (sound-expect is_dots a refl) (λ _ m d. bind _ _ (sound-name m) (λ u q n. bind _ _ (sound-expect (closes c) q (no_end_closes c)) (λ _ b f. done _ _ (closed_some d n f)))))

-- ---- blocks and heads

passed : (m : Tokens) (o : Option Tokens) → after_brackets bracket.Curly m 0 ≡ o
    → Holds (λ u b. (after_brackets bracket.Curly m 0 ≡ Some b) × (u.from ≡ length m) × (u.to ≡ length b)) (r.passed_to (r.count m) o)
unfolding r.count
passed m None e = fails NoTree
passed m (Some b) e = done _ _ (e, refl, refl)

a_block : {u : Unread} {a m b : Tokens} → Taken is_open_brace a m → (after_brackets bracket.Curly m 0 ≡ Some b) × (u.from ≡ length m) × (u.to ≡ length b) → SpUnread u a b
a_block (taken {t = t} e) z = unread (is.open_brace (kind_of t.kind) e) z.0 z.1 z.2

pub sound-unread : (a : Tokens) → Holds (λ u b. SpUnread u a b) (r.unread a)
unfolding r.unread r.inside
sound-unread a = bind _ _ (sound-expect is_open_brace a refl) (λ _ m d. map (λ u b z. a_block d z) (passed m (after_brackets bracket.Curly m 0) refl))

plain_head : {a b : Tokens} → Taken is_function_word a b → is_star (next b) ≡ false → SpFunctionHead flow.Plain a b
plain_head (taken {t = t} e) s = head-plain (is.function_word (kind_of t.kind) e) s

generator_head : {a m b : Tokens} → Taken is_function_word a m → Taken is_star m b → SpFunctionHead flow.Generator a b
generator_head (taken {t = t} e) (taken {t = u} f) = head-generator (is.function_word (kind_of t.kind) e) (is.star (kind_of u.kind) f)

async_head : (a : Tokens) → is_async_function a ≡ true → SpFunctionHead flow.Async a (behind (behind a))
unfolding behind next is_async_function is_async is_on_line
async_head [] e = Prim.absurd (cc)
async_head (t ∷ []) e = let z : false ≡ true = both_second (is_async_word t.kind) false (both_first (is_async_word t.kind && false) (is_function_word (next [])) e) in Prim.absurd (cc)
async_head (t ∷ u ∷ b) e = head-async e

pub sound-function_head : (a : Tokens) → Holds (λ f b. SpFunctionHead f a b) (r.function_head a)
unfolding r.function_head r.star
sound-function_head a = branch (is_async_function a) (λ e. done _ _ (async_head a e))
    (λ _. bind _ _ (sound-expect is_function_word a refl) (λ _ m d. branch (is_star (next m)) (λ e. done _ _ (generator_head d (taken_if is_star m refl e))) (λ e. done _ _ (plain_head d e))))

method_head_by : (a : Tokens) (f : Flow) → method_flow a ≡ f → SpMethodHead f a (r.after_flow f a)
unfolding method_flow next is_async behind
method_head_by a flow.Plain e = method_head-plain e
method_head_by [] flow.Async e = Prim.absurd (cc)
method_head_by (t ∷ b) flow.Async e = method_head-async e
method_head_by [] flow.Generator e = Prim.absurd (cc)
method_head_by (t ∷ b) flow.Generator e = method_head-generator e

pub sound-method_head : (a : Tokens) → Holds (λ f b. SpMethodHead f a b) (r.method_head a)
unfolding r.method_head
sound-method_head a = done _ _ (method_head_by a (method_flow a) refl)
