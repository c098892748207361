-- What is spelled opens and closes its braces: the search for the brace that closes a block passes over it.
use Rattle.std.proofs.Common.{◌≡◌, ◌∙◌, ℕ, zero, suc, ◌+◌, Bool, true, false, ◌&&◌, if◌then◌else◌, List, [], ◌∷◌, Option, Some, refl, ap, arith}
use Rattle.actx_text.specs.declared.units.Units.{Units}
use Rattle.actx_lex.specs.declared.token.Token.{Token}
use Rattle.actx_lex.specs.declared.token.TokenKind.{TokenKind}
use Rattle.actx_lex.specs.declared.token.TokenKind.TheVariants as k
use Rattle.actx_lex.specs.declared.token.Punct.TheVariants as p
use Rattle.actx_tree.specs.declared.operator.BinaryOp.{BinaryOp}
use Rattle.actx_tree.specs.declared.operator.UnaryOp.{UnaryOp}
use Rattle.actx_tree.specs.declared.operator.StepOp.{StepOp}
use Rattle.actx_tree.specs.declared.operator.AssignOp.{AssignOp}
use Rattle.actx_tree.specs.declared.expr.Expr.{Expr}
use Rattle.actx_tree.specs.declared.expr.Piece.{Piece}
use Rattle.actx_tree.specs.declared.expr.Argument.{Argument}
use Rattle.actx_tree.specs.declared.expr.Entry.{Entry}
use Rattle.actx_tree.specs.declared.expr.Key.{Key}
use Rattle.actx_tree.specs.declared.expr.Suffix.{Suffix}
use Rattle.actx_tree.specs.declared.expr.Operand.{Operand}
use Rattle.actx_tree.specs.declared.function.Flow.{Flow}
use Rattle.actx_tree.specs.declared.function.Flow.TheVariants as flow
use Rattle.actx_tree.specs.declared.function.Unread.{Unread}
use Rattle.actx_tree.specs.declared.function.Function.{Function}
use Rattle.actx_tree.specs.declared.function.Method.{Method}
use Rattle.actx_tree.specs.declared.function.Class.{Class}
use Rattle.actx_tree.specs.declared.function.Member.{Member}
use Rattle.actx_tree.specs.declared.pattern.Target.{Target}
use Rattle.actx_tree.specs.declared.pattern.Prop.{Prop}
use Rattle.actx_tree.specs.declared.pattern.Elem.{Elem}
use Rattle.actx_tree.specs.declared.pattern.Params.{Params}
use Rattle.actx_grammar.specs.declared.kind.Kind.{Kind}
use Rattle.actx_grammar.specs.declared.kind.Kind.TheVariants as kind
use Rattle.actx_grammar.specs.declared.word.Word.TheVariants as word
use Rattle.actx_grammar.specs.declared.bracket.Bracket.{Bracket}
use Rattle.actx_grammar.specs.declared.bracket.Bracket.TheVariants as bracket
use Rattle.actx_grammar.specs.Kinds.{kind_of, binary_op, unary_op, step_op, assign_op, is_function_word, is_static_word, is_star, begins_key}
use Rattle.actx_grammar.specs.Tokens.{Tokens, Is, next, behind, is_async, is_async_word, is_async_function, is_static, method_flow, after_brackets, after_one, open_after}
use Rattle.actx_grammar.specs.Grammar.{SpWord, word-name, word-reserved, SpName, name-some, name-none, SpLiteral, literal-word, literal-text, literal-number, SpRestName, rest_name-none, rest_name-some, SpUnread, unread, SpFunctionHead, head-plain, head-generator, head-async, SpMethodHead, method_head-plain, method_head-generator, method_head-async, SpTarget, target-name, target-object, target-object_rest, target-array, target-array_rest, SpProps, props-none, props-last, props-more, SpProp, prop-name, prop-pair, SpElems, elems-none, elems-last, elems-more, SpElem, elem, SpDefault, default-none, default-some, SpParams, params, SpRestTarget, rest-none, rest-some, SpFunction, function, SpMethod, method, SpClass, class-base, class-derived, SpMembers, members-none, members-semicolon, members-more, SpMember, member-static, member-plain, SpExpr, expr-one, expr-comma, SpCommas, commas-none, commas-more, SpAssign, assign-cond, assign-place, assign-yield, assign-yield_of, assign-arrow, assign-arrow_block, SpArrowHead, arrow_head-plain, arrow_head-async, SpArrowParams, arrow_params-name, arrow_params-list, SpCond, cond-one, cond-test, SpShort, short-or, short-coalesce, SpLevel, level-unary, level-one, level-chain, SpOperands, operands-none, operands-more, SpUnary, unary-op, unary-before, unary-after, unary-left, SpLeft, left-made, left-suffixes, SpMade, made-primary, made-new, made-new_bare, SpSuffixes, suffixes-none, suffixes-more, SpMemberSuffixes, member_suffixes-none, member_suffixes-more, SpSuffix, suffix-member, suffix-call, suffix-optional_name, suffix-optional_index, suffix-optional_call, SpMemberSuffix, member_suffix-name, member_suffix-index, SpIndex, index, SpArgs, args, SpArguments, arguments-none, arguments-last, arguments-more, SpArgument, argument-one, argument-spread, SpPrimary, primary-name, primary-number, primary-text, primary-true, primary-false, primary-null, primary-this, primary-template, primary-template_of, primary-brackets, primary-array, primary-object, primary-super_call, primary-super_member, primary-function, primary-class, SpPieces, pieces-last, pieces-more, SpEntries, entries-none, entries-last, entries-more, SpEntry, entry-spread, entry-name, entry-pair, entry-method, SpKey, key-literal, key-computed}
use Rattle.actx_grammar.proofs.Tests as is
use Rattle.actx_grammar.proofs.Firsts.{both_first, both_second, first-async, first-async_function}

-- ---- one token

-- a token of another kind
pub pass : (t : Token) (ts : Tokens) (n : ℕ) {sort : Kind} → Is sort t → open_after bracket.Curly sort n ≡ Some n → after_brackets bracket.Curly (t ∷ ts) n ≡ after_brackets bracket.Curly ts n
unfolding after_brackets
pass t ts n e q = rw (e, q) refl

pub opens : (t : Token) (ts : Tokens) (n : ℕ) → Is (kind.Sign p.OpenBrace) t → after_brackets bracket.Curly (t ∷ ts) n ≡ after_brackets bracket.Curly ts (suc n)
unfolding after_brackets
opens t ts n e = rw e refl

pub shuts : (t : Token) (ts : Tokens) (n : ℕ) → Is (kind.Sign p.CloseBrace) t → after_brackets bracket.Curly (t ∷ ts) (suc n) ≡ after_brackets bracket.Curly ts n
unfolding after_brackets
shuts t ts n e = rw e refl

pub found : (t : Token) (ts : Tokens) → Is (kind.Sign p.CloseBrace) t → after_brackets bracket.Curly (t ∷ ts) 0 ≡ Some ts
unfolding after_brackets
found t ts e = rw e refl

opens_piece : (t : Token) (ts : Tokens) (n : ℕ) {u : Units} → t.kind ≡ k.Template u true false → after_brackets bracket.Curly (t ∷ ts) n ≡ after_brackets bracket.Curly ts (suc n)
unfolding after_brackets
opens_piece t ts n e = rw e refl

shuts_piece : (t : Token) (ts : Tokens) (n : ℕ) {u : Units} → t.kind ≡ k.Template u false true → after_brackets bracket.Curly (t ∷ ts) (suc n) ≡ after_brackets bracket.Curly ts n
unfolding after_brackets
shuts_piece t ts n e = rw e refl

-- an operator is no brace
binary_op_even : (sort : Kind) (n : ℕ) {op : BinaryOp} → binary_op sort ≡ Some op → open_after bracket.Curly sort n ≡ Some n
binary_op_even (kind.Sign p.OpenBrace) n e = Prim.absurd (cc)
binary_op_even (kind.Sign p.CloseBrace) n e = Prim.absurd (cc)
binary_op_even (kind.Piece true false) n e = Prim.absurd (cc)
binary_op_even (kind.Piece false true) n e = Prim.absurd (cc)
binary_op_even _ n e = refl

unary_op_even : (sort : Kind) (n : ℕ) {op : UnaryOp} → unary_op sort ≡ Some op → open_after bracket.Curly sort n ≡ Some n
unary_op_even (kind.Sign p.OpenBrace) n e = Prim.absurd (cc)
unary_op_even (kind.Sign p.CloseBrace) n e = Prim.absurd (cc)
unary_op_even (kind.Piece true false) n e = Prim.absurd (cc)
unary_op_even (kind.Piece false true) n e = Prim.absurd (cc)
unary_op_even _ n e = refl

step_op_even : (sort : Kind) (n : ℕ) {op : StepOp} → step_op sort ≡ Some op → open_after bracket.Curly sort n ≡ Some n
step_op_even (kind.Sign p.OpenBrace) n e = Prim.absurd (cc)
step_op_even (kind.Sign p.CloseBrace) n e = Prim.absurd (cc)
step_op_even (kind.Piece true false) n e = Prim.absurd (cc)
step_op_even (kind.Piece false true) n e = Prim.absurd (cc)
step_op_even _ n e = refl

assign_op_even : (sort : Kind) (n : ℕ) {op : AssignOp} → assign_op sort ≡ Some op → open_after bracket.Curly sort n ≡ Some n
assign_op_even (kind.Sign p.OpenBrace) n e = Prim.absurd (cc)
assign_op_even (kind.Sign p.CloseBrace) n e = Prim.absurd (cc)
assign_op_even (kind.Piece true false) n e = Prim.absurd (cc)
assign_op_even (kind.Piece false true) n e = Prim.absurd (cc)
assign_op_even _ n e = refl

async_kind : (sort : TokenKind) → is_async_word sort ≡ true → kind_of sort ≡ kind.Name
async_kind (k.Name u) e = refl
async_kind _ e = Prim.absurd (cc)

static_word : (sort : Kind) → is_static_word sort ≡ true → sort ≡ kind.Word word.Static
static_word (kind.Word word.Static) e = refl
static_word _ e = Prim.absurd (cc)

static_kind : (t : Token) (ts : Tokens) → is_static (t ∷ ts) ≡ true → Is (kind.Word word.Static) t
unfolding is_static next
static_kind t ts e = static_word (kind_of t.kind) (both_first _ _ e)

-- ---- blocks that are passed over

over-kind : (sort : Kind) (j i n : ℕ) (ts b : Tokens) → ((j' i' : ℕ) → i' ≡ suc (n + j') → after_brackets bracket.Curly ts j' ≡ Some b → after_brackets bracket.Curly ts i' ≡ after_brackets bracket.Curly b n)
    → i ≡ suc (n + j) → after_one (open_after bracket.Curly sort j) ts (after_brackets bracket.Curly ts) ≡ Some b
    → after_one (open_after bracket.Curly sort i) ts (after_brackets bracket.Curly ts) ≡ after_brackets bracket.Curly b n
over-kind (kind.Sign p.OpenBrace) j i n ts b ih e q = ih (suc j) (suc i) (omega arith) q
over-kind (kind.Piece true false) j i n ts b ih e q = ih (suc j) (suc i) (omega arith) q
over-kind (kind.Sign p.CloseBrace) j zero n ts b ih e q = Prim.absurd (omega arith)
over-kind (kind.Sign p.CloseBrace) zero (suc i) n ts b ih e q = let z : ts ≡ b = cc in let y : i ≡ n = omega arith in ap (λ w. after_brackets bracket.Curly w i) z ∙ ap (λ w. after_brackets bracket.Curly b w) y
over-kind (kind.Sign p.CloseBrace) (suc j) (suc i) n ts b ih e q = ih j i (omega arith) q
over-kind (kind.Piece false true) j zero n ts b ih e q = Prim.absurd (omega arith)
over-kind (kind.Piece false true) zero (suc i) n ts b ih e q = let z : ts ≡ b = cc in let y : i ≡ n = omega arith in ap (λ w. after_brackets bracket.Curly w i) z ∙ ap (λ w. after_brackets bracket.Curly b w) y
over-kind (kind.Piece false true) (suc j) (suc i) n ts b ih e q = ih j i (omega arith) q
over-kind _ j i n ts b ih e q = ih j i e q

-- a search that is further in goes on behind the brace that the search from here finds
over : (m : Tokens) (j i n : ℕ) (b : Tokens) → i ≡ suc (n + j) → after_brackets bracket.Curly m j ≡ Some b → after_brackets bracket.Curly m i ≡ after_brackets bracket.Curly b n
unfolding after_brackets
over [] j i n b e q = Prim.absurd (cc)
over (t ∷ ts) j i n b e q = over-kind (kind_of t.kind) j i n ts b (λ j' i' e' q'. over ts j' i' n b e' q') e q

pub even-unread : {r : Unread} {a b : Tokens} → SpUnread r a b → (n : ℕ) → after_brackets bracket.Curly a n ≡ after_brackets bracket.Curly b n
even-unread (unread {t = t} {a = a} {b = b} e q x y) n = opens t a n e ∙ over a 0 (suc n) n b (omega arith) q

-- ---- parts with no node in them

even-word : {u : Units} {a b : Tokens} → SpWord u a b → (n : ℕ) → after_brackets bracket.Curly a n ≡ after_brackets bracket.Curly b n
even-word (word-name e) n = pass _ _ n (ap kind_of e) refl
even-word (word-reserved e) n = pass _ _ n (ap kind_of e) refl

even-name : {u : Option Units} {a b : Tokens} → SpName u a b → (n : ℕ) → after_brackets bracket.Curly a n ≡ after_brackets bracket.Curly b n
even-name (name-some e) n = pass _ _ n (ap kind_of e) refl
even-name (name-none e) n = refl

even-literal : {w : Key} {a b : Tokens} → SpLiteral w a b → (n : ℕ) → after_brackets bracket.Curly a n ≡ after_brackets bracket.Curly b n
even-literal (literal-word d) n = even-word d n
even-literal (literal-text e) n = pass _ _ n (ap kind_of e) refl
even-literal (literal-number e) n = pass _ _ n (ap kind_of e) refl

even-rest_curly : {r : Option Units} {a b : Tokens} → SpRestName bracket.Curly r a b → (n : ℕ) → after_brackets bracket.Curly a (suc n) ≡ after_brackets bracket.Curly b n
even-rest_curly (rest_name-none e) n = shuts _ _ n e
even-rest_curly (rest_name-some e f g) n = pass _ _ (suc n) e refl ∙ pass _ _ (suc n) (ap kind_of f) refl ∙ shuts _ _ n g

even-rest_square : {r : Option Units} {a b : Tokens} → SpRestName bracket.Square r a b → (n : ℕ) → after_brackets bracket.Curly a n ≡ after_brackets bracket.Curly b n
even-rest_square (rest_name-none e) n = pass _ _ n e refl
even-rest_square (rest_name-some e f g) n = pass _ _ n e refl ∙ pass _ _ n (ap kind_of f) refl ∙ pass _ _ n g refl

second_word : (t u : Token) (b : Tokens) → is_async_function (t ∷ u ∷ b) ≡ true → Is (kind.Word word.Function) u
unfolding is_async_function behind next
second_word t u b e = is.function_word (kind_of u.kind) (both_second (is_async (t ∷ u ∷ b)) (is_function_word (kind_of u.kind)) e)

first_kind : (t : Token) (ts : Tokens) → next (t ∷ ts) ≡ kind.Name → Is kind.Name t
unfolding next
first_kind t ts e = e

pub even-function_head : {f : Flow} {a b : Tokens} → SpFunctionHead f a b → (n : ℕ) → after_brackets bracket.Curly a n ≡ after_brackets bracket.Curly b n
even-function_head (head-plain e q) n = pass _ _ n e refl
even-function_head (head-generator e q) n = pass _ _ n e refl ∙ pass _ _ n q refl
even-function_head (head-async {t = t} {u = u} {b = b} e) n = pass _ _ n (first_kind t (u ∷ b) (first-async_function (t ∷ u ∷ b) e)) refl ∙ pass _ _ n (second_word t u b e) refl

-- ---- heads of methods

generator_by : (s y : Bool) → (if s then flow.Generator else (if y then flow.Async else flow.Plain)) ≡ flow.Generator → s ≡ true
generator_by true y e = refl
generator_by false true e = Prim.absurd (cc)
generator_by false false e = Prim.absurd (cc)

async_by : (s y : Bool) → (if s then flow.Generator else (if y then flow.Async else flow.Plain)) ≡ flow.Async → y ≡ true
async_by true y e = Prim.absurd (cc)
async_by false true e = refl
async_by false false e = Prim.absurd (cc)

a_star : (t : Token) (ts : Tokens) → method_flow (t ∷ ts) ≡ flow.Generator → Is (kind.Sign p.Star) t
unfolding method_flow next
a_star t ts e = is.star (kind_of t.kind) (generator_by (is_star (kind_of t.kind)) (is_async (t ∷ ts) && begins_key (next (behind (t ∷ ts)))) e)

an_async : (t : Token) (ts : Tokens) → method_flow (t ∷ ts) ≡ flow.Async → next (t ∷ ts) ≡ kind.Name
unfolding method_flow
an_async t ts e = first-async (t ∷ ts) (both_first _ _ (async_by (is_star (next (t ∷ ts))) (is_async (t ∷ ts) && begins_key (next (behind (t ∷ ts)))) e))

even-method_head : {f : Flow} {a b : Tokens} → SpMethodHead f a b → (n : ℕ) → after_brackets bracket.Curly a n ≡ after_brackets bracket.Curly b n
even-method_head (method_head-plain e) n = refl
even-method_head (method_head-generator {t = t} {b = b} e) n = pass _ _ n (a_star t b e) refl
even-method_head (method_head-async {t = t} {b = b} e) n = pass _ _ n (first_kind t b (an_async t b e)) refl

-- ---- the lines of the grammar

mutual
  pub even-target : {i0 : Target} {i1 : ℕ} {a b : Tokens} → SpTarget i0 i1 a b → (n : ℕ) → after_brackets bracket.Curly a n ≡ after_brackets bracket.Curly b n
  even-target (target-name p0) n = pass _ _ n (ap kind_of p0) refl
  even-target (target-object p0 p1 p2) n = opens _ _ n p0 ∙ even-props p1 (suc n) ∙ even-rest_curly p2 n
  even-target (target-object_rest p0 p1) n = opens _ _ n p0 ∙ even-rest_curly p1 n
  even-target (target-array p0 p1 p2) n = pass _ _ n p0 refl ∙ even-elems p1 n ∙ even-rest_square p2 n
  even-target (target-array_rest p0 p1) n = pass _ _ n p0 refl ∙ even-rest_square p1 n

  pub even-props : {i0 : List Prop} {i1 : ℕ} {a b : Tokens} → SpProps i0 i1 a b → (n : ℕ) → after_brackets bracket.Curly a n ≡ after_brackets bracket.Curly b n
  even-props props-none n = refl
  even-props (props-last p0 p1) n = even-prop p0 n
  even-props (props-more p0 p1 p2) n = even-prop p0 n ∙ pass _ _ n p1 refl ∙ even-props p2 n

  pub even-prop : {i0 : Prop} {i1 : ℕ} {a b : Tokens} → SpProp i0 i1 a b → (n : ℕ) → after_brackets bracket.Curly a n ≡ after_brackets bracket.Curly b n
  even-prop (prop-name p0 p1) n = pass _ _ n (ap kind_of p0) refl ∙ even-default p1 n
  even-prop (prop-pair p0 p1 p2) n = even-literal p0 n ∙ pass _ _ n p1 refl ∙ even-elem p2 n

  pub even-elems : {i0 : Bracket} {i1 : List Elem} {i2 : ℕ} {a b : Tokens} → SpElems i0 i1 i2 a b → (n : ℕ) → after_brackets bracket.Curly a n ≡ after_brackets bracket.Curly b n
  even-elems elems-none n = refl
  even-elems (elems-last p0 p1) n = even-elem p0 n
  even-elems (elems-more p0 p1 p2) n = even-elem p0 n ∙ pass _ _ n p1 refl ∙ even-elems p2 n

  pub even-elem : {i0 : Elem} {i1 : ℕ} {a b : Tokens} → SpElem i0 i1 a b → (n : ℕ) → after_brackets bracket.Curly a n ≡ after_brackets bracket.Curly b n
  even-elem (elem p0 p1) n = even-target p0 n ∙ even-default p1 n

  pub even-default : {i0 : Option Expr} {i1 : ℕ} {a b : Tokens} → SpDefault i0 i1 a b → (n : ℕ) → after_brackets bracket.Curly a n ≡ after_brackets bracket.Curly b n
  even-default default-none n = refl
  even-default (default-some p0 p1) n = pass _ _ n p0 refl ∙ even-assign p1 n

  pub even-params : {i0 : Params} {i1 : ℕ} {a b : Tokens} → SpParams i0 i1 a b → (n : ℕ) → after_brackets bracket.Curly a n ≡ after_brackets bracket.Curly b n
  even-params (params p0 p1 p2) n = pass _ _ n p0 refl ∙ even-elems p1 n ∙ even-rest_target p2 n

  pub even-rest_target : {i0 : Option Target} {i1 : ℕ} {a b : Tokens} → SpRestTarget i0 i1 a b → (n : ℕ) → after_brackets bracket.Curly a n ≡ after_brackets bracket.Curly b n
  even-rest_target (rest-none p0) n = pass _ _ n p0 refl
  even-rest_target (rest-some p0 p1 p2) n = pass _ _ n p0 refl ∙ even-target p1 n ∙ pass _ _ n p2 refl

  pub even-function : {i0 : Function} {i1 : ℕ} {a b : Tokens} → SpFunction i0 i1 a b → (n : ℕ) → after_brackets bracket.Curly a n ≡ after_brackets bracket.Curly b n
  even-function (function p0 p1 p2 p3) n = even-function_head p0 n ∙ even-name p1 n ∙ even-params p2 n ∙ even-unread p3 n

  pub even-method : {i0 : Method} {i1 : ℕ} {a b : Tokens} → SpMethod i0 i1 a b → (n : ℕ) → after_brackets bracket.Curly a n ≡ after_brackets bracket.Curly b n
  even-method (method p0 p1 p2 p3) n = even-method_head p0 n ∙ even-key p1 n ∙ even-params p2 n ∙ even-unread p3 n

  pub even-class : {i0 : Class} {i1 : ℕ} {a b : Tokens} → SpClass i0 i1 a b → (n : ℕ) → after_brackets bracket.Curly a n ≡ after_brackets bracket.Curly b n
  even-class (class-base p0 p1 p2 p3 p4) n = pass _ _ n p0 refl ∙ even-name p1 n ∙ opens _ _ n p2 ∙ even-members p3 (suc n) ∙ shuts _ _ n p4
  even-class (class-derived p0 p1 p2 p3 p4 p5 p6) n = pass _ _ n p0 refl ∙ even-name p1 n ∙ pass _ _ n p2 refl ∙ even-left p3 n ∙ opens _ _ n p4 ∙ even-members p5 (suc n) ∙ shuts _ _ n p6

  pub even-members : {i0 : List Member} {i1 : ℕ} {a b : Tokens} → SpMembers i0 i1 a b → (n : ℕ) → after_brackets bracket.Curly a n ≡ after_brackets bracket.Curly b n
  even-members members-none n = refl
  even-members (members-semicolon p0 p1) n = pass _ _ n p0 refl ∙ even-members p1 n
  even-members (members-more p0 p1) n = even-member p0 n ∙ even-members p1 n

  pub even-member : {i0 : Member} {i1 : ℕ} {a b : Tokens} → SpMember i0 i1 a b → (n : ℕ) → after_brackets bracket.Curly a n ≡ after_brackets bracket.Curly b n
  even-member (member-static p0 p1 p2) n = pass _ _ n (static_kind _ _ p0) refl ∙ even-method p1 n
  even-member (member-plain p0 p1 p2) n = even-method p1 n

  pub even-expr : {i0 : Expr} {i1 : ℕ} {a b : Tokens} → SpExpr i0 i1 a b → (n : ℕ) → after_brackets bracket.Curly a n ≡ after_brackets bracket.Curly b n
  even-expr (expr-one p0) n = even-assign p0 n
  even-expr (expr-comma p0 p1) n = even-assign p0 n ∙ even-commas p1 n

  pub even-commas : {i0 : List Expr} {i1 : ℕ} {a b : Tokens} → SpCommas i0 i1 a b → (n : ℕ) → after_brackets bracket.Curly a n ≡ after_brackets bracket.Curly b n
  even-commas commas-none n = refl
  even-commas (commas-more p0 p1 p2) n = pass _ _ n p0 refl ∙ even-assign p1 n ∙ even-commas p2 n

  pub even-assign : {i0 : Expr} {i1 : ℕ} {a b : Tokens} → SpAssign i0 i1 a b → (n : ℕ) → after_brackets bracket.Curly a n ≡ after_brackets bracket.Curly b n
  even-assign (assign-cond p0 p1) n = even-cond p1 n
  even-assign (assign-place p0 p1 p2 p3 p4) n = even-left p1 n ∙ pass _ _ n refl (assign_op_even _ n p3) ∙ even-assign p4 n
  even-assign (assign-yield p0 p1) n = pass _ _ n p0 refl
  even-assign (assign-yield_of p0 p1 p2) n = pass _ _ n p0 refl ∙ even-assign p2 n
  even-assign (assign-arrow p0 p1 p2 p3 p4 p5) n = even-arrow_head p1 n ∙ pass _ _ n p2 refl ∙ even-assign p5 n
  even-assign (assign-arrow_block p0 p1 p2 p3 p4) n = even-arrow_head p1 n ∙ pass _ _ n p2 refl ∙ even-unread p4 n

  pub even-arrow_head : {i0 : Bool} {i1 : Params} {i2 : ℕ} {a b : Tokens} → SpArrowHead i0 i1 i2 a b → (n : ℕ) → after_brackets bracket.Curly a n ≡ after_brackets bracket.Curly b n
  even-arrow_head (arrow_head-plain p0) n = even-arrow_params p0 n
  even-arrow_head (arrow_head-async p0 p1 p2) n = pass _ _ n (async_kind _ p0) refl ∙ even-arrow_params p2 n

  pub even-arrow_params : {i0 : Params} {i1 : ℕ} {a b : Tokens} → SpArrowParams i0 i1 a b → (n : ℕ) → after_brackets bracket.Curly a n ≡ after_brackets bracket.Curly b n
  even-arrow_params (arrow_params-name p0) n = pass _ _ n (ap kind_of p0) refl
  even-arrow_params (arrow_params-list p0) n = even-params p0 n

  pub even-cond : {i0 : Expr} {i1 : ℕ} {a b : Tokens} → SpCond i0 i1 a b → (n : ℕ) → after_brackets bracket.Curly a n ≡ after_brackets bracket.Curly b n
  even-cond (cond-one p0) n = even-short p0 n
  even-cond (cond-test p0 p1 p2 p3 p4) n = even-short p0 n ∙ pass _ _ n p1 refl ∙ even-assign p2 n ∙ pass _ _ n p3 refl ∙ even-assign p4 n

  pub even-short : {i0 : Expr} {i1 : ℕ} {a b : Tokens} → SpShort i0 i1 a b → (n : ℕ) → after_brackets bracket.Curly a n ≡ after_brackets bracket.Curly b n
  even-short (short-or p0) n = even-level p0 n
  even-short (short-coalesce p0 p1) n = even-level p0 n ∙ even-operands p1 n

  pub even-level : {i0 : ℕ} {i1 : Expr} {i2 : ℕ} {a b : Tokens} → SpLevel i0 i1 i2 a b → (n : ℕ) → after_brackets bracket.Curly a n ≡ after_brackets bracket.Curly b n
  even-level (level-unary p0) n = even-unary p0 n
  even-level (level-one p0) n = even-level p0 n
  even-level (level-chain p0 p1) n = even-level p0 n ∙ even-operands p1 n

  pub even-operands : {i0 : ℕ} {i1 : ℕ} {i2 : List Operand} {i3 : ℕ} {a b : Tokens} → SpOperands i0 i1 i2 i3 a b → (n : ℕ) → after_brackets bracket.Curly a n ≡ after_brackets bracket.Curly b n
  even-operands operands-none n = refl
  even-operands (operands-more p0 p1 p2 p3) n = pass _ _ n refl (binary_op_even _ n p0) ∙ even-level p2 n ∙ even-operands p3 n

  pub even-unary : {i0 : Expr} {i1 : ℕ} {a b : Tokens} → SpUnary i0 i1 a b → (n : ℕ) → after_brackets bracket.Curly a n ≡ after_brackets bracket.Curly b n
  even-unary (unary-op p0 p1) n = pass _ _ n refl (unary_op_even _ n p0) ∙ even-unary p1 n
  even-unary (unary-before p0 p1 p2) n = pass _ _ n refl (step_op_even _ n p0) ∙ even-left p1 n
  even-unary (unary-after p0 p1 p2 p3) n = even-left p0 n ∙ pass _ _ n refl (step_op_even _ n p2)
  even-unary (unary-left p0) n = even-left p0 n

  pub even-left : {i0 : Expr} {i1 : ℕ} {a b : Tokens} → SpLeft i0 i1 a b → (n : ℕ) → after_brackets bracket.Curly a n ≡ after_brackets bracket.Curly b n
  even-left (left-made p0) n = even-made p0 n
  even-left (left-suffixes p0 p1) n = even-made p0 n ∙ even-suffixes p1 n

  pub even-made : {i0 : Expr} {i1 : ℕ} {a b : Tokens} → SpMade i0 i1 a b → (n : ℕ) → after_brackets bracket.Curly a n ≡ after_brackets bracket.Curly b n
  even-made (made-primary p0) n = even-primary p0 n
  even-made (made-new p0 p1 p2 p3) n = pass _ _ n p0 refl ∙ even-made p1 n ∙ even-member_suffixes p2 n ∙ even-args p3 n
  even-made (made-new_bare p0 p1 p2 p3) n = pass _ _ n p0 refl ∙ even-made p1 n ∙ even-member_suffixes p2 n

  pub even-suffixes : {i0 : List Suffix} {i1 : ℕ} {a b : Tokens} → SpSuffixes i0 i1 a b → (n : ℕ) → after_brackets bracket.Curly a n ≡ after_brackets bracket.Curly b n
  even-suffixes suffixes-none n = refl
  even-suffixes (suffixes-more p0 p1) n = even-suffix p0 n ∙ even-suffixes p1 n

  pub even-member_suffixes : {i0 : List Suffix} {i1 : ℕ} {a b : Tokens} → SpMemberSuffixes i0 i1 a b → (n : ℕ) → after_brackets bracket.Curly a n ≡ after_brackets bracket.Curly b n
  even-member_suffixes member_suffixes-none n = refl
  even-member_suffixes (member_suffixes-more p0 p1) n = even-member_suffix p0 n ∙ even-member_suffixes p1 n

  pub even-suffix : {i0 : Suffix} {i1 : ℕ} {a b : Tokens} → SpSuffix i0 i1 a b → (n : ℕ) → after_brackets bracket.Curly a n ≡ after_brackets bracket.Curly b n
  even-suffix (suffix-member p0) n = even-member_suffix p0 n
  even-suffix (suffix-call p0) n = even-args p0 n
  even-suffix (suffix-optional_name p0 p1) n = pass _ _ n p0 refl ∙ even-word p1 n
  even-suffix (suffix-optional_index p0 p1) n = pass _ _ n p0 refl ∙ even-index p1 n
  even-suffix (suffix-optional_call p0 p1) n = pass _ _ n p0 refl ∙ even-args p1 n

  pub even-member_suffix : {i0 : Suffix} {i1 : ℕ} {a b : Tokens} → SpMemberSuffix i0 i1 a b → (n : ℕ) → after_brackets bracket.Curly a n ≡ after_brackets bracket.Curly b n
  even-member_suffix (member_suffix-name p0 p1) n = pass _ _ n p0 refl ∙ even-word p1 n
  even-member_suffix (member_suffix-index p0) n = even-index p0 n

  pub even-index : {i0 : Expr} {i1 : ℕ} {a b : Tokens} → SpIndex i0 i1 a b → (n : ℕ) → after_brackets bracket.Curly a n ≡ after_brackets bracket.Curly b n
  even-index (index p0 p1 p2) n = pass _ _ n p0 refl ∙ even-expr p1 n ∙ pass _ _ n p2 refl

  pub even-args : {i0 : List Argument} {i1 : ℕ} {a b : Tokens} → SpArgs i0 i1 a b → (n : ℕ) → after_brackets bracket.Curly a n ≡ after_brackets bracket.Curly b n
  even-args (args p0 p1 p2) n = pass _ _ n p0 refl ∙ even-arguments p1 n ∙ pass _ _ n p2 refl

  pub even-arguments : {i0 : Bracket} {i1 : List Argument} {i2 : ℕ} {a b : Tokens} → SpArguments i0 i1 i2 a b → (n : ℕ) → after_brackets bracket.Curly a n ≡ after_brackets bracket.Curly b n
  even-arguments arguments-none n = refl
  even-arguments (arguments-last p0 p1) n = even-argument p0 n
  even-arguments (arguments-more p0 p1 p2) n = even-argument p0 n ∙ pass _ _ n p1 refl ∙ even-arguments p2 n

  pub even-argument : {i0 : Argument} {i1 : ℕ} {a b : Tokens} → SpArgument i0 i1 a b → (n : ℕ) → after_brackets bracket.Curly a n ≡ after_brackets bracket.Curly b n
  even-argument (argument-one p0) n = even-assign p0 n
  even-argument (argument-spread p0 p1) n = pass _ _ n p0 refl ∙ even-assign p1 n

  pub even-primary : {i0 : Expr} {i1 : ℕ} {a b : Tokens} → SpPrimary i0 i1 a b → (n : ℕ) → after_brackets bracket.Curly a n ≡ after_brackets bracket.Curly b n
  even-primary (primary-name p0 p1) n = pass _ _ n (ap kind_of p0) refl
  even-primary (primary-number p0) n = pass _ _ n (ap kind_of p0) refl
  even-primary (primary-text p0) n = pass _ _ n (ap kind_of p0) refl
  even-primary (primary-true p0) n = pass _ _ n p0 refl
  even-primary (primary-false p0) n = pass _ _ n p0 refl
  even-primary (primary-null p0) n = pass _ _ n p0 refl
  even-primary (primary-this p0) n = pass _ _ n p0 refl
  even-primary (primary-template p0) n = pass _ _ n (ap kind_of p0) refl
  even-primary (primary-template_of p0 p1) n = opens_piece _ _ n p0 ∙ even-pieces p1 n
  even-primary (primary-brackets p0 p1 p2) n = pass _ _ n p0 refl ∙ even-expr p1 n ∙ pass _ _ n p2 refl
  even-primary (primary-array p0 p1 p2) n = pass _ _ n p0 refl ∙ even-arguments p1 n ∙ pass _ _ n p2 refl
  even-primary (primary-object p0 p1 p2) n = opens _ _ n p0 ∙ even-entries p1 (suc n) ∙ shuts _ _ n p2
  even-primary (primary-super_call p0 p1) n = pass _ _ n p0 refl ∙ even-args p1 n
  even-primary (primary-super_member p0 p1 p2) n = pass _ _ n p0 refl ∙ pass _ _ n p1 refl ∙ even-word p2 n
  even-primary (primary-function p0) n = even-function p0 n
  even-primary (primary-class p0) n = even-class p0 n

  pub even-pieces : {i0 : List Piece} {i1 : ℕ} {a b : Tokens} → SpPieces i0 i1 a b → (n : ℕ) → after_brackets bracket.Curly a (suc n) ≡ after_brackets bracket.Curly b n
  even-pieces (pieces-last p0 p1) n = even-expr p0 (suc n) ∙ shuts_piece _ _ n p1
  even-pieces (pieces-more p0 p1 p2) n = even-expr p0 (suc n) ∙ pass _ _ (suc n) (ap kind_of p1) refl ∙ even-pieces p2 n

  pub even-entries : {i0 : List Entry} {i1 : ℕ} {a b : Tokens} → SpEntries i0 i1 a b → (n : ℕ) → after_brackets bracket.Curly a n ≡ after_brackets bracket.Curly b n
  even-entries entries-none n = refl
  even-entries (entries-last p0 p1) n = even-entry p0 n
  even-entries (entries-more p0 p1 p2) n = even-entry p0 n ∙ pass _ _ n p1 refl ∙ even-entries p2 n

  pub even-entry : {i0 : Entry} {i1 : ℕ} {a b : Tokens} → SpEntry i0 i1 a b → (n : ℕ) → after_brackets bracket.Curly a n ≡ after_brackets bracket.Curly b n
  even-entry (entry-spread p0 p1) n = pass _ _ n p0 refl ∙ even-assign p1 n
  even-entry (entry-name p0 p1) n = pass _ _ n (ap kind_of p0) refl
  even-entry (entry-pair p0 p1 p2 p3 p4) n = even-key p2 n ∙ pass _ _ n p3 refl ∙ even-assign p4 n
  even-entry (entry-method p0 p1) n = even-method p1 n

  pub even-key : {i0 : Key} {i1 : ℕ} {a b : Tokens} → SpKey i0 i1 a b → (n : ℕ) → after_brackets bracket.Curly a n ≡ after_brackets bracket.Curly b n
  even-key (key-literal p0) n = even-literal p0 n
  even-key (key-computed p0 p1 p2) n = pass _ _ n p0 refl ∙ even-assign p1 n ∙ pass _ _ n p2 refl
