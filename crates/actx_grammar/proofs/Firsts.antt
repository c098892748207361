-- The token with which a spelling begins.
use Rattle.std.proofs.Common.{◌≡◌, ℕ, Bool, true, false, ◌&&◌, ◌||◌, if◌then◌else◌, [], ◌∷◌, Some, None, is_some, refl}
use Rattle.actx_lex.specs.declared.token.Token.{Token}
use Rattle.actx_lex.specs.declared.token.TokenKind.{TokenKind}
use Rattle.actx_lex.specs.declared.token.TokenKind.TheVariants as k
use Rattle.actx_lex.specs.declared.token.Punct.TheVariants as p
use Rattle.actx_text.specs.declared.units.Units.{Units}
use Rattle.actx_tree.specs.declared.operator.UnaryOp.{UnaryOp}
use Rattle.actx_tree.specs.declared.operator.StepOp.{StepOp}
use Rattle.actx_tree.specs.declared.function.Flow.{Flow}
use Rattle.actx_tree.specs.declared.function.Flow.TheVariants as flow
use Rattle.actx_tree.specs.declared.function.Function.{Function}
use Rattle.actx_tree.specs.declared.function.Method.{Method}
use Rattle.actx_tree.specs.declared.function.Member.{Member}
use Rattle.actx_tree.specs.declared.function.Class.{Class}
use Rattle.actx_tree.specs.declared.expr.Expr.{Expr}
use Rattle.actx_tree.specs.declared.expr.Key.{Key}
use Rattle.actx_tree.specs.declared.expr.Entry.{Entry}
use Rattle.actx_tree.specs.declared.expr.Argument.{Argument}
use Rattle.actx_tree.specs.declared.pattern.Target.{Target}
use Rattle.actx_tree.specs.declared.pattern.Prop.{Prop}
use Rattle.actx_tree.specs.declared.pattern.Elem.{Elem}
use Rattle.actx_tree.specs.declared.pattern.Params.{Params}
use Rattle.actx_grammar.specs.declared.kind.Kind.{Kind}
use Rattle.actx_grammar.specs.declared.kind.Kind.TheVariants as kind
use Rattle.actx_grammar.specs.declared.word.Word.TheVariants as word
use Rattle.actx_grammar.specs.declared.bracket.Bracket.{Bracket}
use Rattle.actx_grammar.specs.declared.bracket.Bracket.TheVariants as bracket
use Rattle.actx_grammar.specs.Kinds.{kind_of, closes, is_dots, is_name, is_star, is_semicolon, is_static_word, is_open_bracket, is_new_word, is_yield_word, unary_op, step_op, begins_primary, begins_left, begins_unary, begins_assign, begins_key}
use Rattle.actx_grammar.specs.Tokens.{Tokens, Is, next, behind, is_async, is_async_word, is_async_function, is_static, method_flow}
use Rattle.actx_grammar.specs.Patterns.{begins_pattern, ends_elems}
use Rattle.actx_grammar.specs.Grammar.{SpWord, word-name, word-reserved, SpLiteral, literal-word, literal-text, literal-number, SpFunctionHead, head-plain, head-generator, head-async, method_head-plain, method_head-generator, method_head-async, SpTarget, target-name, target-object, target-object_rest, target-array, target-array_rest, SpProp, prop-name, prop-pair, SpElem, elem, params, SpFunction, function, SpMethod, method, SpClass, class-base, class-derived, SpMember, member-static, member-plain, SpAssign, assign-cond, assign-place, assign-yield, assign-yield_of, assign-arrow, assign-arrow_block, SpArrowHead, arrow_head-plain, arrow_head-async, SpArrowParams, arrow_params-name, arrow_params-list, SpCond, cond-one, cond-test, SpShort, short-or, short-coalesce, SpLevel, level-unary, level-one, level-chain, SpUnary, unary-op, unary-before, unary-after, unary-left, SpLeft, left-made, left-suffixes, SpMade, made-primary, made-new, made-new_bare, SpArgument, argument-one, argument-spread, SpPrimary, primary-name, primary-number, primary-text, primary-true, primary-false, primary-null, primary-this, primary-template, primary-template_of, primary-brackets, primary-array, primary-object, primary-super_call, primary-super_member, primary-function, primary-class, SpEntry, entry-spread, entry-name, entry-pair, entry-method, SpKey, key-literal, key-computed}

-- ---- names

async_name : (sort : TokenKind) → is_async_word sort ≡ true → kind_of sort ≡ kind.Name
async_name (k.Name u) e = refl
async_name _ e = Prim.absurd (cc)

pub both_first : (a b : Bool) → (a && b) ≡ true → a ≡ true
both_first true b e = refl
both_first false b e = Prim.absurd (cc)

pub both_second : (a b : Bool) → (a && b) ≡ true → b ≡ true
both_second true b e = e
both_second false b e = Prim.absurd (cc)

pub first-async : (a : Tokens) → is_async a ≡ true → next a ≡ kind.Name
unfolding is_async next
first-async [] e = Prim.absurd (cc)
first-async (t ∷ ts) e = async_name t.kind (both_first _ _ e)

pub first-async_function : (a : Tokens) → is_async_function a ≡ true → next a ≡ kind.Name
unfolding is_async_function
first-async_function a e = first-async a (both_first _ _ e)

-- a token of another kind is not `async`
pub not_async_function : (t : Token) (ts : Tokens) → Is (kind.Word word.Function) t → is_async_function (t ∷ ts) ≡ false
unfolding next
not_async_function t ts e = go (is_async_function (t ∷ ts)) refl
  where
    go : (b : Bool) → is_async_function (t ∷ ts) ≡ b → b ≡ false
    go true q = let n = first-async_function (t ∷ ts) q in Prim.absurd (cc)
    go false q = refl

-- ---- expressions

first-function_head : {f : Flow} {a b : Tokens} → SpFunctionHead f a b → begins_primary (next a) ≡ true
unfolding next
first-function_head (head-plain e q) = rw e refl
first-function_head (head-generator e q) = rw e refl
first-function_head (head-async {t = t} {u = u} {b = b} e) = rw (first-async_function (t ∷ u ∷ b) e) refl

first-function : {x : Function} {h : ℕ} {a b : Tokens} → SpFunction x h a b → begins_primary (next a) ≡ true
first-function (function d n q r) = first-function_head d

first-class : {x : Class} {h : ℕ} {a b : Tokens} → SpClass x h a b → begins_primary (next a) ≡ true
unfolding next
first-class (class-base e n o d c) = rw e refl
first-class (class-derived e n s d o f c) = rw e refl

pub first-primary : {x : Expr} {h : ℕ} {a b : Tokens} → SpPrimary x h a b → begins_primary (next a) ≡ true
unfolding next
first-primary (primary-name e n) = rw e refl
first-primary (primary-number e) = rw e refl
first-primary (primary-text e) = rw e refl
first-primary (primary-true e) = rw e refl
first-primary (primary-false e) = rw e refl
first-primary (primary-null e) = rw e refl
first-primary (primary-this e) = rw e refl
first-primary (primary-template e) = rw e refl
first-primary (primary-template_of e d) = rw e refl
first-primary (primary-brackets e d c) = rw e refl
first-primary (primary-array e d c) = rw e refl
first-primary (primary-object e d c) = rw e refl
first-primary (primary-super_call e d) = rw e refl
first-primary (primary-super_member e o d) = rw e refl
first-primary (primary-function d) = first-function d
first-primary (primary-class d) = first-class d

wider_left : (sort : Kind) → begins_primary sort ≡ true → begins_left sort ≡ true
wider_left sort e = rw e refl

pub first-made : {x : Expr} {h : ℕ} {a b : Tokens} → SpMade x h a b → begins_left (next a) ≡ true
unfolding next
first-made (made-primary {a = a} d) = wider_left (next a) (first-primary d)
first-made (made-new e d s z) = rw e refl
first-made (made-new_bare e d s z) = rw e refl

pub first-left : {x : Expr} {h : ℕ} {a b : Tokens} → SpLeft x h a b → begins_left (next a) ≡ true
first-left (left-made d) = first-made d
first-left (left-suffixes d s) = first-made d

wider_unary : (sort : Kind) → begins_left sort ≡ true → begins_unary sort ≡ true
wider_unary sort e = rw e refl

by_unary : (sort : Kind) (op : UnaryOp) → unary_op sort ≡ Some op → (l : Bool) → begins_left sort ≡ l → begins_unary sort ≡ true
by_unary sort op e true q = rw q refl
by_unary sort op e false q = rw (q, e) refl

by_step : (sort : Kind) (op : StepOp) → step_op sort ≡ Some op → (l u : Bool) → begins_left sort ≡ l → is_some (unary_op sort) ≡ u → begins_unary sort ≡ true
by_step sort op e true u q r = rw q refl
by_step sort op e false true q r = rw (q, r) refl
by_step sort op e false false q r = rw (q, r, e) refl

pub first-unary : {x : Expr} {h : ℕ} {a b : Tokens} → SpUnary x h a b → begins_unary (next a) ≡ true
unfolding next
first-unary (unary-op {t = t} {op = op} e d) = by_unary (kind_of t.kind) op e (begins_left (kind_of t.kind)) refl
first-unary (unary-before {t = t} {op = op} e d q) = by_step (kind_of t.kind) op e (begins_left (kind_of t.kind)) (is_some (unary_op (kind_of t.kind))) refl refl
first-unary (unary-after {a = a} d q e f) = wider_unary (next a) (first-left d)
first-unary (unary-left {a = a} d) = wider_unary (next a) (first-left d)

pub first-level : {l : ℕ} {x : Expr} {h : ℕ} {a b : Tokens} → SpLevel l x h a b → begins_unary (next a) ≡ true
first-level (level-unary d) = first-unary d
first-level (level-one d) = first-level d
first-level (level-chain d s) = first-level d

first-short : {x : Expr} {h : ℕ} {a b : Tokens} → SpShort x h a b → begins_unary (next a) ≡ true
first-short (short-or d) = first-level d
first-short (short-coalesce d s) = first-level d

pub first-cond : {x : Expr} {h : ℕ} {a b : Tokens} → SpCond x h a b → begins_unary (next a) ≡ true
first-cond (cond-one d) = first-short d
first-cond (cond-test d q y c z) = first-short d

wider_assign : (sort : Kind) → begins_unary sort ≡ true → begins_assign sort ≡ true
wider_assign sort e = rw e refl

first-arrow_params : {x : Params} {h : ℕ} {a b : Tokens} → SpArrowParams x h a b → begins_assign (next a) ≡ true
unfolding next
first-arrow_params (arrow_params-name e) = rw e refl
first-arrow_params (arrow_params-list (params e d r)) = rw e refl

first-arrow_head : {s : Bool} {x : Params} {h : ℕ} {a b : Tokens} → SpArrowHead s x h a b → begins_assign (next a) ≡ true
unfolding next
first-arrow_head (arrow_head-plain d) = first-arrow_params d
first-arrow_head (arrow_head-async {t = t} e l d) = rw (async_name t.kind e) refl

pub first-assign : {x : Expr} {h : ℕ} {a b : Tokens} → SpAssign x h a b → begins_assign (next a) ≡ true
unfolding next
first-assign (assign-cond {a = a} n d) = wider_assign (next a) (first-cond d)
first-assign (assign-place {a = a} n d q e f) = wider_assign (next a) (wider_unary (next a) (first-left d))
first-assign (assign-yield e q) = rw e refl
first-assign (assign-yield_of e q d) = rw e refl
first-assign (assign-arrow n d e f b y) = first-arrow_head d
first-assign (assign-arrow_block n d e f r) = first-arrow_head d

-- ---- what such a token is not

pub not_new : (sort : Kind) → begins_primary sort ≡ true → is_new_word sort ≡ false
not_new (kind.Word word.New) e = Prim.absurd (cc)
not_new _ e = refl

pub no_unary : (sort : Kind) → begins_left sort ≡ true → unary_op sort ≡ None
no_unary (kind.Sign p.Not) e = Prim.absurd (cc)
no_unary (kind.Sign p.Minus) e = Prim.absurd (cc)
no_unary (kind.Sign p.Plus) e = Prim.absurd (cc)
no_unary (kind.Word word.Typeof) e = Prim.absurd (cc)
no_unary (kind.Word word.Void) e = Prim.absurd (cc)
no_unary (kind.Word word.Delete) e = Prim.absurd (cc)
no_unary (kind.Word word.Await) e = Prim.absurd (cc)
no_unary _ e = refl

pub no_step_before : (sort : Kind) → begins_left sort ≡ true → step_op sort ≡ None
no_step_before (kind.Sign p.PlusPlus) e = Prim.absurd (cc)
no_step_before (kind.Sign p.MinusMinus) e = Prim.absurd (cc)
no_step_before _ e = refl

pub step_no_unary : (sort : Kind) (op : StepOp) → step_op sort ≡ Some op → unary_op sort ≡ None
step_no_unary (kind.Sign p.PlusPlus) op e = refl
step_no_unary (kind.Sign p.MinusMinus) op e = refl
step_no_unary _ op e = Prim.absurd (cc)

pub not_yield : (sort : Kind) → begins_unary sort ≡ true → is_yield_word sort ≡ false
not_yield (kind.Word word.Yield) e = Prim.absurd (cc)
not_yield _ e = refl

pub not_dots : (sort : Kind) → begins_assign sort ≡ true → is_dots sort ≡ false
not_dots (kind.Sign p.Ellipsis) e = Prim.absurd (cc)
not_dots _ e = refl

assign_not_end : (c : Bracket) (sort : Kind) → begins_assign sort ≡ true → closes c sort ≡ false
assign_not_end bracket.Round (kind.Sign p.CloseParenthesis) e = Prim.absurd (cc)
assign_not_end bracket.Square (kind.Sign p.CloseBracket) e = Prim.absurd (cc)
assign_not_end bracket.Curly (kind.Sign p.CloseBrace) e = Prim.absurd (cc)
assign_not_end bracket.Round _ e = refl
assign_not_end bracket.Square _ e = refl
assign_not_end bracket.Curly _ e = refl

dots_not_end : (c : Bracket) → closes c (kind.Sign p.Ellipsis) ≡ false
dots_not_end bracket.Round = refl
dots_not_end bracket.Square = refl
dots_not_end bracket.Curly = refl

pub first-argument : (c : Bracket) {x : Argument} {h : ℕ} {a b : Tokens} → SpArgument x h a b → closes c (next a) ≡ false
unfolding next
first-argument c (argument-one {a = a} d) = assign_not_end c (next a) (first-assign d)
first-argument c (argument-spread e d) = rw e (dots_not_end c)

-- ---- keys, methods, entries

pub first-word : {u : Units} {a b : Tokens} → SpWord u a b → begins_key (next a) ≡ true
unfolding next
first-word (word-name e) = rw e refl
first-word (word-reserved e) = rw e refl

pub first-literal : {w : Key} {a b : Tokens} → SpLiteral w a b → begins_key (next a) ≡ true
unfolding next
first-literal (literal-word d) = first-word d
first-literal (literal-text e) = rw e refl
first-literal (literal-number e) = rw e refl

pub first-key : {w : Key} {h : ℕ} {a b : Tokens} → SpKey w h a b → begins_key (next a) ≡ true
unfolding next
first-key (key-literal d) = first-literal d
first-key (key-computed e d c) = rw e refl

abbrev pub begins_method : Kind → Bool
begins_method sort = begins_key sort || is_star sort

generator_by : (s y : Bool) → (if s then flow.Generator else (if y then flow.Async else flow.Plain)) ≡ flow.Generator → s ≡ true
generator_by true y e = refl
generator_by false true e = Prim.absurd (cc)
generator_by false false e = Prim.absurd (cc)

async_by : (s y : Bool) → (if s then flow.Generator else (if y then flow.Async else flow.Plain)) ≡ flow.Async → y ≡ true
async_by true y e = Prim.absurd (cc)
async_by false true e = refl
async_by false false e = Prim.absurd (cc)

flow_star : (a : Tokens) → method_flow a ≡ flow.Generator → is_star (next a) ≡ true
unfolding method_flow
flow_star a e = generator_by (is_star (next a)) (is_async a && begins_key (next (behind a))) e

flow_async : (a : Tokens) → method_flow a ≡ flow.Async → next a ≡ kind.Name
unfolding method_flow
flow_async a e = first-async a (both_first _ _ (async_by (is_star (next a)) (is_async a && begins_key (next (behind a))) e))

wider_method : (sort : Kind) → begins_key sort ≡ true → begins_method sort ≡ true
wider_method sort e = rw e refl

star_method : (sort : Kind) → is_star sort ≡ true → begins_method sort ≡ true
star_method (kind.Sign p.Star) e = refl
star_method _ e = Prim.absurd (cc)

pub first-method : {x : Method} {h : ℕ} {a b : Tokens} → SpMethod x h a b → begins_method (next a) ≡ true
first-method (method (method_head-plain {b = m} e) w q r) = wider_method (next m) (first-key w)
first-method (method (method_head-generator {t = t} {b = m} e) w q r) = star_method (next (t ∷ m)) (flow_star (t ∷ m) e)
first-method (method (method_head-async {t = t} {b = m} e) w q r) = rw (flow_async (t ∷ m) e) refl

method_not_end : (sort : Kind) → begins_method sort ≡ true → closes bracket.Curly sort ≡ false
method_not_end (kind.Sign p.CloseBrace) e = Prim.absurd (cc)
method_not_end _ e = refl

method_not_semicolon : (sort : Kind) → begins_method sort ≡ true → is_semicolon sort ≡ false
method_not_semicolon (kind.Sign p.Semicolon) e = Prim.absurd (cc)
method_not_semicolon _ e = refl

static_first : (a : Tokens) → is_static a ≡ true → begins_method (next a) ≡ true
unfolding is_static
static_first a e = go (next a) (both_first _ _ e)
  where
    go : (sort : Kind) → is_static_word sort ≡ true → begins_method sort ≡ true
    go (kind.Word word.Static) q = refl
    go _ q = Prim.absurd (cc)

first-member : {x : Member} {h : ℕ} {a b : Tokens} → SpMember x h a b → begins_method (next a) ≡ true
first-member (member-static {t = t} {a = a} e d w) = static_first (t ∷ a) e
first-member (member-plain e d w) = first-method d

pub member_not_end : {x : Member} {h : ℕ} {a b : Tokens} → SpMember x h a b → closes bracket.Curly (next a) ≡ false
member_not_end {a = a} d = method_not_end (next a) (first-member d)

pub member_not_semicolon : {x : Member} {h : ℕ} {a b : Tokens} → SpMember x h a b → is_semicolon (next a) ≡ false
member_not_semicolon {a = a} d = method_not_semicolon (next a) (first-member d)

key_not_dots : (sort : Kind) → begins_method sort ≡ true → is_dots sort ≡ false
key_not_dots (kind.Sign p.Ellipsis) e = Prim.absurd (cc)
key_not_dots _ e = refl

-- an entry that is no spread
pub method_not_dots : {x : Method} {h : ℕ} {a b : Tokens} → SpMethod x h a b → is_dots (next a) ≡ false
method_not_dots {a = a} d = key_not_dots (next a) (first-method d)

pub key_no_dots : {w : Key} {h : ℕ} {a b : Tokens} → SpKey w h a b → is_dots (next a) ≡ false
key_no_dots {a = a} d = key_not_dots (next a) (wider_method (next a) (first-key d))

pub first-entry : {x : Entry} {h : ℕ} {a b : Tokens} → SpEntry x h a b → closes bracket.Curly (next a) ≡ false
unfolding next
first-entry (entry-spread e d) = rw e refl
first-entry (entry-name e q) = rw e refl
first-entry (entry-pair {a = a} s f w e d) = method_not_end (next a) (wider_method (next a) (first-key w))
first-entry (entry-method {a = a} s d) = method_not_end (next a) (first-method d)

-- ---- patterns

abbrev pub begins_target : Kind → Bool
begins_target sort = is_name sort || begins_pattern sort

pub first-target : {x : Target} {h : ℕ} {a b : Tokens} → SpTarget x h a b → begins_target (next a) ≡ true
unfolding next
first-target (target-name e) = rw e refl
first-target (target-object e d r) = rw e refl
first-target (target-object_rest e r) = rw e refl
first-target (target-array e d r) = rw e refl
first-target (target-array_rest e r) = rw e refl

target_not_end : (c : Bracket) (sort : Kind) → begins_target sort ≡ true → ends_elems c sort ≡ false
target_not_end bracket.Round (kind.Sign p.CloseParenthesis) e = Prim.absurd (cc)
target_not_end bracket.Round (kind.Sign p.Ellipsis) e = Prim.absurd (cc)
target_not_end bracket.Square (kind.Sign p.CloseBracket) e = Prim.absurd (cc)
target_not_end bracket.Square (kind.Sign p.Ellipsis) e = Prim.absurd (cc)
target_not_end bracket.Curly (kind.Sign p.CloseBrace) e = Prim.absurd (cc)
target_not_end bracket.Curly (kind.Sign p.Ellipsis) e = Prim.absurd (cc)
target_not_end bracket.Round _ e = refl
target_not_end bracket.Square _ e = refl
target_not_end bracket.Curly _ e = refl

pub first-elem : (c : Bracket) {x : Elem} {h : ℕ} {a b : Tokens} → SpElem x h a b → ends_elems c (next a) ≡ false
first-elem c (elem {a = a} d e) = target_not_end c (next a) (first-target d)

literal_not_end : (sort : Kind) → begins_key sort ≡ true → ends_elems bracket.Curly sort ≡ false
literal_not_end (kind.Sign p.CloseBrace) e = Prim.absurd (cc)
literal_not_end (kind.Sign p.Ellipsis) e = Prim.absurd (cc)
literal_not_end _ e = refl

pub first-prop : {x : Prop} {h : ℕ} {a b : Tokens} → SpProp x h a b → ends_elems bracket.Curly (next a) ≡ false
unfolding next
first-prop (prop-name e d) = rw e refl
first-prop (prop-pair {a = a} w e d) = literal_not_end (next a) (first-literal w)

-- what is left behind a literal key, and behind a key that is a name
pub behind-literal : {w : Key} {a b : Tokens} → SpLiteral w a b → behind a ≡ b
unfolding behind
behind-literal (literal-word (word-name e)) = refl
behind-literal (literal-word (word-reserved e)) = refl
behind-literal (literal-text e) = refl
behind-literal (literal-number e) = refl

pub literal_no_bracket : {w : Key} {a b : Tokens} → SpLiteral w a b → is_open_bracket (next a) ≡ false
unfolding next
literal_no_bracket (literal-word (word-name e)) = rw e refl
literal_no_bracket (literal-word (word-reserved e)) = rw e refl
literal_no_bracket (literal-text e) = rw e refl
literal_no_bracket (literal-number e) = rw e refl
