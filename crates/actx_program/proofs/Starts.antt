-- The token with which a statement begins, and where an End is.
use Rattle.std.proofs.Common.{◌≡◌, ◌∙◌, ℕ, ◌<◌, Bool, true, false, not, ◌&&◌, ◌||◌, List, ◌∷◌, Ok, refl, sym, ap, arith}
use Rattle.actx_lex.specs.declared.token.Token.{Token}
use Rattle.actx_lex.specs.declared.token.Punct.TheVariants as p
use Rattle.actx_tree.specs.declared.expr.Expr.{Expr}
use Rattle.actx_tree.specs.declared.function.Function.{Function}
use Rattle.actx_tree.specs.declared.function.Class.{Class}
use Rattle.actx_tree.specs.declared.function.Flow.{Flow}
use Rattle.actx_tree.specs.declared.stmt.Stmt.{Stmt}
use Rattle.actx_grammar.specs.declared.kind.Kind.{Kind}
use Rattle.actx_grammar.specs.declared.kind.Kind.TheVariants as kind
use Rattle.actx_grammar.specs.declared.word.Word.TheVariants as word
use Rattle.actx_grammar.specs.Kinds.{is_semicolon, is_name, is_open_brace, is_function_word, is_class_word, goes_on_line, ends_always, begins_assign}
use Rattle.actx_grammar.specs.Tokens.{Tokens, Is, next, behind, is_on_line, has_operand, is_async_function, ends_expression}
use Rattle.actx_grammar.specs.Grammar.{SpExpr, expr-one, expr-comma, SpFunction, function, SpFunctionHead, head-plain, head-generator, head-async, SpClass, class-base, class-derived}
use Rattle.actx_grammar.proofs.Following.{after, after_is, after_end}
use Rattle.actx_grammar.proofs.Firsts.{first-assign, first-async_function}
use Rattle.actx_grammar.proofs.Gets.{next_of}
use Rattle.actx_program.specs.Ends.{SpEnd, end-semicolon, end-nothing, ends_items, may_end, let_word, begins_function, begins_other}
use Rattle.actx_program.specs.Statements.{let_binds, SpBlock, block, SpStmt, stmt-block, stmt-empty, stmt-if, stmt-while, stmt-do, stmt-for, stmt-for_of, stmt-return, stmt-return_of, stmt-throw, stmt-break, stmt-continue, stmt-try, stmt-expr, SpItem, item-let, item-function, item-class, item-stmt}
use Rattle.actx_program.specs.StatementReader.{end, goes_on_items}

-- ---- ends

end_no_semicolon : (sort : Kind) (line : Bool) → (ends_items sort || (not line && not (goes_on_line sort))) ≡ true → is_semicolon sort ≡ false
end_no_semicolon (kind.Sign p.Semicolon) true e = Prim.absurd (cc)
end_no_semicolon (kind.Sign p.Semicolon) false e = Prim.absurd (cc)
end_no_semicolon _ line e = refl

pub no_semicolon : (b : Tokens) → may_end b ≡ true → is_semicolon (next b) ≡ false
unfolding may_end
no_semicolon b e = end_no_semicolon (next b) (is_on_line b) e

pub end_is : {a b : Tokens} → SpEnd a b → end a ≡ Ok (tt, b)
unfolding end behind
end_is (end-semicolon {t = t} {b = b} e) = rw (next_of t b e) refl
end_is (end-nothing {b = b} q) = rw (no_semicolon b q, q) refl

or_second : (a b : Bool) → b ≡ true → (a || b) ≡ true
or_second true b e = refl
or_second false b e = e

ends_more : (sort : Kind) (c : Bool) → (ends_items sort || c) ≡ true → (ends_always sort || c) ≡ true
ends_more kind.End c e = refl
ends_more (kind.Sign p.CloseBrace) c e = refl
ends_more sort c e = or_second (ends_always sort) c e

pub may_end_expression : (b : Tokens) → may_end b ≡ true → ends_expression b ≡ true
unfolding may_end ends_expression
may_end_expression b e = ends_more (next b) (not (is_on_line b) && not (goes_on_line (next b))) e

pub end_after : {a b : Tokens} → SpEnd a b → 12 < after a
end_after (end-semicolon {t = t} {b = b} e) = rw (after_is t b e) (omega arith)
end_after (end-nothing {b = b} q) = let z = after_end b (may_end_expression b q) in omega arith

and_false : (a : Bool) → (a && false) ≡ false
and_false true = refl
and_false false = refl

end_no_operand : (sort : Kind) (line : Bool) → (ends_items sort || (not line && not (goes_on_line sort))) ≡ true → (begins_assign sort && line) ≡ false
end_no_operand kind.End line e = refl
end_no_operand (kind.Sign p.CloseBrace) line e = refl
end_no_operand sort false e = and_false (begins_assign sort)
end_no_operand _ true e = Prim.absurd (cc)

-- nothing that begins an expression stands on the line before an End
pub no_operand : {a b : Tokens} → SpEnd a b → has_operand a ≡ false
unfolding has_operand may_end
no_operand (end-semicolon {t = t} {b = b} e) = rw (next_of t b e) refl
no_operand (end-nothing {b = b} q) = end_no_operand (next b) (is_on_line b) q

-- ---- what an expression, a function, a class begins with

pub first-expr : {x : Expr} {h : ℕ} {a b : Tokens} → SpExpr x h a b → begins_assign (next a) ≡ true
first-expr (expr-one d) = first-assign d
first-expr (expr-comma d q) = first-assign d

pub first-class : {x : Class} {h : ℕ} {a b : Tokens} → SpClass x h a b → next a ≡ kind.Word word.Class
first-class (class-base {t = t} {a = a} e n o d c) = next_of t a e
first-class (class-derived {t = t} {a = a} e n s d o f c) = next_of t a e

-- the words that begin a declaration, but `function`
abbrev pub declares : Kind → Bool
declares (kind.Word word.Let) = true
declares (kind.Word word.Const) = true
declares (kind.Word word.Class) = true
declares _ = false

-- an Item begins there: a function or a statement, and which of both
pub record Begun (is_function : Bool) (a : Tokens) : Type 0 where
  pub plain : declares (next a) ≡ false
  pub which : begins_function a ≡ is_function
  pub more : ends_items (next a) ≡ false

-- a token of another kind is not `async`
pub no_async : (a : Tokens) {sort : Kind} → next a ≡ sort → is_name sort ≡ false → is_async_function a ≡ false
no_async a {sort = sort} e n = go (is_async_function a) refl
  where
    go : (c : Bool) → is_async_function a ≡ c → c ≡ false
    go true q = let f = first-async_function a q in let z : is_name sort ≡ true = ap is_name (sym e ∙ f) in Prim.absurd (cc)
    go false q = refl

-- a word or a sign that begins no declaration
told : (t : Token) (ts : Tokens) {sort : Kind} → Is sort t → declares sort ≡ false → is_function_word sort ≡ false → is_name sort ≡ false → ends_items sort ≡ false → Begun false (t ∷ ts)
unfolding begins_function
told t ts {sort = sort} e d f n m = record {
  plain = ap declares (next_of t ts e) ∙ d;
  which = rw (next_of t ts e, f, no_async (t ∷ ts) (next_of t ts e) n) refl;
  more = ap ends_items (next_of t ts e) ∙ m;
}

function_head : {f : Flow} {a b : Tokens} → SpFunctionHead f a b → Begun true a
unfolding begins_function
function_head (head-plain {t = t} {b = b} e q) = record { plain = ap declares (next_of t b e); which = rw (next_of t b e) refl; more = ap ends_items (next_of t b e) }
function_head (head-generator {t = t} {u = u} {b = b} e q) = record { plain = ap declares (next_of t (u ∷ b) e); which = rw (next_of t (u ∷ b) e) refl; more = ap ends_items (next_of t (u ∷ b) e) }
function_head (head-async {t = t} {u = u} {b = b} e) = let n = first-async_function (t ∷ u ∷ b) e in record { plain = ap declares n; which = rw (n, e) refl; more = ap ends_items n }

pub first-function : {x : Function} {h : ℕ} {a b : Tokens} → SpFunction x h a b → Begun true a
first-function (function d n q r) = function_head d

-- an expression begins no declaration but with `class`
assign_plain : (sort : Kind) → begins_assign sort ≡ true → is_class_word sort ≡ false → declares sort ≡ false
assign_plain (kind.Word word.Let) e q = Prim.absurd (cc)
assign_plain (kind.Word word.Const) e q = Prim.absurd (cc)
assign_plain (kind.Word word.Class) e q = Prim.absurd (cc)
assign_plain _ e q = refl

pub assign_goes : (sort : Kind) → begins_assign sort ≡ true → ends_items sort ≡ false
assign_goes kind.End e = Prim.absurd (cc)
assign_goes (kind.Sign p.CloseBrace) e = Prim.absurd (cc)
assign_goes _ e = refl

or_first_no : (a b : Bool) → (a || b) ≡ false → a ≡ false
or_first_no true b e = Prim.absurd (cc)
or_first_no false b e = refl

or_second_no : (a b : Bool) → (a || b) ≡ false → b ≡ false
or_second_no true b e = Prim.absurd (cc)
or_second_no false b e = e

pub other_brace : (a : Tokens) → begins_other a ≡ false → is_open_brace (next a) ≡ false
unfolding begins_other
other_brace a e = or_first_no (is_open_brace (next a)) _ e

other_class : (a : Tokens) → begins_other a ≡ false → is_class_word (next a) ≡ false
unfolding begins_other
other_class a e = or_first_no (is_class_word (next a)) _ (or_second_no (is_open_brace (next a)) _ e)

other_function : (a : Tokens) → begins_other a ≡ false → begins_function a ≡ false
unfolding begins_other
other_function a e = or_second_no (is_class_word (next a)) _ (or_second_no (is_open_brace (next a)) _ e)

-- ---- what a statement begins with

pub first-block : {xs : List Stmt} {h : ℕ} {a b : Tokens} → SpBlock xs h a b → next a ≡ kind.Sign p.OpenBrace
first-block (block {t = t} {a = a} e d c) = next_of t a e

block_begun : {xs : List Stmt} {h : ℕ} {a b : Tokens} → SpBlock xs h a b → Begun false a
block_begun (block {t = t} {a = a} e d c) = told t a e refl refl refl refl

pub first-stmt : {x : Stmt} {h : ℕ} {a b : Tokens} → SpStmt x h a b → Begun false a
first-stmt (stmt-block d) = block_begun d
first-stmt (stmt-empty e) = told _ _ e refl refl refl refl
first-stmt (stmt-if e d y z) = told _ _ e refl refl refl refl
first-stmt (stmt-while e d y) = told _ _ e refl refl refl refl
first-stmt (stmt-do e y w d q) = told _ _ e refl refl refl refl
first-stmt (stmt-for e o d c y f z g q) = told _ _ e refl refl refl refl
first-stmt (stmt-for_of e o w d f y c q) = told _ _ e refl refl refl refl
first-stmt (stmt-return e d) = told _ _ e refl refl refl refl
first-stmt (stmt-return_of e l d q) = told _ _ e refl refl refl refl
first-stmt (stmt-throw e l d q) = told _ _ e refl refl refl refl
first-stmt (stmt-break e d) = told _ _ e refl refl refl refl
first-stmt (stmt-continue e d) = told _ _ e refl refl refl refl
first-stmt (stmt-try e d c f q) = told _ _ e refl refl refl refl
first-stmt (stmt-expr {a = a} n d q) = record {
  plain = assign_plain (next a) (first-expr d) (other_class a n);
  which = other_function a n;
  more = assign_goes (next a) (first-expr d);
}

let_goes : (c : Bool) → ends_items (let_word c) ≡ false
let_goes true = refl
let_goes false = refl

goes : (a : Tokens) → ends_items (next a) ≡ false → goes_on_items a ≡ true
unfolding goes_on_items
goes a e = rw e refl

pub item_goes : {x : Stmt} {h : ℕ} {a b : Tokens} → SpItem x h a b → goes_on_items a ≡ true
item_goes (item-let (let_binds {c = c} {t = t} {a = a} e d q) n) = goes (t ∷ a) (ap ends_items (next_of t a e) ∙ let_goes c)
item_goes (item-function {a = a} d q) = goes a (first-function d).more
item_goes (item-class {a = a} d q) = goes a (ap ends_items (first-class d))
item_goes (item-stmt {a = a} d) = goes a (first-stmt d).more
