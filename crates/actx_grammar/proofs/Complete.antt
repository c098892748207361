-- What is spelled is read, or has too many levels.
use Rattle.std.proofs.Common.{◌≡◌, ℕ, zero, suc, ◌<◌, Err, refl, ap, arith}
use Rattle.actx_tree.specs.declared.expr.Expr.{Expr}
use Rattle.actx_tree.specs.declared.function.Function.{Function}
use Rattle.actx_tree.specs.declared.function.Class.{Class}
use Rattle.actx_tree.specs.declared.pattern.Target.{Target}
use Rattle.actx_grammar.specs.declared.error.Cause.TheVariants.{TooNested}
use Rattle.actx_grammar.specs.Kinds.{is_name}
use Rattle.actx_grammar.specs.Tokens.{Tokens}
use Rattle.actx_grammar.specs.Patterns.{target_by, begins_pattern}
use Rattle.actx_grammar.specs.Lines.{below, line_of, sunk}
use Rattle.actx_grammar.specs.Grammar.{SpTarget, target-name, target-object, target-object_rest, target-array, target-array_rest, SpFunction, function, SpClass, class-base, class-derived, SpExpr, expr-one, expr-comma, SpAssign, assign-cond, assign-place, assign-yield, assign-yield_of, assign-arrow, assign-arrow_block, SpCond, cond-one, cond-test, SpShort, short-or, short-coalesce, SpLevel, level-unary, level-one, level-chain, SpUnary, unary-op, unary-before, unary-after, unary-left, SpLeft, left-made, left-suffixes, SpMade, made-primary, made-new, made-new_bare, SpPrimary, primary-name, primary-number, primary-text, primary-true, primary-false, primary-null, primary-this, primary-template, primary-template_of, primary-brackets, primary-array, primary-object, primary-super_call, primary-super_member, primary-function, primary-class}
use Rattle.actx_grammar.proofs.Gets.{Gets, deep, yes, no, take, done, next_of}
use Rattle.actx_grammar.proofs.Parts.{name_is, is_name_of}
use Rattle.actx_grammar.proofs.Completes.{Completes}
use Rattle.actx_grammar.proofs.GetPatterns.{get-target}
use Rattle.actx_grammar.proofs.GetLefts.{get-left, get-made}
use Rattle.actx_grammar.proofs.GetExprs.{get-unary, get-level, get-assign, get-expr}

-- ---- an expression has a level

some-function : {x : Function} {h : ℕ} {a b : Tokens} → SpFunction x h a b → 0 < h
some-function (function f n q u) = omega arith

some-class : {x : Class} {h : ℕ} {a b : Tokens} → SpClass x h a b → 0 < h
some-class (class-base e n o d c) = omega arith
some-class (class-derived e n s d o f c) = omega arith

some-primary : {x : Expr} {h : ℕ} {a b : Tokens} → SpPrimary x h a b → 0 < h
some-primary (primary-name e q) = omega arith
some-primary (primary-number e) = omega arith
some-primary (primary-text e) = omega arith
some-primary (primary-true e) = omega arith
some-primary (primary-false e) = omega arith
some-primary (primary-null e) = omega arith
some-primary (primary-this e) = omega arith
some-primary (primary-template e) = omega arith
some-primary (primary-template_of e d) = omega arith
some-primary (primary-brackets e d c) = omega arith
some-primary (primary-array e d c) = omega arith
some-primary (primary-object e d c) = omega arith
some-primary (primary-super_call e d) = omega arith
some-primary (primary-super_member e o d) = omega arith
some-primary (primary-function d) = some-function d
some-primary (primary-class d) = some-class d

some-made : {x : Expr} {h : ℕ} {a b : Tokens} → SpMade x h a b → 0 < h
some-made (made-primary d) = some-primary d
some-made (made-new e d s z) = omega arith
some-made (made-new_bare e d s z) = omega arith

some-left : {x : Expr} {h : ℕ} {a b : Tokens} → SpLeft x h a b → 0 < h
some-left (left-made d) = some-made d
some-left (left-suffixes d q) = omega arith

some-unary : {x : Expr} {h : ℕ} {a b : Tokens} → SpUnary x h a b → 0 < h
some-unary (unary-op e d) = omega arith
some-unary (unary-before e d q) = omega arith
some-unary (unary-after d q e f) = omega arith
some-unary (unary-left d) = some-left d

some-level : {l : ℕ} {x : Expr} {h : ℕ} {a b : Tokens} → SpLevel l x h a b → 0 < h
some-level (level-unary d) = some-unary d
some-level (level-one d) = some-level d
some-level (level-chain d q) = omega arith

some-short : {x : Expr} {h : ℕ} {a b : Tokens} → SpShort x h a b → 0 < h
some-short (short-or d) = some-level d
some-short (short-coalesce d q) = omega arith

some-cond : {x : Expr} {h : ℕ} {a b : Tokens} → SpCond x h a b → 0 < h
some-cond (cond-one d) = some-short d
some-cond (cond-test d q y c z) = omega arith

some-assign : {x : Expr} {h : ℕ} {a b : Tokens} → SpAssign x h a b → 0 < h
some-assign (assign-cond n d) = some-cond d
some-assign (assign-place n d q e y) = omega arith
some-assign (assign-yield e q) = omega arith
some-assign (assign-yield_of e q d) = omega arith
some-assign (assign-arrow n d e f o y) = omega arith
some-assign (assign-arrow_block n d e f u) = omega arith

some-expr : {x : Expr} {h : ℕ} {a b : Tokens} → SpExpr x h a b → 0 < h
some-expr (expr-one d) = some-assign d
some-expr (expr-comma d q) = omega arith

-- ---- the knot

sunk_gets : {A : Type 0} (v : A) (b : Tokens) {h : ℕ} → 0 < h → Gets 0 h (Err TooNested) v b
sunk_gets v b l = deep l refl

flat_target : {x : Target} {h : ℕ} {a b : Tokens} → SpTarget x h a b → Gets 0 h (target_by sunk a) (x, h) b
unfolding target_by
flat_target (target-name {t = t} {b = b} e) = yes _ _ (is_name_of t b e) (take _ _ (name_is t b e) (done _ _))
flat_target (target-object {t = t} {a = a} e d q) = no _ _ (ap is_name (next_of t a e)) (yes _ _ (ap begins_pattern (next_of t a e)) (sunk_gets _ _ (omega arith)))
flat_target (target-object_rest {t = t} {a = a} e q) = no _ _ (ap is_name (next_of t a e)) (yes _ _ (ap begins_pattern (next_of t a e)) (sunk_gets _ _ (omega arith)))
flat_target (target-array {t = t} {a = a} e d q) = no _ _ (ap is_name (next_of t a e)) (yes _ _ (ap begins_pattern (next_of t a e)) (sunk_gets _ _ (omega arith)))
flat_target (target-array_rest {t = t} {a = a} e q) = no _ _ (ap is_name (next_of t a e)) (yes _ _ (ap begins_pattern (next_of t a e)) (sunk_gets _ _ (omega arith)))

pub completes : (n : ℕ) → Completes (below n)
unfolding below line_of
completes zero = record {
  expr = λ d l. sunk_gets _ _ (some-expr d);
  assign = λ d l. sunk_gets _ _ (some-assign d);
  unary = λ d l. sunk_gets _ _ (some-unary d);
  level = λ k d l. sunk_gets _ _ (some-level d);
  left = λ d l. sunk_gets _ _ (some-left d);
  made = λ d. sunk_gets _ _ (some-made d);
  target = λ d. flat_target d;
}
completes (suc n) = record {
  expr = λ d l. get-expr (below n) (completes n) d l;
  assign = λ d l. get-assign (below n) (completes n) d l;
  unary = λ d l. get-unary (below n) (completes n) d l;
  level = λ k d l. get-level (below n) (completes n) d l;
  left = λ d l. get-left (below n) (completes n) d l;
  made = λ d. get-made (below n) (completes n) d;
  target = λ d. get-target (below n) (completes n) d;
}

pub room_is : (n : ℕ) → (below n).room ≡ n
unfolding below
room_is zero = refl
room_is (suc n) = ap suc (room_is n)
