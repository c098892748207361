-- The size of a tree against the tokens that spell it: at most 16 for each token that stands in no body. A table over the
-- grammar; what has a node or a token of its own leaves 8 over.
use Rattle.std.proofs.Common.{◌≡◌, ℕ, suc, ◌+◌, ◌*◌, ◌≤◌, Bool, true, false, List, [], ◌∷◌, ◌++◌, length, map, Option, Some, None, ap, arith}
use Rattle.actx_text.specs.declared.units.Units.{Units}
use Rattle.actx_tree.specs.declared.expr.Expr.{Expr}
use Rattle.actx_tree.specs.declared.expr.Piece.{Piece}
use Rattle.actx_tree.specs.declared.expr.Argument.{Argument}
use Rattle.actx_tree.specs.declared.expr.Entry.{Entry}
use Rattle.actx_tree.specs.declared.expr.Key.{Key}
use Rattle.actx_tree.specs.declared.expr.Suffix.{Suffix}
use Rattle.actx_tree.specs.declared.expr.Operand.{Operand}
use Rattle.actx_tree.specs.declared.function.Unread.{Unread}
use Rattle.actx_tree.specs.declared.function.Function.{Function}
use Rattle.actx_tree.specs.declared.function.Method.{Method}
use Rattle.actx_tree.specs.declared.function.Class.{Class}
use Rattle.actx_tree.specs.declared.function.Member.{Member}
use Rattle.actx_tree.specs.declared.pattern.Target.{Target}
use Rattle.actx_tree.specs.declared.pattern.Prop.{Prop}
use Rattle.actx_tree.specs.declared.pattern.Elem.{Elem}
use Rattle.actx_tree.specs.declared.pattern.Params.{Params}
use Rattle.actx_grammar.specs.declared.bracket.Bracket.{Bracket}
use Rattle.actx_tree.specs.declared.pattern.Target.TheVariants as target
use Rattle.actx_tree.specs.declared.function.Nested.{Nested}
use Rattle.actx_tree.specs.Parts.{piece_of, operand_of, elem_of}
use Rattle.actx_tree.specs.Levels.{or_zero}
use Rattle.actx_tree.specs.Sizes.{total, rest_size, expr_size, piece_size, argument_size, entry_size, key_size, suffix_size, operand_size, function_size, method_size, class_size, member_size, target_size, prop_size, elem_size, params_size}
use Rattle.actx_tree.specs.Bodies.{all, or_none, body_at, expr_bodies, piece_bodies, argument_bodies, entry_bodies, key_bodies, suffix_bodies, operand_bodies, function_bodies, method_bodies, class_bodies, member_bodies, target_bodies, prop_bodies, elem_bodies, params_bodies, arguments_bodies}
use Rattle.actx_tree.proofs.SizeEquations as sized
use Rattle.actx_tree.proofs.BodyEquations as found
use Rattle.actx_grammar.specs.Tokens.{Tokens}
use Rattle.actx_grammar.specs.Weights.{weight}
use Rattle.actx_grammar.specs.declared.bracket.Bracket.TheVariants as bracket
use Rattle.actx_grammar.specs.Grammar.{SpLiteral, literal-word, literal-text, literal-number, SpRestName, rest_name-none, rest_name-some, SpUnread, unread, SpTarget, target-name, target-object, target-object_rest, target-array, target-array_rest, SpProps, props-none, props-last, props-more, SpProp, prop-name, prop-pair, SpElems, elems-none, elems-last, elems-more, SpElem, elem, SpDefault, default-none, default-some, SpParams, params, SpRestTarget, rest-none, rest-some, SpFunction, function, SpMethod, method, SpClass, class-base, class-derived, SpMembers, members-none, members-semicolon, members-more, SpMember, member-static, member-plain, SpExpr, expr-one, expr-comma, SpCommas, commas-none, commas-more, SpAssign, assign-cond, assign-place, assign-yield, assign-yield_of, assign-arrow, assign-arrow_block, SpArrowHead, arrow_head-plain, arrow_head-async, SpArrowParams, arrow_params-name, arrow_params-list, SpCond, cond-one, cond-test, SpShort, short-or, short-coalesce, SpLevel, level-unary, level-one, level-chain, SpOperands, operands-none, operands-more, SpUnary, unary-op, unary-before, unary-after, unary-left, SpLeft, left-made, left-suffixes, SpMade, made-primary, made-new, made-new_bare, SpSuffixes, suffixes-none, suffixes-more, SpMemberSuffixes, member_suffixes-none, member_suffixes-more, SpSuffix, suffix-member, suffix-call, suffix-optional_name, suffix-optional_index, suffix-optional_call, SpMemberSuffix, member_suffix-name, member_suffix-index, SpIndex, index, SpArgs, args, SpArguments, arguments-none, arguments-last, arguments-more, SpArgument, argument-one, argument-spread, SpPrimary, primary-name, primary-number, primary-text, primary-true, primary-false, primary-null, primary-this, primary-template, primary-template_of, primary-brackets, primary-array, primary-object, primary-super_call, primary-super_member, primary-function, primary-class, SpPieces, pieces-last, pieces-more, SpEntries, entries-none, entries-last, entries-more, SpEntry, entry-spread, entry-name, entry-pair, entry-method, SpKey, key-literal, key-computed}
use Rattle.actx_grammar.proofs.Past.{shorter, not_longer, past-brackets}
use Rattle.actx_grammar.proofs.PastLines.{past-name, past-word, past-function_head, past-method_head}

pub weight-append : (rs qs : List Nested) → weight (rs ++ qs) ≡ weight rs + weight qs
weight-append [] qs = omega arith
weight-append (r ∷ rs) qs = let e = weight-append rs qs in omega arith

-- a body takes the tokens between its brackets, and one more
pub unread_weight : {r : Unread} {a b : Tokens} → SpUnread r a b → (dd : ℕ) → weight (body_at r dd) + length b ≤ length a
unread_weight (unread {a = m} {b = b} p0 p1 p2 p3) dd = let s = shorter (past-brackets bracket.Curly m 0 b p1) in omega arith

pub rest_size_bound : {c : Bracket} {r : Option Units} {a b : Tokens} → SpRestName c r a b → rest_size r + 8 + 16 * length b ≤ 16 * length a
rest_size_bound (rest_name-none p0) = omega arith
rest_size_bound (rest_name-some p0 p1 p2) = omega arith

pub size-literal : {i0 : Key} {a b : Tokens} → SpLiteral i0 a b → (dd : ℕ) → key_size i0 + 8 + 16 * weight (key_bodies i0 dd) + 16 * length b ≤ 16 * length a
size-literal (literal-word {u = u} p0) dd = let e0 = shorter (past-word p0) in let z0 = sized.key_size-Word u in let q0 = ap weight (found.key_bodies-Word u dd) in omega arith
size-literal (literal-text {u = u} p0) dd = let z0 = sized.key_size-Text u in let q0 = ap weight (found.key_bodies-Text u dd) in omega arith
size-literal (literal-number {n = n} p0) dd = let z0 = sized.key_size-Number n in let q0 = ap weight (found.key_bodies-Number n dd) in omega arith

mutual
  pub size-target : {i0 : Target} {i1 : ℕ} {a b : Tokens} → SpTarget i0 i1 a b → (dd : ℕ) → target_size i0 + 8 + 16 * weight (target_bodies i0 dd) + 16 * length b ≤ 16 * length a
  size-target (target-name {n = n} p0) dd = let z0 = sized.target_size-Name n in let q0 = ap weight (found.target_bodies-Name n dd) in omega arith
  size-target (target-object {x = x} {xs = xs} {r = r} p0 p1 p2) dd = let e1 = size-props p1 (dd + 1) in let e2 = rest_size_bound p2 in let z0 = sized.target_size-Object (x ∷ xs) r in let q0 = ap weight (found.target_bodies-Object (x ∷ xs) r dd) in omega arith
  size-target (target-object_rest {n = n} p0 p1) dd = let e1 = rest_size_bound p1 in let z0 = sized.target_size-Object [] (Some n) in let q0 = ap weight (found.target_bodies-Object [] (Some n) dd) in omega arith
  size-target (target-array {x = x} {xs = xs} {r = r} p0 p1 p2) dd = let e1 = size-elems p1 (dd + 1) in let e2 = rest_size_bound p2 in let z0 = sized.target_size-Array (x ∷ xs) r in let q0 = ap weight (found.target_bodies-Array (x ∷ xs) r dd) in omega arith
  size-target (target-array_rest {n = n} p0 p1) dd = let e1 = rest_size_bound p1 in let z0 = sized.target_size-Array [] (Some n) in let q0 = ap weight (found.target_bodies-Array [] (Some n) dd) in omega arith

  pub size-props : {i0 : List Prop} {i1 : ℕ} {a b : Tokens} → SpProps i0 i1 a b → (dd : ℕ) → total (map prop_size i0) + length i0 + 16 * weight (all (map prop_bodies i0) dd) + 16 * length b ≤ 16 * length a
  size-props props-none dd = omega arith
  size-props (props-last {x = x} p0 p1) dd = let e0 = size-prop p0 dd in let l = weight-append (prop_bodies x dd) (all (map prop_bodies []) dd) in omega arith
  size-props (props-more {x = x} {xs = xs} p0 p1 p2) dd = let e0 = size-prop p0 dd in let e2 = size-props p2 dd in let l = weight-append (prop_bodies x dd) (all (map prop_bodies xs) dd) in omega arith

  pub size-prop : {i0 : Prop} {i1 : ℕ} {a b : Tokens} → SpProp i0 i1 a b → (dd : ℕ) → prop_size i0 + 8 + 16 * weight (prop_bodies i0 dd) + 16 * length b ≤ 16 * length a
  size-prop (prop-name {n = n} {d = d} p0 p1) dd = let e1 = size-default p1 dd in let z0 = sized.prop_size-Shorthand n d in let q0 = ap weight (found.prop_bodies-Shorthand n d dd) in omega arith
  size-prop (prop-pair {w = w} {x = x} p0 p1 p2) dd = let e0 = size-literal p0 dd in let e2 = size-elem p2 dd in let z0 = sized.prop_size-Pair w x in let q0 = ap weight (found.prop_bodies-Pair w x dd) in let w00 = weight-append (key_bodies w dd) (elem_bodies x dd) in omega arith

  pub size-elems : {i0 : Bracket} {i1 : List Elem} {i2 : ℕ} {a b : Tokens} → SpElems i0 i1 i2 a b → (dd : ℕ) → total (map elem_size i1) + length i1 + 16 * weight (all (map elem_bodies i1) dd) + 16 * length b ≤ 16 * length a
  size-elems elems-none dd = omega arith
  size-elems (elems-last {x = x} p0 p1) dd = let e0 = size-elem p0 dd in let l = weight-append (elem_bodies x dd) (all (map elem_bodies []) dd) in omega arith
  size-elems (elems-more {x = x} {xs = xs} p0 p1 p2) dd = let e0 = size-elem p0 dd in let e2 = size-elems p2 dd in let l = weight-append (elem_bodies x dd) (all (map elem_bodies xs) dd) in omega arith

  pub size-elem : {i0 : Elem} {i1 : ℕ} {a b : Tokens} → SpElem i0 i1 a b → (dd : ℕ) → elem_size i0 + 8 + 16 * weight (elem_bodies i0 dd) + 16 * length b ≤ 16 * length a
  size-elem (elem {x = x} {d = d} p0 p1) dd = let e0 = size-target p0 dd in let e1 = size-default p1 dd in let z0 = sized.elem_size-Elem x d in let q0 = ap weight (found.elem_bodies-Elem x d dd) in let w00 = weight-append (target_bodies x dd) (or_none expr_bodies d dd) in omega arith

  pub size-default : {i0 : Option Expr} {i1 : ℕ} {a b : Tokens} → SpDefault i0 i1 a b → (dd : ℕ) → or_zero expr_size i0 + 16 * weight (or_none expr_bodies i0 dd) + 16 * length b ≤ 16 * length a
  size-default default-none dd = omega arith
  size-default (default-some {x = x} p0 p1) dd = let e1 = size-assign p1 dd in omega arith

  pub size-params : {i0 : Params} {i1 : ℕ} {a b : Tokens} → SpParams i0 i1 a b → (dd : ℕ) → params_size i0 + 8 + 16 * weight (params_bodies i0 dd) + 16 * length b ≤ 16 * length a
  size-params (params {xs = xs} {r = r} p0 p1 p2) dd = let e1 = size-elems p1 dd in let e2 = size-rest_target p2 dd in let z0 = sized.params_size-Params xs r in let q0 = ap weight (found.params_bodies-Params xs r dd) in let w00 = weight-append (all (map elem_bodies xs) dd) (or_none target_bodies r dd) in omega arith

  pub size-rest_target : {i0 : Option Target} {i1 : ℕ} {a b : Tokens} → SpRestTarget i0 i1 a b → (dd : ℕ) → or_zero (λ (t : Target). suc (target_size t)) i0 + 8 + 16 * weight (or_none target_bodies i0 dd) + 16 * length b ≤ 16 * length a
  size-rest_target (rest-none p0) dd = omega arith
  size-rest_target (rest-some {x = x} p0 p1 p2) dd = let e1 = size-target p1 dd in omega arith

  pub size-function : {i0 : Function} {i1 : ℕ} {a b : Tokens} → SpFunction i0 i1 a b → (dd : ℕ) → function_size i0 + 8 + 16 * weight (function_bodies i0 dd) + 16 * length b ≤ 16 * length a
  size-function (function {f = f} {n = n} {ps = ps} {r = r} p0 p1 p2 p3) dd = let e0 = shorter (past-function_head p0) in let e1 = not_longer (past-name p1) in let e2 = size-params p2 (dd + 1) in let e3 = unread_weight p3 dd in let z0 = sized.function_size-Function f n ps r in let q0 = ap weight (found.function_bodies-Function f n ps r dd) in let w00 = weight-append (params_bodies ps (dd + 1)) (body_at r dd) in omega arith

  pub size-method : {i0 : Method} {i1 : ℕ} {a b : Tokens} → SpMethod i0 i1 a b → (dd : ℕ) → method_size i0 + 8 + 16 * weight (method_bodies i0 dd) + 16 * length b ≤ 16 * length a
  size-method (method {f = f} {w = w} {ps = ps} {r = r} p0 p1 p2 p3) dd = let e0 = not_longer (past-method_head p0) in let e1 = size-key p1 (dd + 1) in let e2 = size-params p2 (dd + 1) in let e3 = unread_weight p3 dd in let z0 = sized.method_size-Method f w ps r in let q0 = ap weight (found.method_bodies-Method f w ps r dd) in let w00 = weight-append (key_bodies w (dd + 1)) (params_bodies ps (dd + 1) ++ (body_at r dd)) in let w01 = weight-append (params_bodies ps (dd + 1)) (body_at r dd) in omega arith

  pub size-class : {i0 : Class} {i1 : ℕ} {a b : Tokens} → SpClass i0 i1 a b → (dd : ℕ) → class_size i0 + 8 + 16 * weight (class_bodies i0 dd) + 16 * length b ≤ 16 * length a
  size-class (class-base {n = n} {xs = xs} p0 p1 p2 p3 p4) dd = let e1 = not_longer (past-name p1) in let e3 = size-members p3 (dd + 1) in let z0 = sized.class_size-Class n None xs in let q0 = ap weight (found.class_bodies-Class n None xs dd) in let w00 = weight-append (or_none expr_bodies None (dd + 1)) (all (map member_bodies xs) (dd + 1)) in omega arith
  size-class (class-derived {n = n} {x = x} {xs = xs} p0 p1 p2 p3 p4 p5 p6) dd = let e1 = not_longer (past-name p1) in let e3 = size-left p3 (dd + 1) in let e5 = size-members p5 (dd + 1) in let z0 = sized.class_size-Class n (Some x) xs in let q0 = ap weight (found.class_bodies-Class n (Some x) xs dd) in let w00 = weight-append (or_none expr_bodies (Some x) (dd + 1)) (all (map member_bodies xs) (dd + 1)) in omega arith

  pub size-members : {i0 : List Member} {i1 : ℕ} {a b : Tokens} → SpMembers i0 i1 a b → (dd : ℕ) → total (map member_size i0) + length i0 + 16 * weight (all (map member_bodies i0) dd) + 16 * length b ≤ 16 * length a
  size-members members-none dd = omega arith
  size-members (members-semicolon {xs = xs} p0 p1) dd = let e1 = size-members p1 dd in omega arith
  size-members (members-more {x = x} {xs = xs} p0 p1) dd = let e0 = size-member p0 dd in let e1 = size-members p1 dd in let l = weight-append (member_bodies x dd) (all (map member_bodies xs) dd) in omega arith

  pub size-member : {i0 : Member} {i1 : ℕ} {a b : Tokens} → SpMember i0 i1 a b → (dd : ℕ) → member_size i0 + 8 + 16 * weight (member_bodies i0 dd) + 16 * length b ≤ 16 * length a
  size-member (member-static {x = x} p0 p1 p2) dd = let e1 = size-method p1 dd in let z0 = sized.member_size-Member true x in let q0 = ap weight (found.member_bodies-Member true x dd) in omega arith
  size-member (member-plain {x = x} p0 p1 p2) dd = let e1 = size-method p1 dd in let z0 = sized.member_size-Member false x in let q0 = ap weight (found.member_bodies-Member false x dd) in omega arith

  pub size-expr : {i0 : Expr} {i1 : ℕ} {a b : Tokens} → SpExpr i0 i1 a b → (dd : ℕ) → expr_size i0 + 8 + 16 * weight (expr_bodies i0 dd) + 16 * length b ≤ 16 * length a
  size-expr (expr-one {x = x} p0) dd = let e0 = size-assign p0 dd in omega arith
  size-expr (expr-comma {x = x} {y = y} {ys = ys} p0 p1) dd = let e0 = size-assign p0 (dd + 1) in let e1 = size-commas p1 (dd + 1) in let z0 = sized.expr_size-Comma x (y ∷ ys) in let q0 = ap weight (found.expr_bodies-Comma x (y ∷ ys) dd) in let w00 = weight-append (expr_bodies x (dd + 1)) (all (map expr_bodies (y ∷ ys)) (dd + 1)) in omega arith

  pub size-commas : {i0 : List Expr} {i1 : ℕ} {a b : Tokens} → SpCommas i0 i1 a b → (dd : ℕ) → total (map expr_size i0) + length i0 + 16 * weight (all (map expr_bodies i0) dd) + 16 * length b ≤ 16 * length a
  size-commas commas-none dd = omega arith
  size-commas (commas-more {x = x} {xs = xs} p0 p1 p2) dd = let e1 = size-assign p1 dd in let e2 = size-commas p2 dd in let l = weight-append (expr_bodies x dd) (all (map expr_bodies xs) dd) in omega arith

  pub size-assign : {i0 : Expr} {i1 : ℕ} {a b : Tokens} → SpAssign i0 i1 a b → (dd : ℕ) → expr_size i0 + 8 + 16 * weight (expr_bodies i0 dd) + 16 * length b ≤ 16 * length a
  size-assign (assign-cond {x = x} p0 p1) dd = let e1 = size-cond p1 dd in omega arith
  size-assign (assign-place {op = op} {x = x} {y = y} p0 p1 p2 p3 p4) dd = let e1 = size-left p1 (dd + 1) in let e4 = size-assign p4 (dd + 1) in let z0 = sized.expr_size-Assign x op y in let q0 = ap weight (found.expr_bodies-Assign x op y dd) in let w00 = weight-append (expr_bodies x (dd + 1)) (expr_bodies y (dd + 1)) in omega arith
  size-assign (assign-yield p0 p1) dd = let z0 = sized.expr_size-Yield None in let q0 = ap weight (found.expr_bodies-Yield None dd) in omega arith
  size-assign (assign-yield_of {x = x} p0 p1 p2) dd = let e2 = size-assign p2 (dd + 1) in let z0 = sized.expr_size-Yield (Some x) in let q0 = ap weight (found.expr_bodies-Yield (Some x) dd) in omega arith
  size-assign (assign-arrow {async = async} {ps = ps} {y = y} p0 p1 p2 p3 p4 p5) dd = let e1 = size-arrow_head p1 (dd + 1) in let e5 = size-assign p5 (dd + 1) in let z0 = sized.expr_size-Arrow async ps y in let q0 = ap weight (found.expr_bodies-Arrow async ps y dd) in let w00 = weight-append (params_bodies ps (dd + 1)) (expr_bodies y (dd + 1)) in omega arith
  size-assign (assign-arrow_block {async = async} {ps = ps} {r = r} p0 p1 p2 p3 p4) dd = let e1 = size-arrow_head p1 (dd + 1) in let e4 = unread_weight p4 dd in let z0 = sized.expr_size-ArrowBlock async ps r in let q0 = ap weight (found.expr_bodies-ArrowBlock async ps r dd) in let w00 = weight-append (params_bodies ps (dd + 1)) (body_at r dd) in omega arith

  pub size-arrow_head : {i0 : Bool} {i1 : Params} {i2 : ℕ} {a b : Tokens} → SpArrowHead i0 i1 i2 a b → (dd : ℕ) → params_size i1 + 8 + 16 * weight (params_bodies i1 dd) + 16 * length b ≤ 16 * length a
  size-arrow_head (arrow_head-plain {ps = ps} p0) dd = let e0 = size-arrow_params p0 dd in omega arith
  size-arrow_head (arrow_head-async {ps = ps} p0 p1 p2) dd = let e2 = size-arrow_params p2 dd in omega arith

  pub size-arrow_params : {i0 : Params} {i1 : ℕ} {a b : Tokens} → SpArrowParams i0 i1 a b → (dd : ℕ) → params_size i0 + 8 + 16 * weight (params_bodies i0 dd) + 16 * length b ≤ 16 * length a
  size-arrow_params (arrow_params-name {n = n} p0) dd = let z0 = sized.params_size-Params (elem_of (target.Name n) None ∷ []) None in let q0 = ap weight (found.params_bodies-Params (elem_of (target.Name n) None ∷ []) None dd) in let w00 = weight-append (all (map elem_bodies (elem_of (target.Name n) None ∷ [])) dd) (or_none target_bodies None dd) in let z1 = sized.elem_size-Elem (target.Name n) None in let q1 = ap weight (found.elem_bodies-Elem (target.Name n) None dd) in let w10 = weight-append (target_bodies (target.Name n) dd) (or_none expr_bodies None dd) in let z2 = sized.target_size-Name n in let q2 = ap weight (found.target_bodies-Name n dd) in let l = weight-append (elem_bodies (elem_of (target.Name n) None) dd) [] in omega arith
  size-arrow_params (arrow_params-list {ps = ps} p0) dd = let e0 = size-params p0 dd in omega arith

  pub size-cond : {i0 : Expr} {i1 : ℕ} {a b : Tokens} → SpCond i0 i1 a b → (dd : ℕ) → expr_size i0 + 8 + 16 * weight (expr_bodies i0 dd) + 16 * length b ≤ 16 * length a
  size-cond (cond-one {x = x} p0) dd = let e0 = size-short p0 dd in omega arith
  size-cond (cond-test {x = x} {y = y} {z = z} p0 p1 p2 p3 p4) dd = let e0 = size-short p0 (dd + 1) in let e2 = size-assign p2 (dd + 1) in let e4 = size-assign p4 (dd + 1) in let z0 = sized.expr_size-Conditional x y z in let q0 = ap weight (found.expr_bodies-Conditional x y z dd) in let w00 = weight-append (expr_bodies x (dd + 1)) (expr_bodies y (dd + 1) ++ (expr_bodies z (dd + 1))) in let w01 = weight-append (expr_bodies y (dd + 1)) (expr_bodies z (dd + 1)) in omega arith

  pub size-short : {i0 : Expr} {i1 : ℕ} {a b : Tokens} → SpShort i0 i1 a b → (dd : ℕ) → expr_size i0 + 8 + 16 * weight (expr_bodies i0 dd) + 16 * length b ≤ 16 * length a
  size-short (short-or {x = x} p0) dd = let e0 = size-level p0 dd in omega arith
  size-short (short-coalesce {x = x} {y = y} {ys = ys} p0 p1) dd = let e0 = size-level p0 (dd + 1) in let e1 = size-operands p1 (dd + 1) in let z0 = sized.expr_size-Chain x (y ∷ ys) in let q0 = ap weight (found.expr_bodies-Chain x (y ∷ ys) dd) in let w00 = weight-append (expr_bodies x (dd + 1)) (all (map operand_bodies (y ∷ ys)) (dd + 1)) in omega arith

  pub size-level : {i0 : ℕ} {i1 : Expr} {i2 : ℕ} {a b : Tokens} → SpLevel i0 i1 i2 a b → (dd : ℕ) → expr_size i1 + 8 + 16 * weight (expr_bodies i1 dd) + 16 * length b ≤ 16 * length a
  size-level (level-unary {x = x} p0) dd = let e0 = size-unary p0 dd in omega arith
  size-level (level-one {x = x} p0) dd = let e0 = size-level p0 dd in omega arith
  size-level (level-chain {x = x} {y = y} {ys = ys} p0 p1) dd = let e0 = size-level p0 (dd + 1) in let e1 = size-operands p1 (dd + 1) in let z0 = sized.expr_size-Chain x (y ∷ ys) in let q0 = ap weight (found.expr_bodies-Chain x (y ∷ ys) dd) in let w00 = weight-append (expr_bodies x (dd + 1)) (all (map operand_bodies (y ∷ ys)) (dd + 1)) in omega arith

  pub size-operands : {i0 : ℕ} {i1 : ℕ} {i2 : List Operand} {i3 : ℕ} {a b : Tokens} → SpOperands i0 i1 i2 i3 a b → (dd : ℕ) → total (map operand_size i2) + length i2 + 16 * weight (all (map operand_bodies i2) dd) + 16 * length b ≤ 16 * length a
  size-operands operands-none dd = omega arith
  size-operands (operands-more {op = op} {x = x} {xs = xs} p0 p1 p2 p3) dd = let e2 = size-level p2 dd in let e3 = size-operands p3 dd in let z0 = sized.operand_size-Operand op x in let q0 = ap weight (found.operand_bodies-Operand op x dd) in let l = weight-append (operand_bodies (operand_of op x) dd) (all (map operand_bodies xs) dd) in omega arith

  pub size-unary : {i0 : Expr} {i1 : ℕ} {a b : Tokens} → SpUnary i0 i1 a b → (dd : ℕ) → expr_size i0 + 8 + 16 * weight (expr_bodies i0 dd) + 16 * length b ≤ 16 * length a
  size-unary (unary-op {op = op} {x = x} p0 p1) dd = let e1 = size-unary p1 (dd + 1) in let z0 = sized.expr_size-Unary op x in let q0 = ap weight (found.expr_bodies-Unary op x dd) in omega arith
  size-unary (unary-before {op = op} {x = x} p0 p1 p2) dd = let e1 = size-left p1 (dd + 1) in let z0 = sized.expr_size-StepBefore op x in let q0 = ap weight (found.expr_bodies-StepBefore op x dd) in omega arith
  size-unary (unary-after {op = op} {x = x} p0 p1 p2 p3) dd = let e0 = size-left p0 (dd + 1) in let z0 = sized.expr_size-StepAfter x op in let q0 = ap weight (found.expr_bodies-StepAfter x op dd) in omega arith
  size-unary (unary-left {x = x} p0) dd = let e0 = size-left p0 dd in omega arith

  pub size-left : {i0 : Expr} {i1 : ℕ} {a b : Tokens} → SpLeft i0 i1 a b → (dd : ℕ) → expr_size i0 + 8 + 16 * weight (expr_bodies i0 dd) + 16 * length b ≤ 16 * length a
  size-left (left-made {x = x} p0) dd = let e0 = size-made p0 dd in omega arith
  size-left (left-suffixes {x = x} {y = y} {ys = ys} p0 p1) dd = let e0 = size-made p0 (dd + 1) in let e1 = size-suffixes p1 (dd + 1) in let z0 = sized.expr_size-Left x (y ∷ ys) in let q0 = ap weight (found.expr_bodies-Left x (y ∷ ys) dd) in let w00 = weight-append (expr_bodies x (dd + 1)) (all (map suffix_bodies (y ∷ ys)) (dd + 1)) in omega arith

  pub size-made : {i0 : Expr} {i1 : ℕ} {a b : Tokens} → SpMade i0 i1 a b → (dd : ℕ) → expr_size i0 + 8 + 16 * weight (expr_bodies i0 dd) + 16 * length b ≤ 16 * length a
  size-made (made-primary {x = x} p0) dd = let e0 = size-primary p0 dd in omega arith
  size-made (made-new {x = x} {xs = xs} {zs = zs} p0 p1 p2 p3) dd = let e1 = size-made p1 (dd + 1) in let e2 = size-member_suffixes p2 (dd + 1) in let e3 = size-args p3 (dd + 1) in let z0 = sized.expr_size-New x xs (Some zs) in let q0 = ap weight (found.expr_bodies-New x xs (Some zs) dd) in let w00 = weight-append (expr_bodies x (dd + 1)) (all (map suffix_bodies xs) (dd + 1) ++ (or_none arguments_bodies (Some zs) (dd + 1))) in let w01 = weight-append (all (map suffix_bodies xs) (dd + 1)) (or_none arguments_bodies (Some zs) (dd + 1)) in omega arith
  size-made (made-new_bare {x = x} {xs = xs} p0 p1 p2 p3) dd = let e1 = size-made p1 (dd + 1) in let e2 = size-member_suffixes p2 (dd + 1) in let z0 = sized.expr_size-New x xs None in let q0 = ap weight (found.expr_bodies-New x xs None dd) in let w00 = weight-append (expr_bodies x (dd + 1)) (all (map suffix_bodies xs) (dd + 1) ++ (or_none arguments_bodies None (dd + 1))) in let w01 = weight-append (all (map suffix_bodies xs) (dd + 1)) (or_none arguments_bodies None (dd + 1)) in omega arith

  pub size-suffixes : {i0 : List Suffix} {i1 : ℕ} {a b : Tokens} → SpSuffixes i0 i1 a b → (dd : ℕ) → total (map suffix_size i0) + length i0 + 16 * weight (all (map suffix_bodies i0) dd) + 16 * length b ≤ 16 * length a
  size-suffixes suffixes-none dd = omega arith
  size-suffixes (suffixes-more {x = x} {xs = xs} p0 p1) dd = let e0 = size-suffix p0 dd in let e1 = size-suffixes p1 dd in let l = weight-append (suffix_bodies x dd) (all (map suffix_bodies xs) dd) in omega arith

  pub size-member_suffixes : {i0 : List Suffix} {i1 : ℕ} {a b : Tokens} → SpMemberSuffixes i0 i1 a b → (dd : ℕ) → total (map suffix_size i0) + length i0 + 16 * weight (all (map suffix_bodies i0) dd) + 16 * length b ≤ 16 * length a
  size-member_suffixes member_suffixes-none dd = omega arith
  size-member_suffixes (member_suffixes-more {x = x} {xs = xs} p0 p1) dd = let e0 = size-member_suffix p0 dd in let e1 = size-member_suffixes p1 dd in let l = weight-append (suffix_bodies x dd) (all (map suffix_bodies xs) dd) in omega arith

  pub size-suffix : {i0 : Suffix} {i1 : ℕ} {a b : Tokens} → SpSuffix i0 i1 a b → (dd : ℕ) → suffix_size i0 + 8 + 16 * weight (suffix_bodies i0 dd) + 16 * length b ≤ 16 * length a
  size-suffix (suffix-member {x = x} p0) dd = let e0 = size-member_suffix p0 dd in omega arith
  size-suffix (suffix-call {xs = xs} p0) dd = let e0 = size-args p0 dd in let z0 = sized.suffix_size-Call false xs in let q0 = ap weight (found.suffix_bodies-Call false xs dd) in omega arith
  size-suffix (suffix-optional_name {u = u} p0 p1) dd = let e1 = shorter (past-word p1) in let z0 = sized.suffix_size-Member true u in let q0 = ap weight (found.suffix_bodies-Member true u dd) in omega arith
  size-suffix (suffix-optional_index {x = x} p0 p1) dd = let e1 = size-index p1 dd in let z0 = sized.suffix_size-Index true x in let q0 = ap weight (found.suffix_bodies-Index true x dd) in omega arith
  size-suffix (suffix-optional_call {xs = xs} p0 p1) dd = let e1 = size-args p1 dd in let z0 = sized.suffix_size-Call true xs in let q0 = ap weight (found.suffix_bodies-Call true xs dd) in omega arith

  pub size-member_suffix : {i0 : Suffix} {i1 : ℕ} {a b : Tokens} → SpMemberSuffix i0 i1 a b → (dd : ℕ) → suffix_size i0 + 8 + 16 * weight (suffix_bodies i0 dd) + 16 * length b ≤ 16 * length a
  size-member_suffix (member_suffix-name {u = u} p0 p1) dd = let e1 = shorter (past-word p1) in let z0 = sized.suffix_size-Member false u in let q0 = ap weight (found.suffix_bodies-Member false u dd) in omega arith
  size-member_suffix (member_suffix-index {x = x} p0) dd = let e0 = size-index p0 dd in let z0 = sized.suffix_size-Index false x in let q0 = ap weight (found.suffix_bodies-Index false x dd) in omega arith

  pub size-index : {i0 : Expr} {i1 : ℕ} {a b : Tokens} → SpIndex i0 i1 a b → (dd : ℕ) → expr_size i0 + 8 + 16 * weight (expr_bodies i0 dd) + 16 * length b ≤ 16 * length a
  size-index (index {x = x} p0 p1 p2) dd = let e1 = size-expr p1 dd in omega arith

  pub size-args : {i0 : List Argument} {i1 : ℕ} {a b : Tokens} → SpArgs i0 i1 a b → (dd : ℕ) → total (map argument_size i0) + length i0 + 8 + 16 * weight (all (map argument_bodies i0) dd) + 16 * length b ≤ 16 * length a
  size-args (args {xs = xs} p0 p1 p2) dd = let e1 = size-arguments p1 dd in omega arith

  pub size-arguments : {i0 : Bracket} {i1 : List Argument} {i2 : ℕ} {a b : Tokens} → SpArguments i0 i1 i2 a b → (dd : ℕ) → total (map argument_size i1) + length i1 + 16 * weight (all (map argument_bodies i1) dd) + 16 * length b ≤ 16 * length a
  size-arguments arguments-none dd = omega arith
  size-arguments (arguments-last {x = x} p0 p1) dd = let e0 = size-argument p0 dd in let l = weight-append (argument_bodies x dd) (all (map argument_bodies []) dd) in omega arith
  size-arguments (arguments-more {x = x} {xs = xs} p0 p1 p2) dd = let e0 = size-argument p0 dd in let e2 = size-arguments p2 dd in let l = weight-append (argument_bodies x dd) (all (map argument_bodies xs) dd) in omega arith

  pub size-argument : {i0 : Argument} {i1 : ℕ} {a b : Tokens} → SpArgument i0 i1 a b → (dd : ℕ) → argument_size i0 + 8 + 16 * weight (argument_bodies i0 dd) + 16 * length b ≤ 16 * length a
  size-argument (argument-one {x = x} p0) dd = let e0 = size-assign p0 dd in let z0 = sized.argument_size-One x in let q0 = ap weight (found.argument_bodies-One x dd) in omega arith
  size-argument (argument-spread {x = x} p0 p1) dd = let e1 = size-assign p1 dd in let z0 = sized.argument_size-Spread x in let q0 = ap weight (found.argument_bodies-Spread x dd) in omega arith

  pub size-primary : {i0 : Expr} {i1 : ℕ} {a b : Tokens} → SpPrimary i0 i1 a b → (dd : ℕ) → expr_size i0 + 8 + 16 * weight (expr_bodies i0 dd) + 16 * length b ≤ 16 * length a
  size-primary (primary-name {n = n} p0 p1) dd = let z0 = sized.expr_size-Name n in let q0 = ap weight (found.expr_bodies-Name n dd) in omega arith
  size-primary (primary-number {n = n} p0) dd = let z0 = sized.expr_size-Number n in let q0 = ap weight (found.expr_bodies-Number n dd) in omega arith
  size-primary (primary-text {u = u} p0) dd = let z0 = sized.expr_size-Text u in let q0 = ap weight (found.expr_bodies-Text u dd) in omega arith
  size-primary (primary-true p0) dd = let z0 = sized.expr_size-Bool true in let q0 = ap weight (found.expr_bodies-Bool true dd) in omega arith
  size-primary (primary-false p0) dd = let z0 = sized.expr_size-Bool false in let q0 = ap weight (found.expr_bodies-Bool false dd) in omega arith
  size-primary (primary-null p0) dd = let z0 = sized.expr_size-Null in let q0 = ap weight (found.expr_bodies-Null dd) in omega arith
  size-primary (primary-this p0) dd = let z0 = sized.expr_size-This in let q0 = ap weight (found.expr_bodies-This dd) in omega arith
  size-primary (primary-template {u = u} p0) dd = let z0 = sized.expr_size-Template u [] in let q0 = ap weight (found.expr_bodies-Template u [] dd) in omega arith
  size-primary (primary-template_of {u = u} {x = x} {xs = xs} p0 p1) dd = let e1 = size-pieces p1 (dd + 1) in let z0 = sized.expr_size-Template u (x ∷ xs) in let q0 = ap weight (found.expr_bodies-Template u (x ∷ xs) dd) in omega arith
  size-primary (primary-brackets {x = x} p0 p1 p2) dd = let e1 = size-expr p1 (dd + 1) in let z0 = sized.expr_size-Brackets x in let q0 = ap weight (found.expr_bodies-Brackets x dd) in omega arith
  size-primary (primary-array {xs = xs} p0 p1 p2) dd = let e1 = size-arguments p1 (dd + 1) in let z0 = sized.expr_size-Array xs in let q0 = ap weight (found.expr_bodies-Array xs dd) in omega arith
  size-primary (primary-object {xs = xs} p0 p1 p2) dd = let e1 = size-entries p1 (dd + 1) in let z0 = sized.expr_size-Object xs in let q0 = ap weight (found.expr_bodies-Object xs dd) in omega arith
  size-primary (primary-super_call {xs = xs} p0 p1) dd = let e1 = size-args p1 (dd + 1) in let z0 = sized.expr_size-SuperCall xs in let q0 = ap weight (found.expr_bodies-SuperCall xs dd) in omega arith
  size-primary (primary-super_member {n = n} p0 p1 p2) dd = let e2 = shorter (past-word p2) in let z0 = sized.expr_size-SuperMember n in let q0 = ap weight (found.expr_bodies-SuperMember n dd) in omega arith
  size-primary (primary-function {f = f} p0) dd = let e0 = size-function p0 dd in let z0 = sized.expr_size-Function f in let q0 = ap weight (found.expr_bodies-Function f dd) in omega arith
  size-primary (primary-class {c = c} p0) dd = let e0 = size-class p0 dd in let z0 = sized.expr_size-Class c in let q0 = ap weight (found.expr_bodies-Class c dd) in omega arith

  pub size-pieces : {i0 : List Piece} {i1 : ℕ} {a b : Tokens} → SpPieces i0 i1 a b → (dd : ℕ) → total (map piece_size i0) + length i0 + 16 * weight (all (map piece_bodies i0) dd) + 16 * length b ≤ 16 * length a
  size-pieces (pieces-last {x = x} {u = u} p0 p1) dd = let e0 = size-expr p0 dd in let z0 = sized.piece_size-Piece x u in let q0 = ap weight (found.piece_bodies-Piece x u dd) in let l = weight-append (piece_bodies (piece_of x u) dd) (all (map piece_bodies []) dd) in omega arith
  size-pieces (pieces-more {x = x} {u = u} {xs = xs} p0 p1 p2) dd = let e0 = size-expr p0 dd in let e2 = size-pieces p2 dd in let z0 = sized.piece_size-Piece x u in let q0 = ap weight (found.piece_bodies-Piece x u dd) in let l = weight-append (piece_bodies (piece_of x u) dd) (all (map piece_bodies xs) dd) in omega arith

  pub size-entries : {i0 : List Entry} {i1 : ℕ} {a b : Tokens} → SpEntries i0 i1 a b → (dd : ℕ) → total (map entry_size i0) + length i0 + 16 * weight (all (map entry_bodies i0) dd) + 16 * length b ≤ 16 * length a
  size-entries entries-none dd = omega arith
  size-entries (entries-last {x = x} p0 p1) dd = let e0 = size-entry p0 dd in let l = weight-append (entry_bodies x dd) (all (map entry_bodies []) dd) in omega arith
  size-entries (entries-more {x = x} {xs = xs} p0 p1 p2) dd = let e0 = size-entry p0 dd in let e2 = size-entries p2 dd in let l = weight-append (entry_bodies x dd) (all (map entry_bodies xs) dd) in omega arith

  pub size-entry : {i0 : Entry} {i1 : ℕ} {a b : Tokens} → SpEntry i0 i1 a b → (dd : ℕ) → entry_size i0 + 8 + 16 * weight (entry_bodies i0 dd) + 16 * length b ≤ 16 * length a
  size-entry (entry-spread {x = x} p0 p1) dd = let e1 = size-assign p1 dd in let z0 = sized.entry_size-Spread x in let q0 = ap weight (found.entry_bodies-Spread x dd) in omega arith
  size-entry (entry-name {n = n} p0 p1) dd = let z0 = sized.entry_size-Shorthand n in let q0 = ap weight (found.entry_bodies-Shorthand n dd) in omega arith
  size-entry (entry-pair {w = w} {x = x} p0 p1 p2 p3 p4) dd = let e2 = size-key p2 dd in let e4 = size-assign p4 dd in let z0 = sized.entry_size-Pair w x in let q0 = ap weight (found.entry_bodies-Pair w x dd) in let w00 = weight-append (key_bodies w dd) (expr_bodies x dd) in omega arith
  size-entry (entry-method {x = x} p0 p1) dd = let e1 = size-method p1 dd in let z0 = sized.entry_size-Method x in let q0 = ap weight (found.entry_bodies-Method x dd) in omega arith

  pub size-key : {i0 : Key} {i1 : ℕ} {a b : Tokens} → SpKey i0 i1 a b → (dd : ℕ) → key_size i0 + 8 + 16 * weight (key_bodies i0 dd) + 16 * length b ≤ 16 * length a
  size-key (key-literal {w = w} p0) dd = let e0 = size-literal p0 dd in omega arith
  size-key (key-computed {x = x} p0 p1 p2) dd = let e1 = size-assign p1 dd in let z0 = sized.key_size-Computed x in let q0 = ap weight (found.key_bodies-Computed x dd) in omega arith
