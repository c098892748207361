-- A body that is not read lies no deeper than there are tokens around it: a table over the grammar.
use Rattle.std.proofs.Common.{◌≡◌, ℕ, ◌+◌, ◌≤◌, max, min, Bool, true, false, List, [], ◌∷◌, ◌++◌, length, map, Option, Some, None, ap, arith}
use Rattle.actx_tree.specs.declared.expr.Expr.{Expr}
use Rattle.actx_tree.specs.declared.expr.Piece.{Piece}
use Rattle.actx_tree.specs.declared.expr.Argument.{Argument}
use Rattle.actx_tree.specs.declared.expr.Entry.{Entry}
use Rattle.actx_tree.specs.declared.expr.Key.{Key}
use Rattle.actx_tree.specs.declared.expr.Suffix.{Suffix}
use Rattle.actx_tree.specs.declared.expr.Operand.{Operand}
use Rattle.actx_tree.specs.declared.function.Unread.{Unread}
use Rattle.actx_tree.specs.declared.function.Function.{Function}
use Rattle.actx_tree.specs.declared.function.Method.{Method}
use Rattle.actx_tree.specs.declared.function.Class.{Class}
use Rattle.actx_tree.specs.declared.function.Member.{Member}
use Rattle.actx_tree.specs.declared.pattern.Target.{Target}
use Rattle.actx_tree.specs.declared.pattern.Prop.{Prop}
use Rattle.actx_tree.specs.declared.pattern.Elem.{Elem}
use Rattle.actx_tree.specs.declared.pattern.Params.{Params}
use Rattle.actx_grammar.specs.declared.bracket.Bracket.{Bracket}
use Rattle.actx_tree.specs.declared.pattern.Target.TheVariants as target
use Rattle.actx_tree.specs.declared.function.Nested.{Nested}
use Rattle.actx_tree.specs.Parts.{piece_of, operand_of, elem_of}
use Rattle.actx_tree.specs.Bodies.{all, or_none, body_at, expr_bodies, piece_bodies, argument_bodies, entry_bodies, key_bodies, suffix_bodies, operand_bodies, function_bodies, method_bodies, class_bodies, member_bodies, target_bodies, prop_bodies, elem_bodies, params_bodies, arguments_bodies}
use Rattle.actx_tree.proofs.BodyEquations as found
use Rattle.actx_grammar.specs.Tokens.{Tokens}
use Rattle.actx_grammar.specs.Weights.{reach}
use Rattle.actx_grammar.specs.declared.bracket.Bracket.TheVariants as bracket
use Rattle.actx_grammar.specs.Grammar.{SpLiteral, literal-word, literal-text, literal-number, SpUnread, unread, SpTarget, target-name, target-object, target-object_rest, target-array, target-array_rest, SpProps, props-none, props-last, props-more, SpProp, prop-name, prop-pair, SpElems, elems-none, elems-last, elems-more, SpElem, elem, SpDefault, default-none, default-some, SpParams, params, SpRestTarget, rest-none, rest-some, SpFunction, function, SpMethod, method, SpClass, class-base, class-derived, SpMembers, members-none, members-semicolon, members-more, SpMember, member-static, member-plain, SpExpr, expr-one, expr-comma, SpCommas, commas-none, commas-more, SpAssign, assign-cond, assign-place, assign-yield, assign-yield_of, assign-arrow, assign-arrow_block, SpArrowHead, arrow_head-plain, arrow_head-async, SpArrowParams, arrow_params-name, arrow_params-list, SpCond, cond-one, cond-test, SpShort, short-or, short-coalesce, SpLevel, level-unary, level-one, level-chain, SpOperands, operands-none, operands-more, SpUnary, unary-op, unary-before, unary-after, unary-left, SpLeft, left-made, left-suffixes, SpMade, made-primary, made-new, made-new_bare, SpSuffixes, suffixes-none, suffixes-more, SpMemberSuffixes, member_suffixes-none, member_suffixes-more, SpSuffix, suffix-member, suffix-call, suffix-optional_name, suffix-optional_index, suffix-optional_call, SpMemberSuffix, member_suffix-name, member_suffix-index, SpIndex, index, SpArgs, args, SpArguments, arguments-none, arguments-last, arguments-more, SpArgument, argument-one, argument-spread, SpPrimary, primary-name, primary-number, primary-text, primary-true, primary-false, primary-null, primary-this, primary-template, primary-template_of, primary-brackets, primary-array, primary-object, primary-super_call, primary-super_member, primary-function, primary-class, SpPieces, pieces-last, pieces-more, SpEntries, entries-none, entries-last, entries-more, SpEntry, entry-spread, entry-name, entry-pair, entry-method, SpKey, key-literal, key-computed}
use Rattle.actx_grammar.proofs.Past.{shorter, not_longer, past-brackets}
use Rattle.actx_grammar.proofs.PastLines.{past-name, past-word, past-function_head, past-method_head}
use Rattle.actx_grammar.proofs.SizeLines.{rest_size_bound, size-literal, size-target, size-props, size-prop, size-elems, size-elem, size-default, size-params, size-rest_target, size-function, size-method, size-class, size-members, size-member, size-expr, size-commas, size-assign, size-arrow_head, size-arrow_params, size-cond, size-short, size-level, size-operands, size-unary, size-left, size-made, size-suffixes, size-member_suffixes, size-suffix, size-member_suffix, size-index, size-args, size-arguments, size-argument, size-primary, size-pieces, size-entries, size-entry, size-key}

pub reach-append : (rs qs : List Nested) → reach (rs ++ qs) ≡ max (reach rs) (reach qs)
reach-append [] qs = omega arith
reach-append (r ∷ rs) qs = let e = reach-append rs qs in omega arith

unread_reach : {r : Unread} {a b : Tokens} → SpUnread r a b → (dd : ℕ) → reach (body_at r dd) + length b ≤ dd + length a
unread_reach (unread {a = m} {b = b} p0 p1 p2 p3) dd = let s = shorter (past-brackets bracket.Curly m 0 b p1) in omega arith

pub reach-literal : {i0 : Key} {a b : Tokens} → SpLiteral i0 a b → (dd : ℕ) → reach (key_bodies i0 dd) + 1 + length b ≤ dd + length a
reach-literal (literal-word {u = u} p0) dd = let e0 = shorter (past-word p0) in let q0 = ap reach (found.key_bodies-Word u dd) in omega arith
reach-literal (literal-text {u = u} p0) dd = let q0 = ap reach (found.key_bodies-Text u dd) in omega arith
reach-literal (literal-number {n = n} p0) dd = let q0 = ap reach (found.key_bodies-Number n dd) in omega arith

mutual
  pub reach-target : {i0 : Target} {i1 : ℕ} {a b : Tokens} → SpTarget i0 i1 a b → (dd : ℕ) → reach (target_bodies i0 dd) + 1 + length b ≤ dd + length a
  reach-target (target-name {n = n} p0) dd = let q0 = ap reach (found.target_bodies-Name n dd) in omega arith
  reach-target (target-object {x = x} {xs = xs} {r = r} p0 p1 p2) dd = let e1 = reach-props p1 (dd + 1) in let s1 = size-props p1 0 in let e2 = rest_size_bound p2 in let q0 = ap reach (found.target_bodies-Object (x ∷ xs) r dd) in omega arith
  reach-target (target-object_rest {n = n} p0 p1) dd = let e1 = rest_size_bound p1 in let q0 = ap reach (found.target_bodies-Object [] (Some n) dd) in omega arith
  reach-target (target-array {x = x} {xs = xs} {r = r} p0 p1 p2) dd = let e1 = reach-elems p1 (dd + 1) in let s1 = size-elems p1 0 in let e2 = rest_size_bound p2 in let q0 = ap reach (found.target_bodies-Array (x ∷ xs) r dd) in omega arith
  reach-target (target-array_rest {n = n} p0 p1) dd = let e1 = rest_size_bound p1 in let q0 = ap reach (found.target_bodies-Array [] (Some n) dd) in omega arith

  pub reach-props : {i0 : List Prop} {i1 : ℕ} {a b : Tokens} → SpProps i0 i1 a b → (dd : ℕ) → reach (all (map prop_bodies i0) dd) + min 1 (length i0) + length b ≤ dd + length a
  reach-props props-none dd = omega arith
  reach-props (props-last {x = x} p0 p1) dd = let e0 = reach-prop p0 dd in let s0 = size-prop p0 0 in let l = reach-append (prop_bodies x dd) (all (map prop_bodies []) dd) in omega arith
  reach-props (props-more {x = x} {xs = xs} p0 p1 p2) dd = let e0 = reach-prop p0 dd in let s0 = size-prop p0 0 in let e2 = reach-props p2 dd in let s2 = size-props p2 0 in let l = reach-append (prop_bodies x dd) (all (map prop_bodies xs) dd) in omega arith

  pub reach-prop : {i0 : Prop} {i1 : ℕ} {a b : Tokens} → SpProp i0 i1 a b → (dd : ℕ) → reach (prop_bodies i0 dd) + 1 + length b ≤ dd + length a
  reach-prop (prop-name {n = n} {d = d} p0 p1) dd = let e1 = reach-default p1 dd in let s1 = size-default p1 0 in let q0 = ap reach (found.prop_bodies-Shorthand n d dd) in omega arith
  reach-prop (prop-pair {w = w} {x = x} p0 p1 p2) dd = let e0 = reach-literal p0 dd in let s0 = size-literal p0 0 in let e2 = reach-elem p2 dd in let s2 = size-elem p2 0 in let q0 = ap reach (found.prop_bodies-Pair w x dd) in let w00 = reach-append (key_bodies w dd) (elem_bodies x dd) in omega arith

  pub reach-elems : {i0 : Bracket} {i1 : List Elem} {i2 : ℕ} {a b : Tokens} → SpElems i0 i1 i2 a b → (dd : ℕ) → reach (all (map elem_bodies i1) dd) + min 1 (length i1) + length b ≤ dd + length a
  reach-elems elems-none dd = omega arith
  reach-elems (elems-last {x = x} p0 p1) dd = let e0 = reach-elem p0 dd in let s0 = size-elem p0 0 in let l = reach-append (elem_bodies x dd) (all (map elem_bodies []) dd) in omega arith
  reach-elems (elems-more {x = x} {xs = xs} p0 p1 p2) dd = let e0 = reach-elem p0 dd in let s0 = size-elem p0 0 in let e2 = reach-elems p2 dd in let s2 = size-elems p2 0 in let l = reach-append (elem_bodies x dd) (all (map elem_bodies xs) dd) in omega arith

  pub reach-elem : {i0 : Elem} {i1 : ℕ} {a b : Tokens} → SpElem i0 i1 a b → (dd : ℕ) → reach (elem_bodies i0 dd) + 1 + length b ≤ dd + length a
  reach-elem (elem {x = x} {d = d} p0 p1) dd = let e0 = reach-target p0 dd in let s0 = size-target p0 0 in let e1 = reach-default p1 dd in let s1 = size-default p1 0 in let q0 = ap reach (found.elem_bodies-Elem x d dd) in let w00 = reach-append (target_bodies x dd) (or_none expr_bodies d dd) in omega arith

  pub reach-default : {i0 : Option Expr} {i1 : ℕ} {a b : Tokens} → SpDefault i0 i1 a b → (dd : ℕ) → reach (or_none expr_bodies i0 dd) + length b ≤ dd + length a
  reach-default default-none dd = omega arith
  reach-default (default-some {x = x} p0 p1) dd = let e1 = reach-assign p1 dd in let s1 = size-assign p1 0 in omega arith

  pub reach-params : {i0 : Params} {i1 : ℕ} {a b : Tokens} → SpParams i0 i1 a b → (dd : ℕ) → reach (params_bodies i0 dd) + 1 + length b ≤ dd + length a
  reach-params (params {xs = xs} {r = r} p0 p1 p2) dd = let e1 = reach-elems p1 dd in let s1 = size-elems p1 0 in let e2 = reach-rest_target p2 dd in let s2 = size-rest_target p2 0 in let q0 = ap reach (found.params_bodies-Params xs r dd) in let w00 = reach-append (all (map elem_bodies xs) dd) (or_none target_bodies r dd) in omega arith

  pub reach-rest_target : {i0 : Option Target} {i1 : ℕ} {a b : Tokens} → SpRestTarget i0 i1 a b → (dd : ℕ) → reach (or_none target_bodies i0 dd) + 1 + length b ≤ dd + length a
  reach-rest_target (rest-none p0) dd = omega arith
  reach-rest_target (rest-some {x = x} p0 p1 p2) dd = let e1 = reach-target p1 dd in let s1 = size-target p1 0 in omega arith

  pub reach-function : {i0 : Function} {i1 : ℕ} {a b : Tokens} → SpFunction i0 i1 a b → (dd : ℕ) → reach (function_bodies i0 dd) + 1 + length b ≤ dd + length a
  reach-function (function {f = f} {n = n} {ps = ps} {r = r} p0 p1 p2 p3) dd = let e0 = shorter (past-function_head p0) in let e1 = not_longer (past-name p1) in let e2 = reach-params p2 (dd + 1) in let s2 = size-params p2 0 in let e3 = unread_reach p3 dd in let q0 = ap reach (found.function_bodies-Function f n ps r dd) in let w00 = reach-append (params_bodies ps (dd + 1)) (body_at r dd) in omega arith

  pub reach-method : {i0 : Method} {i1 : ℕ} {a b : Tokens} → SpMethod i0 i1 a b → (dd : ℕ) → reach (method_bodies i0 dd) + 1 + length b ≤ dd + length a
  reach-method (method {f = f} {w = w} {ps = ps} {r = r} p0 p1 p2 p3) dd = let e0 = not_longer (past-method_head p0) in let e1 = reach-key p1 (dd + 1) in let s1 = size-key p1 0 in let e2 = reach-params p2 (dd + 1) in let s2 = size-params p2 0 in let e3 = unread_reach p3 dd in let q0 = ap reach (found.method_bodies-Method f w ps r dd) in let w00 = reach-append (key_bodies w (dd + 1)) (params_bodies ps (dd + 1) ++ (body_at r dd)) in let w01 = reach-append (params_bodies ps (dd + 1)) (body_at r dd) in omega arith

  pub reach-class : {i0 : Class} {i1 : ℕ} {a b : Tokens} → SpClass i0 i1 a b → (dd : ℕ) → reach (class_bodies i0 dd) + 1 + length b ≤ dd + length a
  reach-class (class-base {n = n} {xs = xs} p0 p1 p2 p3 p4) dd = let e1 = not_longer (past-name p1) in let e3 = reach-members p3 (dd + 1) in let s3 = size-members p3 0 in let q0 = ap reach (found.class_bodies-Class n None xs dd) in let w00 = reach-append (or_none expr_bodies None (dd + 1)) (all (map member_bodies xs) (dd + 1)) in omega arith
  reach-class (class-derived {n = n} {x = x} {xs = xs} p0 p1 p2 p3 p4 p5 p6) dd = let e1 = not_longer (past-name p1) in let e3 = reach-left p3 (dd + 1) in let s3 = size-left p3 0 in let e5 = reach-members p5 (dd + 1) in let s5 = size-members p5 0 in let q0 = ap reach (found.class_bodies-Class n (Some x) xs dd) in let w00 = reach-append (or_none expr_bodies (Some x) (dd + 1)) (all (map member_bodies xs) (dd + 1)) in omega arith

  pub reach-members : {i0 : List Member} {i1 : ℕ} {a b : Tokens} → SpMembers i0 i1 a b → (dd : ℕ) → reach (all (map member_bodies i0) dd) + min 1 (length i0) + length b ≤ dd + length a
  reach-members members-none dd = omega arith
  reach-members (members-semicolon {xs = xs} p0 p1) dd = let e1 = reach-members p1 dd in let s1 = size-members p1 0 in omega arith
  reach-members (members-more {x = x} {xs = xs} p0 p1) dd = let e0 = reach-member p0 dd in let s0 = size-member p0 0 in let e1 = reach-members p1 dd in let s1 = size-members p1 0 in let l = reach-append (member_bodies x dd) (all (map member_bodies xs) dd) in omega arith

  pub reach-member : {i0 : Member} {i1 : ℕ} {a b : Tokens} → SpMember i0 i1 a b → (dd : ℕ) → reach (member_bodies i0 dd) + 1 + length b ≤ dd + length a
  reach-member (member-static {x = x} p0 p1 p2) dd = let e1 = reach-method p1 dd in let s1 = size-method p1 0 in let q0 = ap reach (found.member_bodies-Member true x dd) in omega arith
  reach-member (member-plain {x = x} p0 p1 p2) dd = let e1 = reach-method p1 dd in let s1 = size-method p1 0 in let q0 = ap reach (found.member_bodies-Member false x dd) in omega arith

  pub reach-expr : {i0 : Expr} {i1 : ℕ} {a b : Tokens} → SpExpr i0 i1 a b → (dd : ℕ) → reach (expr_bodies i0 dd) + 1 + length b ≤ dd + length a
  reach-expr (expr-one {x = x} p0) dd = let e0 = reach-assign p0 dd in let s0 = size-assign p0 0 in omega arith
  reach-expr (expr-comma {x = x} {y = y} {ys = ys} p0 p1) dd = let e0 = reach-assign p0 (dd + 1) in let s0 = size-assign p0 0 in let e1 = reach-commas p1 (dd + 1) in let s1 = size-commas p1 0 in let q0 = ap reach (found.expr_bodies-Comma x (y ∷ ys) dd) in let w00 = reach-append (expr_bodies x (dd + 1)) (all (map expr_bodies (y ∷ ys)) (dd + 1)) in omega arith

  pub reach-commas : {i0 : List Expr} {i1 : ℕ} {a b : Tokens} → SpCommas i0 i1 a b → (dd : ℕ) → reach (all (map expr_bodies i0) dd) + min 1 (length i0) + length b ≤ dd + length a
  reach-commas commas-none dd = omega arith
  reach-commas (commas-more {x = x} {xs = xs} p0 p1 p2) dd = let e1 = reach-assign p1 dd in let s1 = size-assign p1 0 in let e2 = reach-commas p2 dd in let s2 = size-commas p2 0 in let l = reach-append (expr_bodies x dd) (all (map expr_bodies xs) dd) in omega arith

  pub reach-assign : {i0 : Expr} {i1 : ℕ} {a b : Tokens} → SpAssign i0 i1 a b → (dd : ℕ) → reach (expr_bodies i0 dd) + 1 + length b ≤ dd + length a
  reach-assign (assign-cond {x = x} p0 p1) dd = let e1 = reach-cond p1 dd in let s1 = size-cond p1 0 in omega arith
  reach-assign (assign-place {op = op} {x = x} {y = y} p0 p1 p2 p3 p4) dd = let e1 = reach-left p1 (dd + 1) in let s1 = size-left p1 0 in let e4 = reach-assign p4 (dd + 1) in let s4 = size-assign p4 0 in let q0 = ap reach (found.expr_bodies-Assign x op y dd) in let w00 = reach-append (expr_bodies x (dd + 1)) (expr_bodies y (dd + 1)) in omega arith
  reach-assign (assign-yield p0 p1) dd = let q0 = ap reach (found.expr_bodies-Yield None dd) in omega arith
  reach-assign (assign-yield_of {x = x} p0 p1 p2) dd = let e2 = reach-assign p2 (dd + 1) in let s2 = size-assign p2 0 in let q0 = ap reach (found.expr_bodies-Yield (Some x) dd) in omega arith
  reach-assign (assign-arrow {async = async} {ps = ps} {y = y} p0 p1 p2 p3 p4 p5) dd = let e1 = reach-arrow_head p1 (dd + 1) in let s1 = size-arrow_head p1 0 in let e5 = reach-assign p5 (dd + 1) in let s5 = size-assign p5 0 in let q0 = ap reach (found.expr_bodies-Arrow async ps y dd) in let w00 = reach-append (params_bodies ps (dd + 1)) (expr_bodies y (dd + 1)) in omega arith
  reach-assign (assign-arrow_block {async = async} {ps = ps} {r = r} p0 p1 p2 p3 p4) dd = let e1 = reach-arrow_head p1 (dd + 1) in let s1 = size-arrow_head p1 0 in let e4 = unread_reach p4 dd in let q0 = ap reach (found.expr_bodies-ArrowBlock async ps r dd) in let w00 = reach-append (params_bodies ps (dd + 1)) (body_at r dd) in omega arith

  pub reach-arrow_head : {i0 : Bool} {i1 : Params} {i2 : ℕ} {a b : Tokens} → SpArrowHead i0 i1 i2 a b → (dd : ℕ) → reach (params_bodies i1 dd) + 1 + length b ≤ dd + length a
  reach-arrow_head (arrow_head-plain {ps = ps} p0) dd = let e0 = reach-arrow_params p0 dd in let s0 = size-arrow_params p0 0 in omega arith
  reach-arrow_head (arrow_head-async {ps = ps} p0 p1 p2) dd = let e2 = reach-arrow_params p2 dd in let s2 = size-arrow_params p2 0 in omega arith

  pub reach-arrow_params : {i0 : Params} {i1 : ℕ} {a b : Tokens} → SpArrowParams i0 i1 a b → (dd : ℕ) → reach (params_bodies i0 dd) + 1 + length b ≤ dd + length a
  reach-arrow_params (arrow_params-name {n = n} p0) dd = let q0 = ap reach (found.params_bodies-Params (elem_of (target.Name n) None ∷ []) None dd) in let w00 = reach-append (all (map elem_bodies (elem_of (target.Name n) None ∷ [])) dd) (or_none target_bodies None dd) in let q1 = ap reach (found.elem_bodies-Elem (target.Name n) None dd) in let w10 = reach-append (target_bodies (target.Name n) dd) (or_none expr_bodies None dd) in let q2 = ap reach (found.target_bodies-Name n dd) in let l = reach-append (elem_bodies (elem_of (target.Name n) None) dd) [] in omega arith
  reach-arrow_params (arrow_params-list {ps = ps} p0) dd = let e0 = reach-params p0 dd in let s0 = size-params p0 0 in omega arith

  pub reach-cond : {i0 : Expr} {i1 : ℕ} {a b : Tokens} → SpCond i0 i1 a b → (dd : ℕ) → reach (expr_bodies i0 dd) + 1 + length b ≤ dd + length a
  reach-cond (cond-one {x = x} p0) dd = let e0 = reach-short p0 dd in let s0 = size-short p0 0 in omega arith
  reach-cond (cond-test {x = x} {y = y} {z = z} p0 p1 p2 p3 p4) dd = let e0 = reach-short p0 (dd + 1) in let s0 = size-short p0 0 in let e2 = reach-assign p2 (dd + 1) in let s2 = size-assign p2 0 in let e4 = reach-assign p4 (dd + 1) in let s4 = size-assign p4 0 in let q0 = ap reach (found.expr_bodies-Conditional x y z dd) in let w00 = reach-append (expr_bodies x (dd + 1)) (expr_bodies y (dd + 1) ++ (expr_bodies z (dd + 1))) in let w01 = reach-append (expr_bodies y (dd + 1)) (expr_bodies z (dd + 1)) in omega arith

  pub reach-short : {i0 : Expr} {i1 : ℕ} {a b : Tokens} → SpShort i0 i1 a b → (dd : ℕ) → reach (expr_bodies i0 dd) + 1 + length b ≤ dd + length a
  reach-short (short-or {x = x} p0) dd = let e0 = reach-level p0 dd in let s0 = size-level p0 0 in omega arith
  reach-short (short-coalesce {x = x} {y = y} {ys = ys} p0 p1) dd = let e0 = reach-level p0 (dd + 1) in let s0 = size-level p0 0 in let e1 = reach-operands p1 (dd + 1) in let s1 = size-operands p1 0 in let q0 = ap reach (found.expr_bodies-Chain x (y ∷ ys) dd) in let w00 = reach-append (expr_bodies x (dd + 1)) (all (map operand_bodies (y ∷ ys)) (dd + 1)) in omega arith

  pub reach-level : {i0 : ℕ} {i1 : Expr} {i2 : ℕ} {a b : Tokens} → SpLevel i0 i1 i2 a b → (dd : ℕ) → reach (expr_bodies i1 dd) + 1 + length b ≤ dd + length a
  reach-level (level-unary {x = x} p0) dd = let e0 = reach-unary p0 dd in let s0 = size-unary p0 0 in omega arith
  reach-level (level-one {x = x} p0) dd = let e0 = reach-level p0 dd in let s0 = size-level p0 0 in omega arith
  reach-level (level-chain {x = x} {y = y} {ys = ys} p0 p1) dd = let e0 = reach-level p0 (dd + 1) in let s0 = size-level p0 0 in let e1 = reach-operands p1 (dd + 1) in let s1 = size-operands p1 0 in let q0 = ap reach (found.expr_bodies-Chain x (y ∷ ys) dd) in let w00 = reach-append (expr_bodies x (dd + 1)) (all (map operand_bodies (y ∷ ys)) (dd + 1)) in omega arith

  pub reach-operands : {i0 : ℕ} {i1 : ℕ} {i2 : List Operand} {i3 : ℕ} {a b : Tokens} → SpOperands i0 i1 i2 i3 a b → (dd : ℕ) → reach (all (map operand_bodies i2) dd) + min 1 (length i2) + length b ≤ dd + length a
  reach-operands operands-none dd = omega arith
  reach-operands (operands-more {op = op} {x = x} {xs = xs} p0 p1 p2 p3) dd = let e2 = reach-level p2 dd in let s2 = size-level p2 0 in let e3 = reach-operands p3 dd in let s3 = size-operands p3 0 in let q0 = ap reach (found.operand_bodies-Operand op x dd) in let l = reach-append (operand_bodies (operand_of op x) dd) (all (map operand_bodies xs) dd) in omega arith

  pub reach-unary : {i0 : Expr} {i1 : ℕ} {a b : Tokens} → SpUnary i0 i1 a b → (dd : ℕ) → reach (expr_bodies i0 dd) + 1 + length b ≤ dd + length a
  reach-unary (unary-op {op = op} {x = x} p0 p1) dd = let e1 = reach-unary p1 (dd + 1) in let s1 = size-unary p1 0 in let q0 = ap reach (found.expr_bodies-Unary op x dd) in omega arith
  reach-unary (unary-before {op = op} {x = x} p0 p1 p2) dd = let e1 = reach-left p1 (dd + 1) in let s1 = size-left p1 0 in let q0 = ap reach (found.expr_bodies-StepBefore op x dd) in omega arith
  reach-unary (unary-after {op = op} {x = x} p0 p1 p2 p3) dd = let e0 = reach-left p0 (dd + 1) in let s0 = size-left p0 0 in let q0 = ap reach (found.expr_bodies-StepAfter x op dd) in omega arith
  reach-unary (unary-left {x = x} p0) dd = let e0 = reach-left p0 dd in let s0 = size-left p0 0 in omega arith

  pub reach-left : {i0 : Expr} {i1 : ℕ} {a b : Tokens} → SpLeft i0 i1 a b → (dd : ℕ) → reach (expr_bodies i0 dd) + 1 + length b ≤ dd + length a
  reach-left (left-made {x = x} p0) dd = let e0 = reach-made p0 dd in let s0 = size-made p0 0 in omega arith
  reach-left (left-suffixes {x = x} {y = y} {ys = ys} p0 p1) dd = let e0 = reach-made p0 (dd + 1) in let s0 = size-made p0 0 in let e1 = reach-suffixes p1 (dd + 1) in let s1 = size-suffixes p1 0 in let q0 = ap reach (found.expr_bodies-Left x (y ∷ ys) dd) in let w00 = reach-append (expr_bodies x (dd + 1)) (all (map suffix_bodies (y ∷ ys)) (dd + 1)) in omega arith

  pub reach-made : {i0 : Expr} {i1 : ℕ} {a b : Tokens} → SpMade i0 i1 a b → (dd : ℕ) → reach (expr_bodies i0 dd) + 1 + length b ≤ dd + length a
  reach-made (made-primary {x = x} p0) dd = let e0 = reach-primary p0 dd in let s0 = size-primary p0 0 in omega arith
  reach-made (made-new {x = x} {xs = xs} {zs = zs} p0 p1 p2 p3) dd = let e1 = reach-made p1 (dd + 1) in let s1 = size-made p1 0 in let e2 = reach-member_suffixes p2 (dd + 1) in let s2 = size-member_suffixes p2 0 in let e3 = reach-args p3 (dd + 1) in let s3 = size-args p3 0 in let q0 = ap reach (found.expr_bodies-New x xs (Some zs) dd) in let w00 = reach-append (expr_bodies x (dd + 1)) (all (map suffix_bodies xs) (dd + 1) ++ (or_none arguments_bodies (Some zs) (dd + 1))) in let w01 = reach-append (all (map suffix_bodies xs) (dd + 1)) (or_none arguments_bodies (Some zs) (dd + 1)) in omega arith
  reach-made (made-new_bare {x = x} {xs = xs} p0 p1 p2 p3) dd = let e1 = reach-made p1 (dd + 1) in let s1 = size-made p1 0 in let e2 = reach-member_suffixes p2 (dd + 1) in let s2 = size-member_suffixes p2 0 in let q0 = ap reach (found.expr_bodies-New x xs None dd) in let w00 = reach-append (expr_bodies x (dd + 1)) (all (map suffix_bodies xs) (dd + 1) ++ (or_none arguments_bodies None (dd + 1))) in let w01 = reach-append (all (map suffix_bodies xs) (dd + 1)) (or_none arguments_bodies None (dd + 1)) in omega arith

  pub reach-suffixes : {i0 : List Suffix} {i1 : ℕ} {a b : Tokens} → SpSuffixes i0 i1 a b → (dd : ℕ) → reach (all (map suffix_bodies i0) dd) + min 1 (length i0) + length b ≤ dd + length a
  reach-suffixes suffixes-none dd = omega arith
  reach-suffixes (suffixes-more {x = x} {xs = xs} p0 p1) dd = let e0 = reach-suffix p0 dd in let s0 = size-suffix p0 0 in let e1 = reach-suffixes p1 dd in let s1 = size-suffixes p1 0 in let l = reach-append (suffix_bodies x dd) (all (map suffix_bodies xs) dd) in omega arith

  pub reach-member_suffixes : {i0 : List Suffix} {i1 : ℕ} {a b : Tokens} → SpMemberSuffixes i0 i1 a b → (dd : ℕ) → reach (all (map suffix_bodies i0) dd) + min 1 (length i0) + length b ≤ dd + length a
  reach-member_suffixes member_suffixes-none dd = omega arith
  reach-member_suffixes (member_suffixes-more {x = x} {xs = xs} p0 p1) dd = let e0 = reach-member_suffix p0 dd in let s0 = size-member_suffix p0 0 in let e1 = reach-member_suffixes p1 dd in let s1 = size-member_suffixes p1 0 in let l = reach-append (suffix_bodies x dd) (all (map suffix_bodies xs) dd) in omega arith

  pub reach-suffix : {i0 : Suffix} {i1 : ℕ} {a b : Tokens} → SpSuffix i0 i1 a b → (dd : ℕ) → reach (suffix_bodies i0 dd) + 1 + length b ≤ dd + length a
  reach-suffix (suffix-member {x = x} p0) dd = let e0 = reach-member_suffix p0 dd in let s0 = size-member_suffix p0 0 in omega arith
  reach-suffix (suffix-call {xs = xs} p0) dd = let e0 = reach-args p0 dd in let s0 = size-args p0 0 in let q0 = ap reach (found.suffix_bodies-Call false xs dd) in omega arith
  reach-suffix (suffix-optional_name {u = u} p0 p1) dd = let e1 = shorter (past-word p1) in let q0 = ap reach (found.suffix_bodies-Member true u dd) in omega arith
  reach-suffix (suffix-optional_index {x = x} p0 p1) dd = let e1 = reach-index p1 dd in let s1 = size-index p1 0 in let q0 = ap reach (found.suffix_bodies-Index true x dd) in omega arith
  reach-suffix (suffix-optional_call {xs = xs} p0 p1) dd = let e1 = reach-args p1 dd in let s1 = size-args p1 0 in let q0 = ap reach (found.suffix_bodies-Call true xs dd) in omega arith

  pub reach-member_suffix : {i0 : Suffix} {i1 : ℕ} {a b : Tokens} → SpMemberSuffix i0 i1 a b → (dd : ℕ) → reach (suffix_bodies i0 dd) + 1 + length b ≤ dd + length a
  reach-member_suffix (member_suffix-name {u = u} p0 p1) dd = let e1 = shorter (past-word p1) in let q0 = ap reach (found.suffix_bodies-Member false u dd) in omega arith
  reach-member_suffix (member_suffix-index {x = x} p0) dd = let e0 = reach-index p0 dd in let s0 = size-index p0 0 in let q0 = ap reach (found.suffix_bodies-Index false x dd) in omega arith

  pub reach-index : {i0 : Expr} {i1 : ℕ} {a b : Tokens} → SpIndex i0 i1 a b → (dd : ℕ) → reach (expr_bodies i0 dd) + 1 + length b ≤ dd + length a
  reach-index (index {x = x} p0 p1 p2) dd = let e1 = reach-expr p1 dd in let s1 = size-expr p1 0 in omega arith

  pub reach-args : {i0 : List Argument} {i1 : ℕ} {a b : Tokens} → SpArgs i0 i1 a b → (dd : ℕ) → reach (all (map argument_bodies i0) dd) + 1 + length b ≤ dd + length a
  reach-args (args {xs = xs} p0 p1 p2) dd = let e1 = reach-arguments p1 dd in let s1 = size-arguments p1 0 in omega arith

  pub reach-arguments : {i0 : Bracket} {i1 : List Argument} {i2 : ℕ} {a b : Tokens} → SpArguments i0 i1 i2 a b → (dd : ℕ) → reach (all (map argument_bodies i1) dd) + min 1 (length i1) + length b ≤ dd + length a
  reach-arguments arguments-none dd = omega arith
  reach-arguments (arguments-last {x = x} p0 p1) dd = let e0 = reach-argument p0 dd in let s0 = size-argument p0 0 in let l = reach-append (argument_bodies x dd) (all (map argument_bodies []) dd) in omega arith
  reach-arguments (arguments-more {x = x} {xs = xs} p0 p1 p2) dd = let e0 = reach-argument p0 dd in let s0 = size-argument p0 0 in let e2 = reach-arguments p2 dd in let s2 = size-arguments p2 0 in let l = reach-append (argument_bodies x dd) (all (map argument_bodies xs) dd) in omega arith

  pub reach-argument : {i0 : Argument} {i1 : ℕ} {a b : Tokens} → SpArgument i0 i1 a b → (dd : ℕ) → reach (argument_bodies i0 dd) + 1 + length b ≤ dd + length a
  reach-argument (argument-one {x = x} p0) dd = let e0 = reach-assign p0 dd in let s0 = size-assign p0 0 in let q0 = ap reach (found.argument_bodies-One x dd) in omega arith
  reach-argument (argument-spread {x = x} p0 p1) dd = let e1 = reach-assign p1 dd in let s1 = size-assign p1 0 in let q0 = ap reach (found.argument_bodies-Spread x dd) in omega arith

  pub reach-primary : {i0 : Expr} {i1 : ℕ} {a b : Tokens} → SpPrimary i0 i1 a b → (dd : ℕ) → reach (expr_bodies i0 dd) + 1 + length b ≤ dd + length a
  reach-primary (primary-name {n = n} p0 p1) dd = let q0 = ap reach (found.expr_bodies-Name n dd) in omega arith
  reach-primary (primary-number {n = n} p0) dd = let q0 = ap reach (found.expr_bodies-Number n dd) in omega arith
  reach-primary (primary-text {u = u} p0) dd = let q0 = ap reach (found.expr_bodies-Text u dd) in omega arith
  reach-primary (primary-true p0) dd = let q0 = ap reach (found.expr_bodies-Bool true dd) in omega arith
  reach-primary (primary-false p0) dd = let q0 = ap reach (found.expr_bodies-Bool false dd) in omega arith
  reach-primary (primary-null p0) dd = let q0 = ap reach (found.expr_bodies-Null dd) in omega arith
  reach-primary (primary-this p0) dd = let q0 = ap reach (found.expr_bodies-This dd) in omega arith
  reach-primary (primary-template {u = u} p0) dd = let q0 = ap reach (found.expr_bodies-Template u [] dd) in omega arith
  reach-primary (primary-template_of {u = u} {x = x} {xs = xs} p0 p1) dd = let e1 = reach-pieces p1 (dd + 1) in let s1 = size-pieces p1 0 in let q0 = ap reach (found.expr_bodies-Template u (x ∷ xs) dd) in omega arith
  reach-primary (primary-brackets {x = x} p0 p1 p2) dd = let e1 = reach-expr p1 (dd + 1) in let s1 = size-expr p1 0 in let q0 = ap reach (found.expr_bodies-Brackets x dd) in omega arith
  reach-primary (primary-array {xs = xs} p0 p1 p2) dd = let e1 = reach-arguments p1 (dd + 1) in let s1 = size-arguments p1 0 in let q0 = ap reach (found.expr_bodies-Array xs dd) in omega arith
  reach-primary (primary-object {xs = xs} p0 p1 p2) dd = let e1 = reach-entries p1 (dd + 1) in let s1 = size-entries p1 0 in let q0 = ap reach (found.expr_bodies-Object xs dd) in omega arith
  reach-primary (primary-super_call {xs = xs} p0 p1) dd = let e1 = reach-args p1 (dd + 1) in let s1 = size-args p1 0 in let q0 = ap reach (found.expr_bodies-SuperCall xs dd) in omega arith
  reach-primary (primary-super_member {n = n} p0 p1 p2) dd = let e2 = shorter (past-word p2) in let q0 = ap reach (found.expr_bodies-SuperMember n dd) in omega arith
  reach-primary (primary-function {f = f} p0) dd = let e0 = reach-function p0 dd in let s0 = size-function p0 0 in let q0 = ap reach (found.expr_bodies-Function f dd) in omega arith
  reach-primary (primary-class {c = c} p0) dd = let e0 = reach-class p0 dd in let s0 = size-class p0 0 in let q0 = ap reach (found.expr_bodies-Class c dd) in omega arith

  pub reach-pieces : {i0 : List Piece} {i1 : ℕ} {a b : Tokens} → SpPieces i0 i1 a b → (dd : ℕ) → reach (all (map piece_bodies i0) dd) + min 1 (length i0) + length b ≤ dd + length a
  reach-pieces (pieces-last {x = x} {u = u} p0 p1) dd = let e0 = reach-expr p0 dd in let s0 = size-expr p0 0 in let q0 = ap reach (found.piece_bodies-Piece x u dd) in let l = reach-append (piece_bodies (piece_of x u) dd) (all (map piece_bodies []) dd) in omega arith
  reach-pieces (pieces-more {x = x} {u = u} {xs = xs} p0 p1 p2) dd = let e0 = reach-expr p0 dd in let s0 = size-expr p0 0 in let e2 = reach-pieces p2 dd in let s2 = size-pieces p2 0 in let q0 = ap reach (found.piece_bodies-Piece x u dd) in let l = reach-append (piece_bodies (piece_of x u) dd) (all (map piece_bodies xs) dd) in omega arith

  pub reach-entries : {i0 : List Entry} {i1 : ℕ} {a b : Tokens} → SpEntries i0 i1 a b → (dd : ℕ) → reach (all (map entry_bodies i0) dd) + min 1 (length i0) + length b ≤ dd + length a
  reach-entries entries-none dd = omega arith
  reach-entries (entries-last {x = x} p0 p1) dd = let e0 = reach-entry p0 dd in let s0 = size-entry p0 0 in let l = reach-append (entry_bodies x dd) (all (map entry_bodies []) dd) in omega arith
  reach-entries (entries-more {x = x} {xs = xs} p0 p1 p2) dd = let e0 = reach-entry p0 dd in let s0 = size-entry p0 0 in let e2 = reach-entries p2 dd in let s2 = size-entries p2 0 in let l = reach-append (entry_bodies x dd) (all (map entry_bodies xs) dd) in omega arith

  pub reach-entry : {i0 : Entry} {i1 : ℕ} {a b : Tokens} → SpEntry i0 i1 a b → (dd : ℕ) → reach (entry_bodies i0 dd) + 1 + length b ≤ dd + length a
  reach-entry (entry-spread {x = x} p0 p1) dd = let e1 = reach-assign p1 dd in let s1 = size-assign p1 0 in let q0 = ap reach (found.entry_bodies-Spread x dd) in omega arith
  reach-entry (entry-name {n = n} p0 p1) dd = let q0 = ap reach (found.entry_bodies-Shorthand n dd) in omega arith
  reach-entry (entry-pair {w = w} {x = x} p0 p1 p2 p3 p4) dd = let e2 = reach-key p2 dd in let s2 = size-key p2 0 in let e4 = reach-assign p4 dd in let s4 = size-assign p4 0 in let q0 = ap reach (found.entry_bodies-Pair w x dd) in let w00 = reach-append (key_bodies w dd) (expr_bodies x dd) in omega arith
  reach-entry (entry-method {x = x} p0 p1) dd = let e1 = reach-method p1 dd in let s1 = size-method p1 0 in let q0 = ap reach (found.entry_bodies-Method x dd) in omega arith

  pub reach-key : {i0 : Key} {i1 : ℕ} {a b : Tokens} → SpKey i0 i1 a b → (dd : ℕ) → reach (key_bodies i0 dd) + 1 + length b ≤ dd + length a
  reach-key (key-literal {w = w} p0) dd = let e0 = reach-literal p0 dd in let s0 = size-literal p0 0 in omega arith
  reach-key (key-computed {x = x} p0 p1 p2) dd = let e1 = reach-assign p1 dd in let s1 = size-assign p1 0 in let q0 = ap reach (found.key_bodies-Computed x dd) in omega arith
