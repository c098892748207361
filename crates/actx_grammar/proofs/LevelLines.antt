-- The levels that a spelling counts are those of its tree: a table over the grammar.
use Rattle.std.proofs.Common.{◌≡◌, ℕ, Bool, true, false, List, [], ◌∷◌, map, Option, Some, None, arith}
use Rattle.actx_tree.specs.declared.expr.Expr.{Expr}
use Rattle.actx_tree.specs.declared.expr.Piece.{Piece}
use Rattle.actx_tree.specs.declared.expr.Argument.{Argument}
use Rattle.actx_tree.specs.declared.expr.Entry.{Entry}
use Rattle.actx_tree.specs.declared.expr.Key.{Key}
use Rattle.actx_tree.specs.declared.expr.Suffix.{Suffix}
use Rattle.actx_tree.specs.declared.expr.Operand.{Operand}
use Rattle.actx_tree.specs.declared.function.Function.{Function}
use Rattle.actx_tree.specs.declared.function.Method.{Method}
use Rattle.actx_tree.specs.declared.function.Class.{Class}
use Rattle.actx_tree.specs.declared.function.Member.{Member}
use Rattle.actx_tree.specs.declared.pattern.Target.{Target}
use Rattle.actx_tree.specs.declared.pattern.Prop.{Prop}
use Rattle.actx_tree.specs.declared.pattern.Elem.{Elem}
use Rattle.actx_tree.specs.declared.pattern.Params.{Params}
use Rattle.actx_grammar.specs.declared.bracket.Bracket.{Bracket}
use Rattle.actx_tree.specs.declared.pattern.Target.TheVariants as target
use Rattle.actx_tree.specs.Parts.{elem_of}
use Rattle.actx_tree.specs.Levels.{highest, or_zero, expr_levels, piece_levels, argument_levels, entry_levels, key_levels, suffix_levels, operand_levels, function_levels, method_levels, class_levels, member_levels, target_levels, prop_levels, elem_levels, params_levels}
use Rattle.actx_tree.proofs.LevelEquations as level
use Rattle.actx_grammar.specs.Tokens.{Tokens}
use Rattle.actx_grammar.specs.Grammar.{SpLiteral, literal-word, literal-text, literal-number, SpTarget, target-name, target-object, target-object_rest, target-array, target-array_rest, SpProps, props-none, props-last, props-more, SpProp, prop-name, prop-pair, SpElems, elems-none, elems-last, elems-more, SpElem, elem, SpDefault, default-none, default-some, SpParams, params, SpRestTarget, rest-none, rest-some, SpFunction, function, SpMethod, method, SpClass, class-base, class-derived, SpMembers, members-none, members-semicolon, members-more, SpMember, member-static, member-plain, SpExpr, expr-one, expr-comma, SpCommas, commas-none, commas-more, SpAssign, assign-cond, assign-place, assign-yield, assign-yield_of, assign-arrow, assign-arrow_block, SpArrowHead, arrow_head-plain, arrow_head-async, SpArrowParams, arrow_params-name, arrow_params-list, SpCond, cond-one, cond-test, SpShort, short-or, short-coalesce, SpLevel, level-unary, level-one, level-chain, SpOperands, operands-none, operands-more, SpUnary, unary-op, unary-before, unary-after, unary-left, SpLeft, left-made, left-suffixes, SpMade, made-primary, made-new, made-new_bare, SpSuffixes, suffixes-none, suffixes-more, SpMemberSuffixes, member_suffixes-none, member_suffixes-more, SpSuffix, suffix-member, suffix-call, suffix-optional_name, suffix-optional_index, suffix-optional_call, SpMemberSuffix, member_suffix-name, member_suffix-index, SpIndex, index, SpArgs, args, SpArguments, arguments-none, arguments-last, arguments-more, SpArgument, argument-one, argument-spread, SpPrimary, primary-name, primary-number, primary-text, primary-true, primary-false, primary-null, primary-this, primary-template, primary-template_of, primary-brackets, primary-array, primary-object, primary-super_call, primary-super_member, primary-function, primary-class, SpPieces, pieces-last, pieces-more, SpEntries, entries-none, entries-last, entries-more, SpEntry, entry-spread, entry-name, entry-pair, entry-method, SpKey, key-literal, key-computed}

levels-literal : {i0 : Key} {a b : Tokens} → SpLiteral i0 a b → key_levels i0 ≡ 0
levels-literal (literal-word {u = u} p0) = let z0 = level.key_levels-Word u in omega arith
levels-literal (literal-text {u = u} p0) = let z0 = level.key_levels-Text u in omega arith
levels-literal (literal-number {n = n} p0) = let z0 = level.key_levels-Number n in omega arith

mutual
  pub levels-target : {i0 : Target} {i1 : ℕ} {a b : Tokens} → SpTarget i0 i1 a b → target_levels i0 ≡ i1
  levels-target (target-name {n = n} p0) = let z0 = level.target_levels-Name n in omega arith
  levels-target (target-object {x = x} {xs = xs} {r = r} p0 p1 p2) = let e1 = levels-props p1 in let z0 = level.target_levels-Object (x ∷ xs) r in omega arith
  levels-target (target-object_rest {n = n} p0 p1) = let z0 = level.target_levels-Object [] (Some n) in omega arith
  levels-target (target-array {x = x} {xs = xs} {r = r} p0 p1 p2) = let e1 = levels-elems p1 in let z0 = level.target_levels-Array (x ∷ xs) r in omega arith
  levels-target (target-array_rest {n = n} p0 p1) = let z0 = level.target_levels-Array [] (Some n) in omega arith

  pub levels-props : {i0 : List Prop} {i1 : ℕ} {a b : Tokens} → SpProps i0 i1 a b → highest (map prop_levels i0) ≡ i1
  levels-props props-none = omega arith
  levels-props (props-last {x = x} p0 p1) = let e0 = levels-prop p0 in omega arith
  levels-props (props-more {x = x} {xs = xs} p0 p1 p2) = let e0 = levels-prop p0 in let e2 = levels-props p2 in omega arith

  pub levels-prop : {i0 : Prop} {i1 : ℕ} {a b : Tokens} → SpProp i0 i1 a b → prop_levels i0 ≡ i1
  levels-prop (prop-name {n = n} {d = d} p0 p1) = let e1 = levels-default p1 in let z0 = level.prop_levels-Shorthand n d in omega arith
  levels-prop (prop-pair {w = w} {x = x} p0 p1 p2) = let e0 = levels-literal p0 in let e2 = levels-elem p2 in let z0 = level.prop_levels-Pair w x in omega arith

  pub levels-elems : {i0 : Bracket} {i1 : List Elem} {i2 : ℕ} {a b : Tokens} → SpElems i0 i1 i2 a b → highest (map elem_levels i1) ≡ i2
  levels-elems elems-none = omega arith
  levels-elems (elems-last {x = x} p0 p1) = let e0 = levels-elem p0 in omega arith
  levels-elems (elems-more {x = x} {xs = xs} p0 p1 p2) = let e0 = levels-elem p0 in let e2 = levels-elems p2 in omega arith

  pub levels-elem : {i0 : Elem} {i1 : ℕ} {a b : Tokens} → SpElem i0 i1 a b → elem_levels i0 ≡ i1
  levels-elem (elem {x = x} {d = d} p0 p1) = let e0 = levels-target p0 in let e1 = levels-default p1 in let z0 = level.elem_levels-Elem x d in omega arith

  pub levels-default : {i0 : Option Expr} {i1 : ℕ} {a b : Tokens} → SpDefault i0 i1 a b → or_zero expr_levels i0 ≡ i1
  levels-default default-none = omega arith
  levels-default (default-some {x = x} p0 p1) = let e1 = levels-assign p1 in omega arith

  pub levels-params : {i0 : Params} {i1 : ℕ} {a b : Tokens} → SpParams i0 i1 a b → params_levels i0 ≡ i1
  levels-params (params {xs = xs} {r = r} p0 p1 p2) = let e1 = levels-elems p1 in let e2 = levels-rest_target p2 in let z0 = level.params_levels-Params xs r in omega arith

  pub levels-rest_target : {i0 : Option Target} {i1 : ℕ} {a b : Tokens} → SpRestTarget i0 i1 a b → or_zero target_levels i0 ≡ i1
  levels-rest_target (rest-none p0) = omega arith
  levels-rest_target (rest-some {x = x} p0 p1 p2) = let e1 = levels-target p1 in omega arith

  pub levels-function : {i0 : Function} {i1 : ℕ} {a b : Tokens} → SpFunction i0 i1 a b → function_levels i0 ≡ i1
  levels-function (function {f = f} {n = n} {ps = ps} {r = r} p0 p1 p2 p3) = let e2 = levels-params p2 in let z0 = level.function_levels-Function f n ps r in omega arith

  pub levels-method : {i0 : Method} {i1 : ℕ} {a b : Tokens} → SpMethod i0 i1 a b → method_levels i0 ≡ i1
  levels-method (method {f = f} {w = w} {ps = ps} {r = r} p0 p1 p2 p3) = let e1 = levels-key p1 in let e2 = levels-params p2 in let z0 = level.method_levels-Method f w ps r in omega arith

  pub levels-class : {i0 : Class} {i1 : ℕ} {a b : Tokens} → SpClass i0 i1 a b → class_levels i0 ≡ i1
  levels-class (class-base {n = n} {xs = xs} p0 p1 p2 p3 p4) = let e3 = levels-members p3 in let z0 = level.class_levels-Class n None xs in omega arith
  levels-class (class-derived {n = n} {x = x} {xs = xs} p0 p1 p2 p3 p4 p5 p6) = let e3 = levels-left p3 in let e5 = levels-members p5 in let z0 = level.class_levels-Class n (Some x) xs in omega arith

  pub levels-members : {i0 : List Member} {i1 : ℕ} {a b : Tokens} → SpMembers i0 i1 a b → highest (map member_levels i0) ≡ i1
  levels-members members-none = omega arith
  levels-members (members-semicolon {xs = xs} p0 p1) = let e1 = levels-members p1 in omega arith
  levels-members (members-more {x = x} {xs = xs} p0 p1) = let e0 = levels-member p0 in let e1 = levels-members p1 in omega arith

  pub levels-member : {i0 : Member} {i1 : ℕ} {a b : Tokens} → SpMember i0 i1 a b → member_levels i0 ≡ i1
  levels-member (member-static {x = x} p0 p1 p2) = let e1 = levels-method p1 in let z0 = level.member_levels-Member true x in omega arith
  levels-member (member-plain {x = x} p0 p1 p2) = let e1 = levels-method p1 in let z0 = level.member_levels-Member false x in omega arith

  pub levels-expr : {i0 : Expr} {i1 : ℕ} {a b : Tokens} → SpExpr i0 i1 a b → expr_levels i0 ≡ i1
  levels-expr (expr-one {x = x} p0) = let e0 = levels-assign p0 in omega arith
  levels-expr (expr-comma {x = x} {y = y} {ys = ys} p0 p1) = let e0 = levels-assign p0 in let e1 = levels-commas p1 in let z0 = level.expr_levels-Comma x (y ∷ ys) in omega arith

  pub levels-commas : {i0 : List Expr} {i1 : ℕ} {a b : Tokens} → SpCommas i0 i1 a b → highest (map expr_levels i0) ≡ i1
  levels-commas commas-none = omega arith
  levels-commas (commas-more {x = x} {xs = xs} p0 p1 p2) = let e1 = levels-assign p1 in let e2 = levels-commas p2 in omega arith

  pub levels-assign : {i0 : Expr} {i1 : ℕ} {a b : Tokens} → SpAssign i0 i1 a b → expr_levels i0 ≡ i1
  levels-assign (assign-cond {x = x} p0 p1) = let e1 = levels-cond p1 in omega arith
  levels-assign (assign-place {op = op} {x = x} {y = y} p0 p1 p2 p3 p4) = let e1 = levels-left p1 in let e4 = levels-assign p4 in let z0 = level.expr_levels-Assign x op y in omega arith
  levels-assign (assign-yield p0 p1) = let z0 = level.expr_levels-Yield None in omega arith
  levels-assign (assign-yield_of {x = x} p0 p1 p2) = let e2 = levels-assign p2 in let z0 = level.expr_levels-Yield (Some x) in omega arith
  levels-assign (assign-arrow {async = async} {ps = ps} {y = y} p0 p1 p2 p3 p4 p5) = let e1 = levels-arrow_head p1 in let e5 = levels-assign p5 in let z0 = level.expr_levels-Arrow async ps y in omega arith
  levels-assign (assign-arrow_block {async = async} {ps = ps} {r = r} p0 p1 p2 p3 p4) = let e1 = levels-arrow_head p1 in let z0 = level.expr_levels-ArrowBlock async ps r in omega arith

  pub levels-arrow_head : {i0 : Bool} {i1 : Params} {i2 : ℕ} {a b : Tokens} → SpArrowHead i0 i1 i2 a b → params_levels i1 ≡ i2
  levels-arrow_head (arrow_head-plain {ps = ps} p0) = let e0 = levels-arrow_params p0 in omega arith
  levels-arrow_head (arrow_head-async {ps = ps} p0 p1 p2) = let e2 = levels-arrow_params p2 in omega arith

  pub levels-arrow_params : {i0 : Params} {i1 : ℕ} {a b : Tokens} → SpArrowParams i0 i1 a b → params_levels i0 ≡ i1
  levels-arrow_params (arrow_params-name {n = n} p0) = let z0 = level.params_levels-Params (elem_of (target.Name n) None ∷ []) None in let z1 = level.elem_levels-Elem (target.Name n) None in let z2 = level.target_levels-Name n in omega arith
  levels-arrow_params (arrow_params-list {ps = ps} p0) = let e0 = levels-params p0 in omega arith

  pub levels-cond : {i0 : Expr} {i1 : ℕ} {a b : Tokens} → SpCond i0 i1 a b → expr_levels i0 ≡ i1
  levels-cond (cond-one {x = x} p0) = let e0 = levels-short p0 in omega arith
  levels-cond (cond-test {x = x} {y = y} {z = z} p0 p1 p2 p3 p4) = let e0 = levels-short p0 in let e2 = levels-assign p2 in let e4 = levels-assign p4 in let z0 = level.expr_levels-Conditional x y z in omega arith

  pub levels-short : {i0 : Expr} {i1 : ℕ} {a b : Tokens} → SpShort i0 i1 a b → expr_levels i0 ≡ i1
  levels-short (short-or {x = x} p0) = let e0 = levels-level p0 in omega arith
  levels-short (short-coalesce {x = x} {y = y} {ys = ys} p0 p1) = let e0 = levels-level p0 in let e1 = levels-operands p1 in let z0 = level.expr_levels-Chain x (y ∷ ys) in omega arith

  pub levels-level : {i0 : ℕ} {i1 : Expr} {i2 : ℕ} {a b : Tokens} → SpLevel i0 i1 i2 a b → expr_levels i1 ≡ i2
  levels-level (level-unary {x = x} p0) = let e0 = levels-unary p0 in omega arith
  levels-level (level-one {x = x} p0) = let e0 = levels-level p0 in omega arith
  levels-level (level-chain {x = x} {y = y} {ys = ys} p0 p1) = let e0 = levels-level p0 in let e1 = levels-operands p1 in let z0 = level.expr_levels-Chain x (y ∷ ys) in omega arith

  pub levels-operands : {i0 : ℕ} {i1 : ℕ} {i2 : List Operand} {i3 : ℕ} {a b : Tokens} → SpOperands i0 i1 i2 i3 a b → highest (map operand_levels i2) ≡ i3
  levels-operands operands-none = omega arith
  levels-operands (operands-more {op = op} {x = x} {xs = xs} p0 p1 p2 p3) = let e2 = levels-level p2 in let e3 = levels-operands p3 in let z0 = level.operand_levels-Operand op x in omega arith

  pub levels-unary : {i0 : Expr} {i1 : ℕ} {a b : Tokens} → SpUnary i0 i1 a b → expr_levels i0 ≡ i1
  levels-unary (unary-op {op = op} {x = x} p0 p1) = let e1 = levels-unary p1 in let z0 = level.expr_levels-Unary op x in omega arith
  levels-unary (unary-before {op = op} {x = x} p0 p1 p2) = let e1 = levels-left p1 in let z0 = level.expr_levels-StepBefore op x in omega arith
  levels-unary (unary-after {op = op} {x = x} p0 p1 p2 p3) = let e0 = levels-left p0 in let z0 = level.expr_levels-StepAfter x op in omega arith
  levels-unary (unary-left {x = x} p0) = let e0 = levels-left p0 in omega arith

  pub levels-left : {i0 : Expr} {i1 : ℕ} {a b : Tokens} → SpLeft i0 i1 a b → expr_levels i0 ≡ i1
  levels-left (left-made {x = x} p0) = let e0 = levels-made p0 in omega arith
  levels-left (left-suffixes {x = x} {y = y} {ys = ys} p0 p1) = let e0 = levels-made p0 in let e1 = levels-suffixes p1 in let z0 = level.expr_levels-Left x (y ∷ ys) in omega arith

  pub levels-made : {i0 : Expr} {i1 : ℕ} {a b : Tokens} → SpMade i0 i1 a b → expr_levels i0 ≡ i1
  levels-made (made-primary {x = x} p0) = let e0 = levels-primary p0 in omega arith
  levels-made (made-new {x = x} {xs = xs} {zs = zs} p0 p1 p2 p3) = let e1 = levels-made p1 in let e2 = levels-member_suffixes p2 in let e3 = levels-args p3 in let z0 = level.expr_levels-New x xs (Some zs) in omega arith
  levels-made (made-new_bare {x = x} {xs = xs} p0 p1 p2 p3) = let e1 = levels-made p1 in let e2 = levels-member_suffixes p2 in let z0 = level.expr_levels-New x xs None in omega arith

  pub levels-suffixes : {i0 : List Suffix} {i1 : ℕ} {a b : Tokens} → SpSuffixes i0 i1 a b → highest (map suffix_levels i0) ≡ i1
  levels-suffixes suffixes-none = omega arith
  levels-suffixes (suffixes-more {x = x} {xs = xs} p0 p1) = let e0 = levels-suffix p0 in let e1 = levels-suffixes p1 in omega arith

  pub levels-member_suffixes : {i0 : List Suffix} {i1 : ℕ} {a b : Tokens} → SpMemberSuffixes i0 i1 a b → highest (map suffix_levels i0) ≡ i1
  levels-member_suffixes member_suffixes-none = omega arith
  levels-member_suffixes (member_suffixes-more {x = x} {xs = xs} p0 p1) = let e0 = levels-member_suffix p0 in let e1 = levels-member_suffixes p1 in omega arith

  pub levels-suffix : {i0 : Suffix} {i1 : ℕ} {a b : Tokens} → SpSuffix i0 i1 a b → suffix_levels i0 ≡ i1
  levels-suffix (suffix-member {x = x} p0) = let e0 = levels-member_suffix p0 in omega arith
  levels-suffix (suffix-call {xs = xs} p0) = let e0 = levels-args p0 in let z0 = level.suffix_levels-Call false xs in omega arith
  levels-suffix (suffix-optional_name {u = u} p0 p1) = let z0 = level.suffix_levels-Member true u in omega arith
  levels-suffix (suffix-optional_index {x = x} p0 p1) = let e1 = levels-index p1 in let z0 = level.suffix_levels-Index true x in omega arith
  levels-suffix (suffix-optional_call {xs = xs} p0 p1) = let e1 = levels-args p1 in let z0 = level.suffix_levels-Call true xs in omega arith

  pub levels-member_suffix : {i0 : Suffix} {i1 : ℕ} {a b : Tokens} → SpMemberSuffix i0 i1 a b → suffix_levels i0 ≡ i1
  levels-member_suffix (member_suffix-name {u = u} p0 p1) = let z0 = level.suffix_levels-Member false u in omega arith
  levels-member_suffix (member_suffix-index {x = x} p0) = let e0 = levels-index p0 in let z0 = level.suffix_levels-Index false x in omega arith

  pub levels-index : {i0 : Expr} {i1 : ℕ} {a b : Tokens} → SpIndex i0 i1 a b → expr_levels i0 ≡ i1
  levels-index (index {x = x} p0 p1 p2) = let e1 = levels-expr p1 in omega arith

  pub levels-args : {i0 : List Argument} {i1 : ℕ} {a b : Tokens} → SpArgs i0 i1 a b → highest (map argument_levels i0) ≡ i1
  levels-args (args {xs = xs} p0 p1 p2) = let e1 = levels-arguments p1 in omega arith

  pub levels-arguments : {i0 : Bracket} {i1 : List Argument} {i2 : ℕ} {a b : Tokens} → SpArguments i0 i1 i2 a b → highest (map argument_levels i1) ≡ i2
  levels-arguments arguments-none = omega arith
  levels-arguments (arguments-last {x = x} p0 p1) = let e0 = levels-argument p0 in omega arith
  levels-arguments (arguments-more {x = x} {xs = xs} p0 p1 p2) = let e0 = levels-argument p0 in let e2 = levels-arguments p2 in omega arith

  pub levels-argument : {i0 : Argument} {i1 : ℕ} {a b : Tokens} → SpArgument i0 i1 a b → argument_levels i0 ≡ i1
  levels-argument (argument-one {x = x} p0) = let e0 = levels-assign p0 in let z0 = level.argument_levels-One x in omega arith
  levels-argument (argument-spread {x = x} p0 p1) = let e1 = levels-assign p1 in let z0 = level.argument_levels-Spread x in omega arith

  pub levels-primary : {i0 : Expr} {i1 : ℕ} {a b : Tokens} → SpPrimary i0 i1 a b → expr_levels i0 ≡ i1
  levels-primary (primary-name {n = n} p0 p1) = let z0 = level.expr_levels-Name n in omega arith
  levels-primary (primary-number {n = n} p0) = let z0 = level.expr_levels-Number n in omega arith
  levels-primary (primary-text {u = u} p0) = let z0 = level.expr_levels-Text u in omega arith
  levels-primary (primary-true p0) = let z0 = level.expr_levels-Bool true in omega arith
  levels-primary (primary-false p0) = let z0 = level.expr_levels-Bool false in omega arith
  levels-primary (primary-null p0) = let z0 = level.expr_levels-Null in omega arith
  levels-primary (primary-this p0) = let z0 = level.expr_levels-This in omega arith
  levels-primary (primary-template {u = u} p0) = let z0 = level.expr_levels-Template u [] in omega arith
  levels-primary (primary-template_of {u = u} {x = x} {xs = xs} p0 p1) = let e1 = levels-pieces p1 in let z0 = level.expr_levels-Template u (x ∷ xs) in omega arith
  levels-primary (primary-brackets {x = x} p0 p1 p2) = let e1 = levels-expr p1 in let z0 = level.expr_levels-Brackets x in omega arith
  levels-primary (primary-array {xs = xs} p0 p1 p2) = let e1 = levels-arguments p1 in let z0 = level.expr_levels-Array xs in omega arith
  levels-primary (primary-object {xs = xs} p0 p1 p2) = let e1 = levels-entries p1 in let z0 = level.expr_levels-Object xs in omega arith
  levels-primary (primary-super_call {xs = xs} p0 p1) = let e1 = levels-args p1 in let z0 = level.expr_levels-SuperCall xs in omega arith
  levels-primary (primary-super_member {n = n} p0 p1 p2) = let z0 = level.expr_levels-SuperMember n in omega arith
  levels-primary (primary-function {f = f} p0) = let e0 = levels-function p0 in let z0 = level.expr_levels-Function f in omega arith
  levels-primary (primary-class {c = c} p0) = let e0 = levels-class p0 in let z0 = level.expr_levels-Class c in omega arith

  pub levels-pieces : {i0 : List Piece} {i1 : ℕ} {a b : Tokens} → SpPieces i0 i1 a b → highest (map piece_levels i0) ≡ i1
  levels-pieces (pieces-last {x = x} {u = u} p0 p1) = let e0 = levels-expr p0 in let z0 = level.piece_levels-Piece x u in omega arith
  levels-pieces (pieces-more {x = x} {u = u} {xs = xs} p0 p1 p2) = let e0 = levels-expr p0 in let e2 = levels-pieces p2 in let z0 = level.piece_levels-Piece x u in omega arith

  pub levels-entries : {i0 : List Entry} {i1 : ℕ} {a b : Tokens} → SpEntries i0 i1 a b → highest (map entry_levels i0) ≡ i1
  levels-entries entries-none = omega arith
  levels-entries (entries-last {x = x} p0 p1) = let e0 = levels-entry p0 in omega arith
  levels-entries (entries-more {x = x} {xs = xs} p0 p1 p2) = let e0 = levels-entry p0 in let e2 = levels-entries p2 in omega arith

  pub levels-entry : {i0 : Entry} {i1 : ℕ} {a b : Tokens} → SpEntry i0 i1 a b → entry_levels i0 ≡ i1
  levels-entry (entry-spread {x = x} p0 p1) = let e1 = levels-assign p1 in let z0 = level.entry_levels-Spread x in omega arith
  levels-entry (entry-name {n = n} p0 p1) = let z0 = level.entry_levels-Shorthand n in omega arith
  levels-entry (entry-pair {w = w} {x = x} p0 p1 p2 p3 p4) = let e2 = levels-key p2 in let e4 = levels-assign p4 in let z0 = level.entry_levels-Pair w x in omega arith
  levels-entry (entry-method {x = x} p0 p1) = let e1 = levels-method p1 in let z0 = level.entry_levels-Method x in omega arith

  pub levels-key : {i0 : Key} {i1 : ℕ} {a b : Tokens} → SpKey i0 i1 a b → key_levels i0 ≡ i1
  levels-key (key-literal {w = w} p0) = let e0 = levels-literal p0 in omega arith
  levels-key (key-computed {x = x} p0 p1 p2) = let e1 = levels-assign p1 in let z0 = level.key_levels-Computed x in omega arith
