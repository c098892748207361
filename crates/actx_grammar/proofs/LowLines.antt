-- A spelled tree has no more levels than tokens: a table over the grammar.
use Rattle.std.proofs.Common.{ℕ, ◌+◌, ◌≤◌, Bool, List, length, Option, arith}
use Rattle.actx_tree.specs.declared.expr.Expr.{Expr}
use Rattle.actx_tree.specs.declared.expr.Piece.{Piece}
use Rattle.actx_tree.specs.declared.expr.Argument.{Argument}
use Rattle.actx_tree.specs.declared.expr.Entry.{Entry}
use Rattle.actx_tree.specs.declared.expr.Key.{Key}
use Rattle.actx_tree.specs.declared.expr.Suffix.{Suffix}
use Rattle.actx_tree.specs.declared.expr.Operand.{Operand}
use Rattle.actx_tree.specs.declared.function.Function.{Function}
use Rattle.actx_tree.specs.declared.function.Method.{Method}
use Rattle.actx_tree.specs.declared.function.Class.{Class}
use Rattle.actx_tree.specs.declared.function.Member.{Member}
use Rattle.actx_tree.specs.declared.pattern.Target.{Target}
use Rattle.actx_tree.specs.declared.pattern.Prop.{Prop}
use Rattle.actx_tree.specs.declared.pattern.Elem.{Elem}
use Rattle.actx_tree.specs.declared.pattern.Params.{Params}
use Rattle.actx_grammar.specs.declared.bracket.Bracket.{Bracket}
use Rattle.actx_grammar.specs.Tokens.{Tokens}
use Rattle.actx_grammar.specs.Grammar.{SpTarget, target-name, target-object, target-object_rest, target-array, target-array_rest, SpProps, props-none, props-last, props-more, SpProp, prop-name, prop-pair, SpElems, elems-none, elems-last, elems-more, SpElem, elem, SpDefault, default-none, default-some, SpParams, params, SpRestTarget, rest-none, rest-some, SpFunction, function, SpMethod, method, SpClass, class-base, class-derived, SpMembers, members-none, members-semicolon, members-more, SpMember, member-static, member-plain, SpExpr, expr-one, expr-comma, SpCommas, commas-none, commas-more, SpAssign, assign-cond, assign-place, assign-yield, assign-yield_of, assign-arrow, assign-arrow_block, SpArrowHead, arrow_head-plain, arrow_head-async, SpArrowParams, arrow_params-name, arrow_params-list, SpCond, cond-one, cond-test, SpShort, short-or, short-coalesce, SpLevel, level-unary, level-one, level-chain, SpOperands, operands-none, operands-more, SpUnary, unary-op, unary-before, unary-after, unary-left, SpLeft, left-made, left-suffixes, SpMade, made-primary, made-new, made-new_bare, SpSuffixes, suffixes-none, suffixes-more, SpMemberSuffixes, member_suffixes-none, member_suffixes-more, SpSuffix, suffix-member, suffix-call, suffix-optional_name, suffix-optional_index, suffix-optional_call, SpMemberSuffix, member_suffix-name, member_suffix-index, SpIndex, index, SpArgs, args, SpArguments, arguments-none, arguments-last, arguments-more, SpArgument, argument-one, argument-spread, SpPrimary, primary-name, primary-number, primary-text, primary-true, primary-false, primary-null, primary-this, primary-template, primary-template_of, primary-brackets, primary-array, primary-object, primary-super_call, primary-super_member, primary-function, primary-class, SpPieces, pieces-last, pieces-more, SpEntries, entries-none, entries-last, entries-more, SpEntry, entry-spread, entry-name, entry-pair, entry-method, SpKey, key-literal, key-computed}
use Rattle.actx_grammar.proofs.Past.{shorter, not_longer}
use Rattle.actx_grammar.proofs.PastLines.{past-name, past-word, past-function_head, past-method_head}
use Rattle.actx_grammar.proofs.SizeLines.{unread_weight, rest_size_bound, size-literal, size-target, size-props, size-prop, size-elems, size-elem, size-default, size-params, size-rest_target, size-function, size-method, size-class, size-members, size-member, size-expr, size-commas, size-assign, size-arrow_head, size-arrow_params, size-cond, size-short, size-level, size-operands, size-unary, size-left, size-made, size-suffixes, size-member_suffixes, size-suffix, size-member_suffix, size-index, size-args, size-arguments, size-argument, size-primary, size-pieces, size-entries, size-entry, size-key}

mutual
  pub low-target : {i0 : Target} {i1 : ℕ} {a b : Tokens} → SpTarget i0 i1 a b → i1 + length b ≤ length a
  low-target (target-name {n = n} p0) = omega arith
  low-target (target-object {x = x} {xs = xs} {r = r} p0 p1 p2) = let e1 = low-props p1 in let s1 = size-props p1 0 in let e2 = rest_size_bound p2 in omega arith
  low-target (target-object_rest {n = n} p0 p1) = let e1 = rest_size_bound p1 in omega arith
  low-target (target-array {x = x} {xs = xs} {r = r} p0 p1 p2) = let e1 = low-elems p1 in let s1 = size-elems p1 0 in let e2 = rest_size_bound p2 in omega arith
  low-target (target-array_rest {n = n} p0 p1) = let e1 = rest_size_bound p1 in omega arith

  pub low-props : {i0 : List Prop} {i1 : ℕ} {a b : Tokens} → SpProps i0 i1 a b → i1 + length b ≤ length a
  low-props props-none = omega arith
  low-props (props-last {x = x} p0 p1) = let e0 = low-prop p0 in let s0 = size-prop p0 0 in omega arith
  low-props (props-more {x = x} {xs = xs} p0 p1 p2) = let e0 = low-prop p0 in let s0 = size-prop p0 0 in let e2 = low-props p2 in let s2 = size-props p2 0 in omega arith

  pub low-prop : {i0 : Prop} {i1 : ℕ} {a b : Tokens} → SpProp i0 i1 a b → i1 + length b ≤ length a
  low-prop (prop-name {n = n} {d = d} p0 p1) = let e1 = low-default p1 in let s1 = size-default p1 0 in omega arith
  low-prop (prop-pair {w = w} {x = x} p0 p1 p2) = let s0 = size-literal p0 0 in let e2 = low-elem p2 in let s2 = size-elem p2 0 in omega arith

  pub low-elems : {i0 : Bracket} {i1 : List Elem} {i2 : ℕ} {a b : Tokens} → SpElems i0 i1 i2 a b → i2 + length b ≤ length a
  low-elems elems-none = omega arith
  low-elems (elems-last {x = x} p0 p1) = let e0 = low-elem p0 in let s0 = size-elem p0 0 in omega arith
  low-elems (elems-more {x = x} {xs = xs} p0 p1 p2) = let e0 = low-elem p0 in let s0 = size-elem p0 0 in let e2 = low-elems p2 in let s2 = size-elems p2 0 in omega arith

  pub low-elem : {i0 : Elem} {i1 : ℕ} {a b : Tokens} → SpElem i0 i1 a b → i1 + length b ≤ length a
  low-elem (elem {x = x} {d = d} p0 p1) = let e0 = low-target p0 in let s0 = size-target p0 0 in let e1 = low-default p1 in let s1 = size-default p1 0 in omega arith

  pub low-default : {i0 : Option Expr} {i1 : ℕ} {a b : Tokens} → SpDefault i0 i1 a b → i1 + length b ≤ length a
  low-default default-none = omega arith
  low-default (default-some {x = x} p0 p1) = let e1 = low-assign p1 in let s1 = size-assign p1 0 in omega arith

  pub low-params : {i0 : Params} {i1 : ℕ} {a b : Tokens} → SpParams i0 i1 a b → i1 + length b ≤ length a
  low-params (params {xs = xs} {r = r} p0 p1 p2) = let e1 = low-elems p1 in let s1 = size-elems p1 0 in let e2 = low-rest_target p2 in let s2 = size-rest_target p2 0 in omega arith

  pub low-rest_target : {i0 : Option Target} {i1 : ℕ} {a b : Tokens} → SpRestTarget i0 i1 a b → i1 + length b ≤ length a
  low-rest_target (rest-none p0) = omega arith
  low-rest_target (rest-some {x = x} p0 p1 p2) = let e1 = low-target p1 in let s1 = size-target p1 0 in omega arith

  pub low-function : {i0 : Function} {i1 : ℕ} {a b : Tokens} → SpFunction i0 i1 a b → i1 + length b ≤ length a
  low-function (function {f = f} {n = n} {ps = ps} {r = r} p0 p1 p2 p3) = let e0 = shorter (past-function_head p0) in let e1 = not_longer (past-name p1) in let e2 = low-params p2 in let s2 = size-params p2 0 in let e3 = unread_weight p3 0 in omega arith

  pub low-method : {i0 : Method} {i1 : ℕ} {a b : Tokens} → SpMethod i0 i1 a b → i1 + length b ≤ length a
  low-method (method {f = f} {w = w} {ps = ps} {r = r} p0 p1 p2 p3) = let e0 = not_longer (past-method_head p0) in let e1 = low-key p1 in let s1 = size-key p1 0 in let e2 = low-params p2 in let s2 = size-params p2 0 in let e3 = unread_weight p3 0 in omega arith

  pub low-class : {i0 : Class} {i1 : ℕ} {a b : Tokens} → SpClass i0 i1 a b → i1 + length b ≤ length a
  low-class (class-base {n = n} {xs = xs} p0 p1 p2 p3 p4) = let e1 = not_longer (past-name p1) in let e3 = low-members p3 in let s3 = size-members p3 0 in omega arith
  low-class (class-derived {n = n} {x = x} {xs = xs} p0 p1 p2 p3 p4 p5 p6) = let e1 = not_longer (past-name p1) in let e3 = low-left p3 in let s3 = size-left p3 0 in let e5 = low-members p5 in let s5 = size-members p5 0 in omega arith

  pub low-members : {i0 : List Member} {i1 : ℕ} {a b : Tokens} → SpMembers i0 i1 a b → i1 + length b ≤ length a
  low-members members-none = omega arith
  low-members (members-semicolon {xs = xs} p0 p1) = let e1 = low-members p1 in let s1 = size-members p1 0 in omega arith
  low-members (members-more {x = x} {xs = xs} p0 p1) = let e0 = low-member p0 in let s0 = size-member p0 0 in let e1 = low-members p1 in let s1 = size-members p1 0 in omega arith

  pub low-member : {i0 : Member} {i1 : ℕ} {a b : Tokens} → SpMember i0 i1 a b → i1 + length b ≤ length a
  low-member (member-static {x = x} p0 p1 p2) = let e1 = low-method p1 in let s1 = size-method p1 0 in omega arith
  low-member (member-plain {x = x} p0 p1 p2) = let e1 = low-method p1 in let s1 = size-method p1 0 in omega arith

  pub low-expr : {i0 : Expr} {i1 : ℕ} {a b : Tokens} → SpExpr i0 i1 a b → i1 + length b ≤ length a
  low-expr (expr-one {x = x} p0) = let e0 = low-assign p0 in let s0 = size-assign p0 0 in omega arith
  low-expr (expr-comma {x = x} {y = y} {ys = ys} p0 p1) = let e0 = low-assign p0 in let s0 = size-assign p0 0 in let e1 = low-commas p1 in let s1 = size-commas p1 0 in omega arith

  pub low-commas : {i0 : List Expr} {i1 : ℕ} {a b : Tokens} → SpCommas i0 i1 a b → i1 + length b ≤ length a
  low-commas commas-none = omega arith
  low-commas (commas-more {x = x} {xs = xs} p0 p1 p2) = let e1 = low-assign p1 in let s1 = size-assign p1 0 in let e2 = low-commas p2 in let s2 = size-commas p2 0 in omega arith

  pub low-assign : {i0 : Expr} {i1 : ℕ} {a b : Tokens} → SpAssign i0 i1 a b → i1 + length b ≤ length a
  low-assign (assign-cond {x = x} p0 p1) = let e1 = low-cond p1 in let s1 = size-cond p1 0 in omega arith
  low-assign (assign-place {op = op} {x = x} {y = y} p0 p1 p2 p3 p4) = let e1 = low-left p1 in let s1 = size-left p1 0 in let e4 = low-assign p4 in let s4 = size-assign p4 0 in omega arith
  low-assign (assign-yield p0 p1) = omega arith
  low-assign (assign-yield_of {x = x} p0 p1 p2) = let e2 = low-assign p2 in let s2 = size-assign p2 0 in omega arith
  low-assign (assign-arrow {async = async} {ps = ps} {y = y} p0 p1 p2 p3 p4 p5) = let e1 = low-arrow_head p1 in let s1 = size-arrow_head p1 0 in let e5 = low-assign p5 in let s5 = size-assign p5 0 in omega arith
  low-assign (assign-arrow_block {async = async} {ps = ps} {r = r} p0 p1 p2 p3 p4) = let e1 = low-arrow_head p1 in let s1 = size-arrow_head p1 0 in let e4 = unread_weight p4 0 in omega arith

  pub low-arrow_head : {i0 : Bool} {i1 : Params} {i2 : ℕ} {a b : Tokens} → SpArrowHead i0 i1 i2 a b → i2 + length b ≤ length a
  low-arrow_head (arrow_head-plain {ps = ps} p0) = let e0 = low-arrow_params p0 in let s0 = size-arrow_params p0 0 in omega arith
  low-arrow_head (arrow_head-async {ps = ps} p0 p1 p2) = let e2 = low-arrow_params p2 in let s2 = size-arrow_params p2 0 in omega arith

  pub low-arrow_params : {i0 : Params} {i1 : ℕ} {a b : Tokens} → SpArrowParams i0 i1 a b → i1 + length b ≤ length a
  low-arrow_params (arrow_params-name {n = n} p0) = omega arith
  low-arrow_params (arrow_params-list {ps = ps} p0) = let e0 = low-params p0 in let s0 = size-params p0 0 in omega arith

  pub low-cond : {i0 : Expr} {i1 : ℕ} {a b : Tokens} → SpCond i0 i1 a b → i1 + length b ≤ length a
  low-cond (cond-one {x = x} p0) = let e0 = low-short p0 in let s0 = size-short p0 0 in omega arith
  low-cond (cond-test {x = x} {y = y} {z = z} p0 p1 p2 p3 p4) = let e0 = low-short p0 in let s0 = size-short p0 0 in let e2 = low-assign p2 in let s2 = size-assign p2 0 in let e4 = low-assign p4 in let s4 = size-assign p4 0 in omega arith

  pub low-short : {i0 : Expr} {i1 : ℕ} {a b : Tokens} → SpShort i0 i1 a b → i1 + length b ≤ length a
  low-short (short-or {x = x} p0) = let e0 = low-level p0 in let s0 = size-level p0 0 in omega arith
  low-short (short-coalesce {x = x} {y = y} {ys = ys} p0 p1) = let e0 = low-level p0 in let s0 = size-level p0 0 in let e1 = low-operands p1 in let s1 = size-operands p1 0 in omega arith

  pub low-level : {i0 : ℕ} {i1 : Expr} {i2 : ℕ} {a b : Tokens} → SpLevel i0 i1 i2 a b → i2 + length b ≤ length a
  low-level (level-unary {x = x} p0) = let e0 = low-unary p0 in let s0 = size-unary p0 0 in omega arith
  low-level (level-one {x = x} p0) = let e0 = low-level p0 in let s0 = size-level p0 0 in omega arith
  low-level (level-chain {x = x} {y = y} {ys = ys} p0 p1) = let e0 = low-level p0 in let s0 = size-level p0 0 in let e1 = low-operands p1 in let s1 = size-operands p1 0 in omega arith

  pub low-operands : {i0 : ℕ} {i1 : ℕ} {i2 : List Operand} {i3 : ℕ} {a b : Tokens} → SpOperands i0 i1 i2 i3 a b → i3 + length b ≤ length a
  low-operands operands-none = omega arith
  low-operands (operands-more {op = op} {x = x} {xs = xs} p0 p1 p2 p3) = let e2 = low-level p2 in let s2 = size-level p2 0 in let e3 = low-operands p3 in let s3 = size-operands p3 0 in omega arith

  pub low-unary : {i0 : Expr} {i1 : ℕ} {a b : Tokens} → SpUnary i0 i1 a b → i1 + length b ≤ length a
  low-unary (unary-op {op = op} {x = x} p0 p1) = let e1 = low-unary p1 in let s1 = size-unary p1 0 in omega arith
  low-unary (unary-before {op = op} {x = x} p0 p1 p2) = let e1 = low-left p1 in let s1 = size-left p1 0 in omega arith
  low-unary (unary-after {op = op} {x = x} p0 p1 p2 p3) = let e0 = low-left p0 in let s0 = size-left p0 0 in omega arith
  low-unary (unary-left {x = x} p0) = let e0 = low-left p0 in let s0 = size-left p0 0 in omega arith

  pub low-left : {i0 : Expr} {i1 : ℕ} {a b : Tokens} → SpLeft i0 i1 a b → i1 + length b ≤ length a
  low-left (left-made {x = x} p0) = let e0 = low-made p0 in let s0 = size-made p0 0 in omega arith
  low-left (left-suffixes {x = x} {y = y} {ys = ys} p0 p1) = let e0 = low-made p0 in let s0 = size-made p0 0 in let e1 = low-suffixes p1 in let s1 = size-suffixes p1 0 in omega arith

  pub low-made : {i0 : Expr} {i1 : ℕ} {a b : Tokens} → SpMade i0 i1 a b → i1 + length b ≤ length a
  low-made (made-primary {x = x} p0) = let e0 = low-primary p0 in let s0 = size-primary p0 0 in omega arith
  low-made (made-new {x = x} {xs = xs} {zs = zs} p0 p1 p2 p3) = let e1 = low-made p1 in let s1 = size-made p1 0 in let e2 = low-member_suffixes p2 in let s2 = size-member_suffixes p2 0 in let e3 = low-args p3 in let s3 = size-args p3 0 in omega arith
  low-made (made-new_bare {x = x} {xs = xs} p0 p1 p2 p3) = let e1 = low-made p1 in let s1 = size-made p1 0 in let e2 = low-member_suffixes p2 in let s2 = size-member_suffixes p2 0 in omega arith

  pub low-suffixes : {i0 : List Suffix} {i1 : ℕ} {a b : Tokens} → SpSuffixes i0 i1 a b → i1 + length b ≤ length a
  low-suffixes suffixes-none = omega arith
  low-suffixes (suffixes-more {x = x} {xs = xs} p0 p1) = let e0 = low-suffix p0 in let s0 = size-suffix p0 0 in let e1 = low-suffixes p1 in let s1 = size-suffixes p1 0 in omega arith

  pub low-member_suffixes : {i0 : List Suffix} {i1 : ℕ} {a b : Tokens} → SpMemberSuffixes i0 i1 a b → i1 + length b ≤ length a
  low-member_suffixes member_suffixes-none = omega arith
  low-member_suffixes (member_suffixes-more {x = x} {xs = xs} p0 p1) = let e0 = low-member_suffix p0 in let s0 = size-member_suffix p0 0 in let e1 = low-member_suffixes p1 in let s1 = size-member_suffixes p1 0 in omega arith

  pub low-suffix : {i0 : Suffix} {i1 : ℕ} {a b : Tokens} → SpSuffix i0 i1 a b → i1 + length b ≤ length a
  low-suffix (suffix-member {x = x} p0) = let e0 = low-member_suffix p0 in let s0 = size-member_suffix p0 0 in omega arith
  low-suffix (suffix-call {xs = xs} p0) = let e0 = low-args p0 in let s0 = size-args p0 0 in omega arith
  low-suffix (suffix-optional_name {u = u} p0 p1) = let e1 = shorter (past-word p1) in omega arith
  low-suffix (suffix-optional_index {x = x} p0 p1) = let e1 = low-index p1 in let s1 = size-index p1 0 in omega arith
  low-suffix (suffix-optional_call {xs = xs} p0 p1) = let e1 = low-args p1 in let s1 = size-args p1 0 in omega arith

  pub low-member_suffix : {i0 : Suffix} {i1 : ℕ} {a b : Tokens} → SpMemberSuffix i0 i1 a b → i1 + length b ≤ length a
  low-member_suffix (member_suffix-name {u = u} p0 p1) = let e1 = shorter (past-word p1) in omega arith
  low-member_suffix (member_suffix-index {x = x} p0) = let e0 = low-index p0 in let s0 = size-index p0 0 in omega arith

  pub low-index : {i0 : Expr} {i1 : ℕ} {a b : Tokens} → SpIndex i0 i1 a b → i1 + length b ≤ length a
  low-index (index {x = x} p0 p1 p2) = let e1 = low-expr p1 in let s1 = size-expr p1 0 in omega arith

  pub low-args : {i0 : List Argument} {i1 : ℕ} {a b : Tokens} → SpArgs i0 i1 a b → i1 + length b ≤ length a
  low-args (args {xs = xs} p0 p1 p2) = let e1 = low-arguments p1 in let s1 = size-arguments p1 0 in omega arith

  pub low-arguments : {i0 : Bracket} {i1 : List Argument} {i2 : ℕ} {a b : Tokens} → SpArguments i0 i1 i2 a b → i2 + length b ≤ length a
  low-arguments arguments-none = omega arith
  low-arguments (arguments-last {x = x} p0 p1) = let e0 = low-argument p0 in let s0 = size-argument p0 0 in omega arith
  low-arguments (arguments-more {x = x} {xs = xs} p0 p1 p2) = let e0 = low-argument p0 in let s0 = size-argument p0 0 in let e2 = low-arguments p2 in let s2 = size-arguments p2 0 in omega arith

  pub low-argument : {i0 : Argument} {i1 : ℕ} {a b : Tokens} → SpArgument i0 i1 a b → i1 + length b ≤ length a
  low-argument (argument-one {x = x} p0) = let e0 = low-assign p0 in let s0 = size-assign p0 0 in omega arith
  low-argument (argument-spread {x = x} p0 p1) = let e1 = low-assign p1 in let s1 = size-assign p1 0 in omega arith

  pub low-primary : {i0 : Expr} {i1 : ℕ} {a b : Tokens} → SpPrimary i0 i1 a b → i1 + length b ≤ length a
  low-primary (primary-name {n = n} p0 p1) = omega arith
  low-primary (primary-number {n = n} p0) = omega arith
  low-primary (primary-text {u = u} p0) = omega arith
  low-primary (primary-true p0) = omega arith
  low-primary (primary-false p0) = omega arith
  low-primary (primary-null p0) = omega arith
  low-primary (primary-this p0) = omega arith
  low-primary (primary-template {u = u} p0) = omega arith
  low-primary (primary-template_of {u = u} {x = x} {xs = xs} p0 p1) = let e1 = low-pieces p1 in let s1 = size-pieces p1 0 in omega arith
  low-primary (primary-brackets {x = x} p0 p1 p2) = let e1 = low-expr p1 in let s1 = size-expr p1 0 in omega arith
  low-primary (primary-array {xs = xs} p0 p1 p2) = let e1 = low-arguments p1 in let s1 = size-arguments p1 0 in omega arith
  low-primary (primary-object {xs = xs} p0 p1 p2) = let e1 = low-entries p1 in let s1 = size-entries p1 0 in omega arith
  low-primary (primary-super_call {xs = xs} p0 p1) = let e1 = low-args p1 in let s1 = size-args p1 0 in omega arith
  low-primary (primary-super_member {n = n} p0 p1 p2) = let e2 = shorter (past-word p2) in omega arith
  low-primary (primary-function {f = f} p0) = let e0 = low-function p0 in let s0 = size-function p0 0 in omega arith
  low-primary (primary-class {c = c} p0) = let e0 = low-class p0 in let s0 = size-class p0 0 in omega arith

  pub low-pieces : {i0 : List Piece} {i1 : ℕ} {a b : Tokens} → SpPieces i0 i1 a b → i1 + length b ≤ length a
  low-pieces (pieces-last {x = x} {u = u} p0 p1) = let e0 = low-expr p0 in let s0 = size-expr p0 0 in omega arith
  low-pieces (pieces-more {x = x} {u = u} {xs = xs} p0 p1 p2) = let e0 = low-expr p0 in let s0 = size-expr p0 0 in let e2 = low-pieces p2 in let s2 = size-pieces p2 0 in omega arith

  pub low-entries : {i0 : List Entry} {i1 : ℕ} {a b : Tokens} → SpEntries i0 i1 a b → i1 + length b ≤ length a
  low-entries entries-none = omega arith
  low-entries (entries-last {x = x} p0 p1) = let e0 = low-entry p0 in let s0 = size-entry p0 0 in omega arith
  low-entries (entries-more {x = x} {xs = xs} p0 p1 p2) = let e0 = low-entry p0 in let s0 = size-entry p0 0 in let e2 = low-entries p2 in let s2 = size-entries p2 0 in omega arith

  pub low-entry : {i0 : Entry} {i1 : ℕ} {a b : Tokens} → SpEntry i0 i1 a b → i1 + length b ≤ length a
  low-entry (entry-spread {x = x} p0 p1) = let e1 = low-assign p1 in let s1 = size-assign p1 0 in omega arith
  low-entry (entry-name {n = n} p0 p1) = omega arith
  low-entry (entry-pair {w = w} {x = x} p0 p1 p2 p3 p4) = let e2 = low-key p2 in let s2 = size-key p2 0 in let e4 = low-assign p4 in let s4 = size-assign p4 0 in omega arith
  low-entry (entry-method {x = x} p0 p1) = let e1 = low-method p1 in let s1 = size-method p1 0 in omega arith

  pub low-key : {i0 : Key} {i1 : ℕ} {a b : Tokens} → SpKey i0 i1 a b → i1 + length b ≤ length a
  low-key (key-literal {w = w} p0) = let s0 = size-literal p0 0 in omega arith
  low-key (key-computed {x = x} p0 p1 p2) = let e1 = low-assign p1 in let s1 = size-assign p1 0 in omega arith
