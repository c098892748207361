-- A spelled statement has a size of at most 16 for each of its tokens that stands in no function body.
use Rattle.std.proofs.Common.{ℕ, ◌+◌, ◌*◌, ◌≤◌, Bool, List, ◌++◌, length, map, Option, Some, None, ap, arith}
use Rattle.actx_tree.specs.declared.expr.Expr.{Expr}
use Rattle.actx_tree.specs.declared.pattern.Target.{Target}
use Rattle.actx_tree.specs.declared.pattern.Target.TheVariants as target
use Rattle.actx_tree.specs.declared.pattern.Elem.{Elem}
use Rattle.actx_tree.specs.declared.stmt.Stmt.{Stmt}
use Rattle.actx_tree.specs.declared.stmt.Catch.{Catch}
use Rattle.actx_tree.specs.declared.stmt.ForInit.{ForInit}
use Rattle.actx_tree.specs.Levels.{or_zero}
use Rattle.actx_tree.specs.Sizes.{total, expr_size, target_size, elem_size, for_init_size, stmt_size, catch_size, stmts_size}
use Rattle.actx_tree.specs.Bodies.{all, or_none, expr_bodies, target_bodies, elem_bodies, for_init_bodies, stmt_bodies, catch_bodies, stmts_bodies}
use Rattle.actx_tree.proofs.SizeEquations as parts_sized
use Rattle.actx_tree.proofs.BodyEquations as parts_found
use Rattle.actx_tree.proofs.StmtSizeEquations as sized
use Rattle.actx_tree.proofs.StmtBodyEquations as found
use Rattle.actx_grammar.specs.Tokens.{Tokens}
use Rattle.actx_grammar.specs.Weights.{weight}
use Rattle.actx_program.specs.Statements.{SpBind, bind-name, bind-value, SpBinds, binds-none, binds-more, SpLet, let_binds, SpTest, test, SpValue, value-none, value-some, SpFirst, first-nothing, first-let, first-expr, SpCaught, caught-none, caught-some, SpStmt, stmt-block, stmt-empty, stmt-if, stmt-while, stmt-do, stmt-for, stmt-for_of, stmt-return, stmt-return_of, stmt-throw, stmt-break, stmt-continue, stmt-try, stmt-expr, SpElse, else-none, else-some, SpHandler, handler-none, handler-some, SpFinally, finally-none, finally-some, SpBlock, block, SpItems, items-none, items-more, SpItem, item-let, item-function, item-class, item-stmt}
use Rattle.actx_grammar.proofs.Past.{not_longer}
use Rattle.actx_program.proofs.StatementPast.{past-end, past-semicolon}
use Rattle.actx_grammar.proofs.SizeLines.{weight-append, size-expr, size-assign, size-target, size-function, size-class}

pub size-bind : {i0 : Bool} {i1 : Elem} {i2 : ℕ} {a b : Tokens} → SpBind i0 i1 i2 a b → (dd : ℕ) → elem_size i1 + 8 + 16 * weight (elem_bodies i1 dd) + 16 * length b ≤ 16 * length a
size-bind (bind-name {n = n} p0) dd = let z0 = parts_sized.elem_size-Elem (target.Name n) None in let q0 = ap weight (parts_found.elem_bodies-Elem (target.Name n) None dd) in let z1 = parts_sized.target_size-Name n in let q1 = ap weight (parts_found.target_bodies-Name n dd) in let w0 = weight-append (target_bodies (target.Name n) dd) (or_none expr_bodies (let n : Option Expr = None in n) dd) in omega arith
size-bind (bind-value {x = x} {y = y} p0 p1 p2) dd = let e0 = size-target p0 dd in let e2 = size-assign p2 dd in let z0 = parts_sized.elem_size-Elem x (Some y) in let q0 = ap weight (parts_found.elem_bodies-Elem x (Some y) dd) in let w0 = weight-append (target_bodies x dd) (expr_bodies y dd) in omega arith

pub size-binds : {i0 : Bool} {i1 : List Elem} {i2 : ℕ} {a b : Tokens} → SpBinds i0 i1 i2 a b → (dd : ℕ) → total (map elem_size i1) + length i1 + 16 * weight (all (map elem_bodies i1) dd) + 16 * length b ≤ 16 * length a
size-binds binds-none dd = omega arith
size-binds (binds-more {x = x} {xs = xs} p0 p1 p2) dd = let e1 = size-bind p1 dd in let e2 = size-binds p2 dd in let w0 = weight-append (elem_bodies x dd) (all (map elem_bodies xs) dd) in omega arith

pub size-let : {i0 : Bool} {i1 : List Elem} {i2 : ℕ} {a b : Tokens} → SpLet i0 i1 i2 a b → (dd : ℕ) → total (map elem_size i1) + length i1 + 8 + 16 * weight (all (map elem_bodies i1) dd) + 16 * length b ≤ 16 * length a
size-let (let_binds {x = x} {xs = xs} p0 p1 p2) dd = let e1 = size-bind p1 dd in let e2 = size-binds p2 dd in let w0 = weight-append (elem_bodies x dd) (all (map elem_bodies xs) dd) in omega arith

pub size-test : {i0 : Expr} {i1 : ℕ} {a b : Tokens} → SpTest i0 i1 a b → (dd : ℕ) → expr_size i0 + 8 + 16 * weight (expr_bodies i0 dd) + 16 * length b ≤ 16 * length a
size-test (test {x = x} p0 p1 p2) dd = let e1 = size-expr p1 dd in omega arith

pub size-value : {i0 : Option Expr} {i1 : ℕ} {a b : Tokens} → SpValue i0 i1 a b → (dd : ℕ) → or_zero expr_size i0 + 16 * weight (or_none expr_bodies i0 dd) + 16 * length b ≤ 16 * length a
size-value value-none dd = omega arith
size-value (value-some {x = x} p0) dd = let e0 = size-expr p0 dd in omega arith

pub size-first : {i0 : ForInit} {i1 : ℕ} {a b : Tokens} → SpFirst i0 i1 a b → (dd : ℕ) → for_init_size i0 + 16 * weight (for_init_bodies i0 dd) + 16 * length b ≤ 16 * length a
size-first first-nothing dd = omega arith
size-first (first-let {xs = xs} p0) dd = let e0 = size-let p0 (dd + 1) in omega arith
size-first (first-expr {x = x} p0) dd = let e0 = size-expr p0 dd in omega arith

pub size-caught : {i0 : Option Target} {i1 : ℕ} {a b : Tokens} → SpCaught i0 i1 a b → (dd : ℕ) → or_zero target_size i0 + 16 * weight (or_none target_bodies i0 dd) + 16 * length b ≤ 16 * length a
size-caught (caught-none p0) dd = omega arith
size-caught (caught-some {x = x} p0 p1 p2) dd = let e1 = size-target p1 dd in omega arith

mutual
  pub size-stmt : {i0 : Stmt} {i1 : ℕ} {a b : Tokens} → SpStmt i0 i1 a b → (dd : ℕ) → stmt_size i0 + 4 + 16 * weight (stmt_bodies i0 dd) + 16 * length b ≤ 16 * length a
  size-stmt (stmt-block {xs = xs} p0) dd = let e0 = size-block p0 (dd + 1) in let z0 = sized.stmt_size-Block xs in let q0 = ap weight (found.stmt_bodies-Block xs dd) in omega arith
  size-stmt (stmt-empty p0) dd = let z0 = sized.stmt_size-Empty in let q0 = ap weight (found.stmt_bodies-Empty dd) in omega arith
  size-stmt (stmt-if {x = x} {y = y} {z = z} p0 p1 p2 p3) dd = let e1 = size-test p1 (dd + 1) in let e2 = size-stmt p2 (dd + 1) in let e3 = size-else p3 (dd + 1) in let z0 = sized.stmt_size-If x y z in let q0 = ap weight (found.stmt_bodies-If x y z dd) in let w0 = weight-append (expr_bodies x (dd + 1)) (stmt_bodies y (dd + 1) ++ (or_none stmt_bodies z (dd + 1))) in let w1 = weight-append (stmt_bodies y (dd + 1)) (or_none stmt_bodies z (dd + 1)) in omega arith
  size-stmt (stmt-while {x = x} {y = y} p0 p1 p2) dd = let e1 = size-test p1 (dd + 1) in let e2 = size-stmt p2 (dd + 1) in let z0 = sized.stmt_size-While x y in let q0 = ap weight (found.stmt_bodies-While x y dd) in let w0 = weight-append (expr_bodies x (dd + 1)) (stmt_bodies y (dd + 1)) in omega arith
  size-stmt (stmt-do {x = x} {y = y} p0 p1 p2 p3 p4) dd = let e1 = size-stmt p1 (dd + 1) in let e3 = size-test p3 (dd + 1) in let s4 = not_longer (past-semicolon p4) in let z0 = sized.stmt_size-Do y x in let q0 = ap weight (found.stmt_bodies-Do y x dd) in let w0 = weight-append (stmt_bodies y (dd + 1)) (expr_bodies x (dd + 1)) in omega arith
  size-stmt (stmt-for {x = x} {y = y} {z = z} {e = e} p0 p1 p2 p3 p4 p5 p6 p7 p8) dd = let e2 = size-first p2 (dd + 1) in let e4 = size-value p4 (dd + 1) in let e6 = size-value p6 (dd + 1) in let e8 = size-stmt p8 (dd + 1) in let z0 = sized.stmt_size-For x y z e in let q0 = ap weight (found.stmt_bodies-For x y z e dd) in let w0 = weight-append (for_init_bodies x (dd + 1)) (or_none expr_bodies y (dd + 1) ++ (or_none expr_bodies z (dd + 1) ++ (stmt_bodies e (dd + 1)))) in let w1 = weight-append (or_none expr_bodies y (dd + 1)) (or_none expr_bodies z (dd + 1) ++ (stmt_bodies e (dd + 1))) in let w2 = weight-append (or_none expr_bodies z (dd + 1)) (stmt_bodies e (dd + 1)) in omega arith
  size-stmt (stmt-for_of {c = c} {x = x} {y = y} {e = e} p0 p1 p2 p3 p4 p5 p6 p7) dd = let e3 = size-target p3 (dd + 1) in let e5 = size-assign p5 (dd + 1) in let e7 = size-stmt p7 (dd + 1) in let z0 = sized.stmt_size-ForOf c x y e in let q0 = ap weight (found.stmt_bodies-ForOf c x y e dd) in let w0 = weight-append (target_bodies x (dd + 1)) (expr_bodies y (dd + 1) ++ (stmt_bodies e (dd + 1))) in let w1 = weight-append (expr_bodies y (dd + 1)) (stmt_bodies e (dd + 1)) in omega arith
  size-stmt (stmt-return p0 p1) dd = let s1 = not_longer (past-end p1) in let z0 = sized.stmt_size-Return None in let q0 = ap weight (found.stmt_bodies-Return None dd) in omega arith
  size-stmt (stmt-return_of {x = x} p0 p1 p2 p3) dd = let e2 = size-expr p2 (dd + 1) in let s3 = not_longer (past-end p3) in let z0 = sized.stmt_size-Return (Some x) in let q0 = ap weight (found.stmt_bodies-Return (Some x) dd) in omega arith
  size-stmt (stmt-throw {x = x} p0 p1 p2 p3) dd = let e2 = size-expr p2 (dd + 1) in let s3 = not_longer (past-end p3) in let z0 = sized.stmt_size-Throw x in let q0 = ap weight (found.stmt_bodies-Throw x dd) in omega arith
  size-stmt (stmt-break p0 p1) dd = let s1 = not_longer (past-end p1) in let z0 = sized.stmt_size-Break in let q0 = ap weight (found.stmt_bodies-Break dd) in omega arith
  size-stmt (stmt-continue p0 p1) dd = let s1 = not_longer (past-end p1) in let z0 = sized.stmt_size-Continue in let q0 = ap weight (found.stmt_bodies-Continue dd) in omega arith
  size-stmt (stmt-try {xs = xs} {c = c} {f = f} p0 p1 p2 p3 p4) dd = let e1 = size-block p1 (dd + 1) in let e2 = size-handler p2 (dd + 1) in let e3 = size-finally p3 (dd + 1) in let z0 = sized.stmt_size-Try xs c f in let q0 = ap weight (found.stmt_bodies-Try xs c f dd) in let w0 = weight-append (stmts_bodies xs (dd + 1)) (or_none catch_bodies c (dd + 1) ++ (or_none stmts_bodies f (dd + 1))) in let w1 = weight-append (or_none catch_bodies c (dd + 1)) (or_none stmts_bodies f (dd + 1)) in omega arith
  size-stmt (stmt-expr {x = x} p0 p1 p2) dd = let e1 = size-expr p1 (dd + 1) in let s2 = not_longer (past-end p2) in let z0 = sized.stmt_size-Expr x in let q0 = ap weight (found.stmt_bodies-Expr x dd) in omega arith

  pub size-else : {i0 : Option Stmt} {i1 : ℕ} {a b : Tokens} → SpElse i0 i1 a b → (dd : ℕ) → or_zero stmt_size i0 + 16 * weight (or_none stmt_bodies i0 dd) + 16 * length b ≤ 16 * length a
  size-else (else-none p0) dd = omega arith
  size-else (else-some {x = x} p0 p1) dd = let e1 = size-stmt p1 dd in omega arith

  pub size-handler : {i0 : Option Catch} {i1 : ℕ} {a b : Tokens} → SpHandler i0 i1 a b → (dd : ℕ) → or_zero catch_size i0 + 16 * weight (or_none catch_bodies i0 dd) + 16 * length b ≤ 16 * length a
  size-handler (handler-none p0) dd = omega arith
  size-handler (handler-some {x = x} {xs = xs} p0 p1 p2) dd = let e1 = size-caught p1 dd in let e2 = size-block p2 dd in let z0 = sized.catch_size-Catch x xs in let q0 = ap weight (found.catch_bodies-Catch x xs dd) in let w0 = weight-append (or_none target_bodies x dd) (stmts_bodies xs dd) in omega arith

  pub size-finally : {i0 : Option (List Stmt)} {i1 : ℕ} {a b : Tokens} → SpFinally i0 i1 a b → (dd : ℕ) → or_zero stmts_size i0 + 16 * weight (or_none stmts_bodies i0 dd) + 16 * length b ≤ 16 * length a
  size-finally (finally-none p0) dd = omega arith
  size-finally (finally-some {xs = xs} p0 p1) dd = let e1 = size-block p1 dd in omega arith

  pub size-block : {i0 : List Stmt} {i1 : ℕ} {a b : Tokens} → SpBlock i0 i1 a b → (dd : ℕ) → stmts_size i0 + 8 + 16 * weight (stmts_bodies i0 dd) + 16 * length b ≤ 16 * length a
  size-block (block {xs = xs} p0 p1 p2) dd = let e1 = size-items p1 dd in omega arith

  pub size-items : {i0 : List Stmt} {i1 : ℕ} {a b : Tokens} → SpItems i0 i1 a b → (dd : ℕ) → stmts_size i0 + 16 * weight (stmts_bodies i0 dd) + 16 * length b ≤ 16 * length a
  size-items items-none dd = omega arith
  size-items (items-more {x = x} {xs = xs} p0 p1) dd = let e0 = size-item p0 dd in let e1 = size-items p1 dd in let w0 = weight-append (stmt_bodies x dd) (stmts_bodies xs dd) in omega arith

  pub size-item : {i0 : Stmt} {i1 : ℕ} {a b : Tokens} → SpItem i0 i1 a b → (dd : ℕ) → stmt_size i0 + 4 + 16 * weight (stmt_bodies i0 dd) + 16 * length b ≤ 16 * length a
  size-item (item-let {c = c} {xs = xs} p0 p1) dd = let e0 = size-let p0 (dd + 1) in let s1 = not_longer (past-end p1) in let z0 = sized.stmt_size-Let c xs in let q0 = ap weight (found.stmt_bodies-Let c xs dd) in omega arith
  size-item (item-function {f = f} p0 p1) dd = let e0 = size-function p0 dd in let z0 = sized.stmt_size-Function f in let q0 = ap weight (found.stmt_bodies-Function f dd) in omega arith
  size-item (item-class {c = c} p0 p1) dd = let e0 = size-class p0 dd in let z0 = sized.stmt_size-Class c in let q0 = ap weight (found.stmt_bodies-Class c dd) in omega arith
  size-item (item-stmt {x = x} p0) dd = let e0 = size-stmt p0 dd in omega arith
