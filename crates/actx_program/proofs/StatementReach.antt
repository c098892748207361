-- A function body in a spelled statement lies no deeper than there are tokens around it.
use Rattle.std.proofs.Common.{ℕ, ◌+◌, ◌≤◌, Bool, List, ◌++◌, length, map, Option, Some, None, ap, arith}
use Rattle.actx_tree.specs.declared.expr.Expr.{Expr}
use Rattle.actx_tree.specs.declared.pattern.Target.{Target}
use Rattle.actx_tree.specs.declared.pattern.Target.TheVariants as target
use Rattle.actx_tree.specs.declared.pattern.Elem.{Elem}
use Rattle.actx_tree.specs.declared.stmt.Stmt.{Stmt}
use Rattle.actx_tree.specs.declared.stmt.Catch.{Catch}
use Rattle.actx_tree.specs.declared.stmt.ForInit.{ForInit}
use Rattle.actx_tree.specs.Bodies.{all, or_none, expr_bodies, target_bodies, elem_bodies, for_init_bodies, stmt_bodies, catch_bodies, stmts_bodies}
use Rattle.actx_tree.proofs.BodyEquations as parts_found
use Rattle.actx_tree.proofs.StmtBodyEquations as found
use Rattle.actx_grammar.specs.Tokens.{Tokens}
use Rattle.actx_grammar.specs.Weights.{reach}
use Rattle.actx_program.specs.Statements.{SpBind, bind-name, bind-value, SpBinds, binds-none, binds-more, SpLet, let_binds, SpTest, test, SpValue, value-none, value-some, SpFirst, first-nothing, first-let, first-expr, SpCaught, caught-none, caught-some, SpStmt, stmt-block, stmt-empty, stmt-if, stmt-while, stmt-do, stmt-for, stmt-for_of, stmt-return, stmt-return_of, stmt-throw, stmt-break, stmt-continue, stmt-try, stmt-expr, SpElse, else-none, else-some, SpHandler, handler-none, handler-some, SpFinally, finally-none, finally-some, SpBlock, block, SpItems, items-none, items-more, SpItem, item-let, item-function, item-class, item-stmt}
use Rattle.actx_grammar.proofs.Past.{shorter, not_longer}
use Rattle.actx_program.proofs.StatementPast.{past-end, past-semicolon, past-bind, past-binds, past-let, past-test, past-value, past-first, past-caught, past-stmt, past-else, past-handler, past-finally, past-block, past-items, past-item}
use Rattle.actx_grammar.proofs.PastLines.{past-expr, past-assign, past-target, past-function, past-class}
use Rattle.actx_grammar.proofs.ReachLines.{reach-append, reach-expr, reach-assign, reach-target, reach-function, reach-class}

pub reach-bind : {i0 : Bool} {i1 : Elem} {i2 : ℕ} {a b : Tokens} → SpBind i0 i1 i2 a b → (dd : ℕ) → reach (elem_bodies i1 dd) + 1 + length b ≤ dd + length a
reach-bind (bind-name {n = n} p0) dd = let q0 = ap reach (parts_found.elem_bodies-Elem (target.Name n) None dd) in let q1 = ap reach (parts_found.target_bodies-Name n dd) in let w0 = reach-append (target_bodies (target.Name n) dd) (or_none expr_bodies (let n : Option Expr = None in n) dd) in omega arith
reach-bind (bind-value {x = x} {y = y} p0 p1 p2) dd = let s0 = shorter (past-target p0) in let e0 = reach-target p0 dd in let s2 = shorter (past-assign p2) in let e2 = reach-assign p2 dd in let q0 = ap reach (parts_found.elem_bodies-Elem x (Some y) dd) in let w0 = reach-append (target_bodies x dd) (expr_bodies y dd) in omega arith

pub reach-binds : {i0 : Bool} {i1 : List Elem} {i2 : ℕ} {a b : Tokens} → SpBinds i0 i1 i2 a b → (dd : ℕ) → reach (all (map elem_bodies i1) dd) + length b ≤ dd + length a
reach-binds binds-none dd = omega arith
reach-binds (binds-more {x = x} {xs = xs} p0 p1 p2) dd = let s1 = shorter (past-bind p1) in let e1 = reach-bind p1 dd in let s2 = not_longer (past-binds p2) in let e2 = reach-binds p2 dd in let w0 = reach-append (elem_bodies x dd) (all (map elem_bodies xs) dd) in omega arith

pub reach-let : {i0 : Bool} {i1 : List Elem} {i2 : ℕ} {a b : Tokens} → SpLet i0 i1 i2 a b → (dd : ℕ) → reach (all (map elem_bodies i1) dd) + 1 + length b ≤ dd + length a
reach-let (let_binds {x = x} {xs = xs} p0 p1 p2) dd = let s1 = shorter (past-bind p1) in let e1 = reach-bind p1 dd in let s2 = not_longer (past-binds p2) in let e2 = reach-binds p2 dd in let w0 = reach-append (elem_bodies x dd) (all (map elem_bodies xs) dd) in omega arith

pub reach-test : {i0 : Expr} {i1 : ℕ} {a b : Tokens} → SpTest i0 i1 a b → (dd : ℕ) → reach (expr_bodies i0 dd) + 1 + length b ≤ dd + length a
reach-test (test {x = x} p0 p1 p2) dd = let s1 = shorter (past-expr p1) in let e1 = reach-expr p1 dd in omega arith

pub reach-value : {i0 : Option Expr} {i1 : ℕ} {a b : Tokens} → SpValue i0 i1 a b → (dd : ℕ) → reach (or_none expr_bodies i0 dd) + length b ≤ dd + length a
reach-value value-none dd = omega arith
reach-value (value-some {x = x} p0) dd = let s0 = shorter (past-expr p0) in let e0 = reach-expr p0 dd in omega arith

pub reach-first : {i0 : ForInit} {i1 : ℕ} {a b : Tokens} → SpFirst i0 i1 a b → (dd : ℕ) → reach (for_init_bodies i0 dd) + length b ≤ dd + length a
reach-first first-nothing dd = omega arith
reach-first (first-let {xs = xs} p0) dd = let s0 = shorter (past-let p0) in let e0 = reach-let p0 (dd + 1) in omega arith
reach-first (first-expr {x = x} p0) dd = let s0 = shorter (past-expr p0) in let e0 = reach-expr p0 dd in omega arith

pub reach-caught : {i0 : Option Target} {i1 : ℕ} {a b : Tokens} → SpCaught i0 i1 a b → (dd : ℕ) → reach (or_none target_bodies i0 dd) + length b ≤ dd + length a
reach-caught (caught-none p0) dd = omega arith
reach-caught (caught-some {x = x} p0 p1 p2) dd = let s1 = shorter (past-target p1) in let e1 = reach-target p1 dd in omega arith

mutual
  pub reach-stmt : {i0 : Stmt} {i1 : ℕ} {a b : Tokens} → SpStmt i0 i1 a b → (dd : ℕ) → reach (stmt_bodies i0 dd) + length b ≤ dd + length a
  reach-stmt (stmt-block {xs = xs} p0) dd = let s0 = shorter (past-block p0) in let e0 = reach-block p0 (dd + 1) in let q0 = ap reach (found.stmt_bodies-Block xs dd) in omega arith
  reach-stmt (stmt-empty p0) dd = let q0 = ap reach (found.stmt_bodies-Empty dd) in omega arith
  reach-stmt (stmt-if {x = x} {y = y} {z = z} p0 p1 p2 p3) dd = let s1 = shorter (past-test p1) in let e1 = reach-test p1 (dd + 1) in let s2 = shorter (past-stmt p2) in let e2 = reach-stmt p2 (dd + 1) in let s3 = not_longer (past-else p3) in let e3 = reach-else p3 (dd + 1) in let q0 = ap reach (found.stmt_bodies-If x y z dd) in let w0 = reach-append (expr_bodies x (dd + 1)) (stmt_bodies y (dd + 1) ++ (or_none stmt_bodies z (dd + 1))) in let w1 = reach-append (stmt_bodies y (dd + 1)) (or_none stmt_bodies z (dd + 1)) in omega arith
  reach-stmt (stmt-while {x = x} {y = y} p0 p1 p2) dd = let s1 = shorter (past-test p1) in let e1 = reach-test p1 (dd + 1) in let s2 = shorter (past-stmt p2) in let e2 = reach-stmt p2 (dd + 1) in let q0 = ap reach (found.stmt_bodies-While x y dd) in let w0 = reach-append (expr_bodies x (dd + 1)) (stmt_bodies y (dd + 1)) in omega arith
  reach-stmt (stmt-do {x = x} {y = y} p0 p1 p2 p3 p4) dd = let s1 = shorter (past-stmt p1) in let e1 = reach-stmt p1 (dd + 1) in let s3 = shorter (past-test p3) in let e3 = reach-test p3 (dd + 1) in let s4 = not_longer (past-semicolon p4) in let q0 = ap reach (found.stmt_bodies-Do y x dd) in let w0 = reach-append (stmt_bodies y (dd + 1)) (expr_bodies x (dd + 1)) in omega arith
  reach-stmt (stmt-for {x = x} {y = y} {z = z} {e = e} p0 p1 p2 p3 p4 p5 p6 p7 p8) dd = let s2 = not_longer (past-first p2) in let e2 = reach-first p2 (dd + 1) in let s4 = not_longer (past-value p4) in let e4 = reach-value p4 (dd + 1) in let s6 = not_longer (past-value p6) in let e6 = reach-value p6 (dd + 1) in let s8 = shorter (past-stmt p8) in let e8 = reach-stmt p8 (dd + 1) in let q0 = ap reach (found.stmt_bodies-For x y z e dd) in let w0 = reach-append (for_init_bodies x (dd + 1)) (or_none expr_bodies y (dd + 1) ++ (or_none expr_bodies z (dd + 1) ++ (stmt_bodies e (dd + 1)))) in let w1 = reach-append (or_none expr_bodies y (dd + 1)) (or_none expr_bodies z (dd + 1) ++ (stmt_bodies e (dd + 1))) in let w2 = reach-append (or_none expr_bodies z (dd + 1)) (stmt_bodies e (dd + 1)) in omega arith
  reach-stmt (stmt-for_of {c = c} {x = x} {y = y} {e = e} p0 p1 p2 p3 p4 p5 p6 p7) dd = let s3 = shorter (past-target p3) in let e3 = reach-target p3 (dd + 1) in let s5 = shorter (past-assign p5) in let e5 = reach-assign p5 (dd + 1) in let s7 = shorter (past-stmt p7) in let e7 = reach-stmt p7 (dd + 1) in let q0 = ap reach (found.stmt_bodies-ForOf c x y e dd) in let w0 = reach-append (target_bodies x (dd + 1)) (expr_bodies y (dd + 1) ++ (stmt_bodies e (dd + 1))) in let w1 = reach-append (expr_bodies y (dd + 1)) (stmt_bodies e (dd + 1)) in omega arith
  reach-stmt (stmt-return p0 p1) dd = let s1 = not_longer (past-end p1) in let q0 = ap reach (found.stmt_bodies-Return None dd) in omega arith
  reach-stmt (stmt-return_of {x = x} p0 p1 p2 p3) dd = let s2 = shorter (past-expr p2) in let e2 = reach-expr p2 (dd + 1) in let s3 = not_longer (past-end p3) in let q0 = ap reach (found.stmt_bodies-Return (Some x) dd) in omega arith
  reach-stmt (stmt-throw {x = x} p0 p1 p2 p3) dd = let s2 = shorter (past-expr p2) in let e2 = reach-expr p2 (dd + 1) in let s3 = not_longer (past-end p3) in let q0 = ap reach (found.stmt_bodies-Throw x dd) in omega arith
  reach-stmt (stmt-break p0 p1) dd = let s1 = not_longer (past-end p1) in let q0 = ap reach (found.stmt_bodies-Break dd) in omega arith
  reach-stmt (stmt-continue p0 p1) dd = let s1 = not_longer (past-end p1) in let q0 = ap reach (found.stmt_bodies-Continue dd) in omega arith
  reach-stmt (stmt-try {xs = xs} {c = c} {f = f} p0 p1 p2 p3 p4) dd = let s1 = shorter (past-block p1) in let e1 = reach-block p1 (dd + 1) in let s2 = not_longer (past-handler p2) in let e2 = reach-handler p2 (dd + 1) in let s3 = not_longer (past-finally p3) in let e3 = reach-finally p3 (dd + 1) in let q0 = ap reach (found.stmt_bodies-Try xs c f dd) in let w0 = reach-append (stmts_bodies xs (dd + 1)) (or_none catch_bodies c (dd + 1) ++ (or_none stmts_bodies f (dd + 1))) in let w1 = reach-append (or_none catch_bodies c (dd + 1)) (or_none stmts_bodies f (dd + 1)) in omega arith
  reach-stmt (stmt-expr {x = x} p0 p1 p2) dd = let s1 = shorter (past-expr p1) in let e1 = reach-expr p1 (dd + 1) in let s2 = not_longer (past-end p2) in let q0 = ap reach (found.stmt_bodies-Expr x dd) in omega arith

  pub reach-else : {i0 : Option Stmt} {i1 : ℕ} {a b : Tokens} → SpElse i0 i1 a b → (dd : ℕ) → reach (or_none stmt_bodies i0 dd) + length b ≤ dd + length a
  reach-else (else-none p0) dd = omega arith
  reach-else (else-some {x = x} p0 p1) dd = let s1 = shorter (past-stmt p1) in let e1 = reach-stmt p1 dd in omega arith

  pub reach-handler : {i0 : Option Catch} {i1 : ℕ} {a b : Tokens} → SpHandler i0 i1 a b → (dd : ℕ) → reach (or_none catch_bodies i0 dd) + length b ≤ dd + length a
  reach-handler (handler-none p0) dd = omega arith
  reach-handler (handler-some {x = x} {xs = xs} p0 p1 p2) dd = let s1 = not_longer (past-caught p1) in let e1 = reach-caught p1 dd in let s2 = shorter (past-block p2) in let e2 = reach-block p2 dd in let q0 = ap reach (found.catch_bodies-Catch x xs dd) in let w0 = reach-append (or_none target_bodies x dd) (stmts_bodies xs dd) in omega arith

  pub reach-finally : {i0 : Option (List Stmt)} {i1 : ℕ} {a b : Tokens} → SpFinally i0 i1 a b → (dd : ℕ) → reach (or_none stmts_bodies i0 dd) + length b ≤ dd + length a
  reach-finally (finally-none p0) dd = omega arith
  reach-finally (finally-some {xs = xs} p0 p1) dd = let s1 = shorter (past-block p1) in let e1 = reach-block p1 dd in omega arith

  pub reach-block : {i0 : List Stmt} {i1 : ℕ} {a b : Tokens} → SpBlock i0 i1 a b → (dd : ℕ) → reach (stmts_bodies i0 dd) + 1 + length b ≤ dd + length a
  reach-block (block {xs = xs} p0 p1 p2) dd = let s1 = not_longer (past-items p1) in let e1 = reach-items p1 dd in omega arith

  pub reach-items : {i0 : List Stmt} {i1 : ℕ} {a b : Tokens} → SpItems i0 i1 a b → (dd : ℕ) → reach (stmts_bodies i0 dd) + length b ≤ dd + length a
  reach-items items-none dd = omega arith
  reach-items (items-more {x = x} {xs = xs} p0 p1) dd = let s0 = shorter (past-item p0) in let e0 = reach-item p0 dd in let s1 = not_longer (past-items p1) in let e1 = reach-items p1 dd in let w0 = reach-append (stmt_bodies x dd) (stmts_bodies xs dd) in omega arith

  pub reach-item : {i0 : Stmt} {i1 : ℕ} {a b : Tokens} → SpItem i0 i1 a b → (dd : ℕ) → reach (stmt_bodies i0 dd) + length b ≤ dd + length a
  reach-item (item-let {c = c} {xs = xs} p0 p1) dd = let s0 = shorter (past-let p0) in let e0 = reach-let p0 (dd + 1) in let s1 = not_longer (past-end p1) in let q0 = ap reach (found.stmt_bodies-Let c xs dd) in omega arith
  reach-item (item-function {f = f} p0 p1) dd = let s0 = shorter (past-function p0) in let e0 = reach-function p0 dd in let q0 = ap reach (found.stmt_bodies-Function f dd) in omega arith
  reach-item (item-class {c = c} p0 p1) dd = let s0 = shorter (past-class p0) in let e0 = reach-class p0 dd in let q0 = ap reach (found.stmt_bodies-Class c dd) in omega arith
  reach-item (item-stmt {x = x} p0) dd = let s0 = shorter (past-stmt p0) in let e0 = reach-stmt p0 dd in omega arith
