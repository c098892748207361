-- The levels that a spelling counts are those of its statement.
use Rattle.std.proofs.Common.{◌≡◌, ℕ, Bool, List, map, Option, Some, None, arith}
use Rattle.actx_tree.specs.declared.expr.Expr.{Expr}
use Rattle.actx_tree.specs.declared.pattern.Target.{Target}
use Rattle.actx_tree.specs.declared.pattern.Target.TheVariants as target
use Rattle.actx_tree.specs.declared.pattern.Elem.{Elem}
use Rattle.actx_tree.specs.declared.stmt.Stmt.{Stmt}
use Rattle.actx_tree.specs.declared.stmt.Catch.{Catch}
use Rattle.actx_tree.specs.declared.stmt.ForInit.{ForInit}
use Rattle.actx_tree.specs.Levels.{highest, or_zero, expr_levels, target_levels, elem_levels, for_init_levels, stmt_levels, catch_levels, stmts_levels}
use Rattle.actx_tree.proofs.LevelEquations as parts_level
use Rattle.actx_tree.proofs.StmtLevelEquations as level
use Rattle.actx_grammar.specs.Tokens.{Tokens}
use Rattle.actx_program.specs.Statements.{SpBind, bind-name, bind-value, SpBinds, binds-none, binds-more, SpLet, let_binds, SpTest, test, SpValue, value-none, value-some, SpFirst, first-nothing, first-let, first-expr, SpCaught, caught-none, caught-some, SpStmt, stmt-block, stmt-empty, stmt-if, stmt-while, stmt-do, stmt-for, stmt-for_of, stmt-return, stmt-return_of, stmt-throw, stmt-break, stmt-continue, stmt-try, stmt-expr, SpElse, else-none, else-some, SpHandler, handler-none, handler-some, SpFinally, finally-none, finally-some, SpBlock, block, SpItems, items-none, items-more, SpItem, item-let, item-function, item-class, item-stmt}
use Rattle.actx_grammar.proofs.LevelLines.{levels-expr, levels-assign, levels-target, levels-function, levels-class}

pub levels-bind : {i0 : Bool} {i1 : Elem} {i2 : ℕ} {a b : Tokens} → SpBind i0 i1 i2 a b → elem_levels i1 ≡ i2
levels-bind (bind-name {n = n} p0) = let z0 = parts_level.elem_levels-Elem (target.Name n) None in let z1 = parts_level.target_levels-Name n in omega arith
levels-bind (bind-value {x = x} {y = y} p0 p1 p2) = let e0 = levels-target p0 in let e2 = levels-assign p2 in let z0 = parts_level.elem_levels-Elem x (Some y) in omega arith

pub levels-binds : {i0 : Bool} {i1 : List Elem} {i2 : ℕ} {a b : Tokens} → SpBinds i0 i1 i2 a b → highest (map elem_levels i1) ≡ i2
levels-binds binds-none = omega arith
levels-binds (binds-more {x = x} {xs = xs} p0 p1 p2) = let e1 = levels-bind p1 in let e2 = levels-binds p2 in omega arith

pub levels-let : {i0 : Bool} {i1 : List Elem} {i2 : ℕ} {a b : Tokens} → SpLet i0 i1 i2 a b → highest (map elem_levels i1) ≡ i2
levels-let (let_binds {x = x} {xs = xs} p0 p1 p2) = let e1 = levels-bind p1 in let e2 = levels-binds p2 in omega arith

pub levels-test : {i0 : Expr} {i1 : ℕ} {a b : Tokens} → SpTest i0 i1 a b → expr_levels i0 ≡ i1
levels-test (test {x = x} p0 p1 p2) = let e1 = levels-expr p1 in omega arith

pub levels-value : {i0 : Option Expr} {i1 : ℕ} {a b : Tokens} → SpValue i0 i1 a b → or_zero expr_levels i0 ≡ i1
levels-value value-none = omega arith
levels-value (value-some {x = x} p0) = let e0 = levels-expr p0 in omega arith

pub levels-first : {i0 : ForInit} {i1 : ℕ} {a b : Tokens} → SpFirst i0 i1 a b → for_init_levels i0 ≡ i1
levels-first first-nothing = omega arith
levels-first (first-let {xs = xs} p0) = let e0 = levels-let p0 in omega arith
levels-first (first-expr {x = x} p0) = let e0 = levels-expr p0 in omega arith

pub levels-caught : {i0 : Option Target} {i1 : ℕ} {a b : Tokens} → SpCaught i0 i1 a b → or_zero target_levels i0 ≡ i1
levels-caught (caught-none p0) = omega arith
levels-caught (caught-some {x = x} p0 p1 p2) = let e1 = levels-target p1 in omega arith

mutual
  pub levels-stmt : {i0 : Stmt} {i1 : ℕ} {a b : Tokens} → SpStmt i0 i1 a b → stmt_levels i0 ≡ i1
  levels-stmt (stmt-block {xs = xs} p0) = let e0 = levels-block p0 in let z0 = level.stmt_levels-Block xs in omega arith
  levels-stmt (stmt-empty p0) = let z0 = level.stmt_levels-Empty in omega arith
  levels-stmt (stmt-if {x = x} {y = y} {z = z} p0 p1 p2 p3) = let e1 = levels-test p1 in let e2 = levels-stmt p2 in let e3 = levels-else p3 in let z0 = level.stmt_levels-If x y z in omega arith
  levels-stmt (stmt-while {x = x} {y = y} p0 p1 p2) = let e1 = levels-test p1 in let e2 = levels-stmt p2 in let z0 = level.stmt_levels-While x y in omega arith
  levels-stmt (stmt-do {x = x} {y = y} p0 p1 p2 p3 p4) = let e1 = levels-stmt p1 in let e3 = levels-test p3 in let z0 = level.stmt_levels-Do y x in omega arith
  levels-stmt (stmt-for {x = x} {y = y} {z = z} {e = e} p0 p1 p2 p3 p4 p5 p6 p7 p8) = let e2 = levels-first p2 in let e4 = levels-value p4 in let e6 = levels-value p6 in let e8 = levels-stmt p8 in let z0 = level.stmt_levels-For x y z e in omega arith
  levels-stmt (stmt-for_of {c = c} {x = x} {y = y} {e = e} p0 p1 p2 p3 p4 p5 p6 p7) = let e3 = levels-target p3 in let e5 = levels-assign p5 in let e7 = levels-stmt p7 in let z0 = level.stmt_levels-ForOf c x y e in omega arith
  levels-stmt (stmt-return p0 p1) = let z0 = level.stmt_levels-Return None in omega arith
  levels-stmt (stmt-return_of {x = x} p0 p1 p2 p3) = let e2 = levels-expr p2 in let z0 = level.stmt_levels-Return (Some x) in omega arith
  levels-stmt (stmt-throw {x = x} p0 p1 p2 p3) = let e2 = levels-expr p2 in let z0 = level.stmt_levels-Throw x in omega arith
  levels-stmt (stmt-break p0 p1) = let z0 = level.stmt_levels-Break in omega arith
  levels-stmt (stmt-continue p0 p1) = let z0 = level.stmt_levels-Continue in omega arith
  levels-stmt (stmt-try {xs = xs} {c = c} {f = f} p0 p1 p2 p3 p4) = let e1 = levels-block p1 in let e2 = levels-handler p2 in let e3 = levels-finally p3 in let z0 = level.stmt_levels-Try xs c f in omega arith
  levels-stmt (stmt-expr {x = x} p0 p1 p2) = let e1 = levels-expr p1 in let z0 = level.stmt_levels-Expr x in omega arith

  pub levels-else : {i0 : Option Stmt} {i1 : ℕ} {a b : Tokens} → SpElse i0 i1 a b → or_zero stmt_levels i0 ≡ i1
  levels-else (else-none p0) = omega arith
  levels-else (else-some {x = x} p0 p1) = let e1 = levels-stmt p1 in omega arith

  pub levels-handler : {i0 : Option Catch} {i1 : ℕ} {a b : Tokens} → SpHandler i0 i1 a b → or_zero catch_levels i0 ≡ i1
  levels-handler (handler-none p0) = omega arith
  levels-handler (handler-some {x = x} {xs = xs} p0 p1 p2) = let e1 = levels-caught p1 in let e2 = levels-block p2 in let z0 = level.catch_levels-Catch x xs in omega arith

  pub levels-finally : {i0 : Option (List Stmt)} {i1 : ℕ} {a b : Tokens} → SpFinally i0 i1 a b → or_zero stmts_levels i0 ≡ i1
  levels-finally (finally-none p0) = omega arith
  levels-finally (finally-some {xs = xs} p0 p1) = let e1 = levels-block p1 in omega arith

  pub levels-block : {i0 : List Stmt} {i1 : ℕ} {a b : Tokens} → SpBlock i0 i1 a b → stmts_levels i0 ≡ i1
  levels-block (block {xs = xs} p0 p1 p2) = let e1 = levels-items p1 in omega arith

  pub levels-items : {i0 : List Stmt} {i1 : ℕ} {a b : Tokens} → SpItems i0 i1 a b → stmts_levels i0 ≡ i1
  levels-items items-none = omega arith
  levels-items (items-more {x = x} {xs = xs} p0 p1) = let e0 = levels-item p0 in let e1 = levels-items p1 in omega arith

  pub levels-item : {i0 : Stmt} {i1 : ℕ} {a b : Tokens} → SpItem i0 i1 a b → stmt_levels i0 ≡ i1
  levels-item (item-let {c = c} {xs = xs} p0 p1) = let e0 = levels-let p0 in let z0 = level.stmt_levels-Let c xs in omega arith
  levels-item (item-function {f = f} p0 p1) = let e0 = levels-function p0 in let z0 = level.stmt_levels-Function f in omega arith
  levels-item (item-class {c = c} p0 p1) = let e0 = levels-class p0 in let z0 = level.stmt_levels-Class c in omega arith
  levels-item (item-stmt {x = x} p0) = let e0 = levels-stmt p0 in omega arith
