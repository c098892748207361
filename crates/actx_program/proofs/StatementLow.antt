-- A spelled statement has no more levels than tokens, and one.
use Rattle.std.proofs.Common.{ℕ, ◌+◌, ◌≤◌, Bool, List, length, Option, arith}
use Rattle.actx_tree.specs.declared.expr.Expr.{Expr}
use Rattle.actx_tree.specs.declared.pattern.Target.{Target}
use Rattle.actx_tree.specs.declared.pattern.Elem.{Elem}
use Rattle.actx_tree.specs.declared.stmt.Stmt.{Stmt}
use Rattle.actx_tree.specs.declared.stmt.Catch.{Catch}
use Rattle.actx_tree.specs.declared.stmt.ForInit.{ForInit}
use Rattle.actx_grammar.specs.Tokens.{Tokens}
use Rattle.actx_program.specs.Statements.{SpBind, bind-name, bind-value, SpBinds, binds-none, binds-more, SpLet, let_binds, SpTest, test, SpValue, value-none, value-some, SpFirst, first-nothing, first-let, first-expr, SpCaught, caught-none, caught-some, SpStmt, stmt-block, stmt-empty, stmt-if, stmt-while, stmt-do, stmt-for, stmt-for_of, stmt-return, stmt-return_of, stmt-throw, stmt-break, stmt-continue, stmt-try, stmt-expr, SpElse, else-none, else-some, SpHandler, handler-none, handler-some, SpFinally, finally-none, finally-some, SpBlock, block, SpItems, items-none, items-more, SpItem, item-let, item-function, item-class, item-stmt}
use Rattle.actx_grammar.proofs.Past.{shorter, not_longer}
use Rattle.actx_program.proofs.StatementPast.{past-end, past-semicolon, past-bind, past-binds, past-let, past-test, past-value, past-first, past-caught, past-stmt, past-else, past-handler, past-finally, past-block, past-items, past-item}
use Rattle.actx_grammar.proofs.PastLines.{past-expr, past-assign, past-target, past-function, past-class}
use Rattle.actx_grammar.proofs.LowLines.{low-expr, low-assign, low-target, low-function, low-class}

pub low-bind : {i0 : Bool} {i1 : Elem} {i2 : ℕ} {a b : Tokens} → SpBind i0 i1 i2 a b → i2 + length b ≤ length a
low-bind (bind-name p0) = omega arith
low-bind (bind-value p0 p1 p2) = let s0 = shorter (past-target p0) in let e0 = low-target p0 in let s2 = shorter (past-assign p2) in let e2 = low-assign p2 in omega arith

pub low-binds : {i0 : Bool} {i1 : List Elem} {i2 : ℕ} {a b : Tokens} → SpBinds i0 i1 i2 a b → i2 + length b ≤ length a
low-binds binds-none = omega arith
low-binds (binds-more p0 p1 p2) = let s1 = shorter (past-bind p1) in let e1 = low-bind p1 in let s2 = not_longer (past-binds p2) in let e2 = low-binds p2 in omega arith

pub low-let : {i0 : Bool} {i1 : List Elem} {i2 : ℕ} {a b : Tokens} → SpLet i0 i1 i2 a b → i2 + 1 + length b ≤ length a
low-let (let_binds p0 p1 p2) = let s1 = shorter (past-bind p1) in let e1 = low-bind p1 in let s2 = not_longer (past-binds p2) in let e2 = low-binds p2 in omega arith

pub low-test : {i0 : Expr} {i1 : ℕ} {a b : Tokens} → SpTest i0 i1 a b → i1 + length b ≤ length a
low-test (test p0 p1 p2) = let s1 = shorter (past-expr p1) in let e1 = low-expr p1 in omega arith

pub low-value : {i0 : Option Expr} {i1 : ℕ} {a b : Tokens} → SpValue i0 i1 a b → i1 + length b ≤ length a
low-value value-none = omega arith
low-value (value-some p0) = let s0 = shorter (past-expr p0) in let e0 = low-expr p0 in omega arith

pub low-first : {i0 : ForInit} {i1 : ℕ} {a b : Tokens} → SpFirst i0 i1 a b → i1 + length b ≤ length a
low-first first-nothing = omega arith
low-first (first-let p0) = let s0 = shorter (past-let p0) in let e0 = low-let p0 in omega arith
low-first (first-expr p0) = let s0 = shorter (past-expr p0) in let e0 = low-expr p0 in omega arith

pub low-caught : {i0 : Option Target} {i1 : ℕ} {a b : Tokens} → SpCaught i0 i1 a b → i1 + length b ≤ length a
low-caught (caught-none p0) = omega arith
low-caught (caught-some p0 p1 p2) = let s1 = shorter (past-target p1) in let e1 = low-target p1 in omega arith

mutual
  pub low-stmt : {i0 : Stmt} {i1 : ℕ} {a b : Tokens} → SpStmt i0 i1 a b → i1 + length b ≤ length a + 1
  low-stmt (stmt-block p0) = let s0 = shorter (past-block p0) in let e0 = low-block p0 in omega arith
  low-stmt (stmt-empty p0) = omega arith
  low-stmt (stmt-if p0 p1 p2 p3) = let s1 = shorter (past-test p1) in let e1 = low-test p1 in let s2 = shorter (past-stmt p2) in let e2 = low-stmt p2 in let s3 = not_longer (past-else p3) in let e3 = low-else p3 in omega arith
  low-stmt (stmt-while p0 p1 p2) = let s1 = shorter (past-test p1) in let e1 = low-test p1 in let s2 = shorter (past-stmt p2) in let e2 = low-stmt p2 in omega arith
  low-stmt (stmt-do p0 p1 p2 p3 p4) = let s1 = shorter (past-stmt p1) in let e1 = low-stmt p1 in let s3 = shorter (past-test p3) in let e3 = low-test p3 in let s4 = not_longer (past-semicolon p4) in omega arith
  low-stmt (stmt-for p0 p1 p2 p3 p4 p5 p6 p7 p8) = let s2 = not_longer (past-first p2) in let e2 = low-first p2 in let s4 = not_longer (past-value p4) in let e4 = low-value p4 in let s6 = not_longer (past-value p6) in let e6 = low-value p6 in let s8 = shorter (past-stmt p8) in let e8 = low-stmt p8 in omega arith
  low-stmt (stmt-for_of p0 p1 p2 p3 p4 p5 p6 p7) = let s3 = shorter (past-target p3) in let e3 = low-target p3 in let s5 = shorter (past-assign p5) in let e5 = low-assign p5 in let s7 = shorter (past-stmt p7) in let e7 = low-stmt p7 in omega arith
  low-stmt (stmt-return p0 p1) = let s1 = not_longer (past-end p1) in omega arith
  low-stmt (stmt-return_of p0 p1 p2 p3) = let s2 = shorter (past-expr p2) in let e2 = low-expr p2 in let s3 = not_longer (past-end p3) in omega arith
  low-stmt (stmt-throw p0 p1 p2 p3) = let s2 = shorter (past-expr p2) in let e2 = low-expr p2 in let s3 = not_longer (past-end p3) in omega arith
  low-stmt (stmt-break p0 p1) = let s1 = not_longer (past-end p1) in omega arith
  low-stmt (stmt-continue p0 p1) = let s1 = not_longer (past-end p1) in omega arith
  low-stmt (stmt-try p0 p1 p2 p3 p4) = let s1 = shorter (past-block p1) in let e1 = low-block p1 in let s2 = not_longer (past-handler p2) in let e2 = low-handler p2 in let s3 = not_longer (past-finally p3) in let e3 = low-finally p3 in omega arith
  low-stmt (stmt-expr p0 p1 p2) = let s1 = shorter (past-expr p1) in let e1 = low-expr p1 in let s2 = not_longer (past-end p2) in omega arith

  pub low-else : {i0 : Option Stmt} {i1 : ℕ} {a b : Tokens} → SpElse i0 i1 a b → i1 + length b ≤ length a
  low-else (else-none p0) = omega arith
  low-else (else-some p0 p1) = let s1 = shorter (past-stmt p1) in let e1 = low-stmt p1 in omega arith

  pub low-handler : {i0 : Option Catch} {i1 : ℕ} {a b : Tokens} → SpHandler i0 i1 a b → i1 + length b ≤ length a
  low-handler (handler-none p0) = omega arith
  low-handler (handler-some p0 p1 p2) = let s1 = not_longer (past-caught p1) in let e1 = low-caught p1 in let s2 = shorter (past-block p2) in let e2 = low-block p2 in omega arith

  pub low-finally : {i0 : Option (List Stmt)} {i1 : ℕ} {a b : Tokens} → SpFinally i0 i1 a b → i1 + length b ≤ length a
  low-finally (finally-none p0) = omega arith
  low-finally (finally-some p0 p1) = let s1 = shorter (past-block p1) in let e1 = low-block p1 in omega arith

  pub low-block : {i0 : List Stmt} {i1 : ℕ} {a b : Tokens} → SpBlock i0 i1 a b → i1 + 1 + length b ≤ length a
  low-block (block p0 p1 p2) = let s1 = not_longer (past-items p1) in let e1 = low-items p1 in omega arith

  pub low-items : {i0 : List Stmt} {i1 : ℕ} {a b : Tokens} → SpItems i0 i1 a b → i1 + length b ≤ length a + 1
  low-items items-none = omega arith
  low-items (items-more p0 p1) = let s0 = shorter (past-item p0) in let e0 = low-item p0 in let s1 = not_longer (past-items p1) in let e1 = low-items p1 in omega arith

  pub low-item : {i0 : Stmt} {i1 : ℕ} {a b : Tokens} → SpItem i0 i1 a b → i1 + length b ≤ length a + 1
  low-item (item-let p0 p1) = let s0 = shorter (past-let p0) in let e0 = low-let p0 in let s1 = not_longer (past-end p1) in omega arith
  low-item (item-function p0 p1) = let s0 = shorter (past-function p0) in let e0 = low-function p0 in omega arith
  low-item (item-class p0 p1) = let s0 = shorter (past-class p0) in let e0 = low-class p0 in omega arith
  low-item (item-stmt p0) = let s0 = shorter (past-stmt p0) in let e0 = low-stmt p0 in omega arith
