-- Behind each spelling an end of the tokens is left, a proper one if the spelling has a token.
use Rattle.std.proofs.Common.{ℕ, Bool, List, Option}
use Rattle.actx_tree.specs.declared.expr.Expr.{Expr}
use Rattle.actx_tree.specs.declared.pattern.Target.{Target}
use Rattle.actx_tree.specs.declared.pattern.Elem.{Elem}
use Rattle.actx_tree.specs.declared.stmt.Stmt.{Stmt}
use Rattle.actx_tree.specs.declared.stmt.Catch.{Catch}
use Rattle.actx_tree.specs.declared.stmt.ForInit.{ForInit}
use Rattle.actx_grammar.specs.Tokens.{Tokens}
use Rattle.actx_program.specs.Ends.{SpEnd, end-semicolon, end-nothing}
use Rattle.actx_program.specs.Statements.{SpSemicolon, semicolon-some, semicolon-none, SpBind, bind-name, bind-value, SpBinds, binds-none, binds-more, SpLet, let_binds, SpTest, test, SpValue, value-none, value-some, SpFirst, first-nothing, first-let, first-expr, SpCaught, caught-none, caught-some, SpStmt, stmt-block, stmt-empty, stmt-if, stmt-while, stmt-do, stmt-for, stmt-for_of, stmt-return, stmt-return_of, stmt-throw, stmt-break, stmt-continue, stmt-try, stmt-expr, SpElse, else-none, else-some, SpHandler, handler-none, handler-some, SpFinally, finally-none, finally-some, SpBlock, block, SpItems, items-none, items-more, SpItem, item-let, item-function, item-class, item-stmt}
use Rattle.actx_grammar.proofs.Past.{Past, here, there, Ends, whole, some, join, upto, onto, both}
use Rattle.actx_grammar.proofs.PastLines.{past-expr, past-assign, past-target, past-function, past-class}

pub past-end : {a b : Tokens} → SpEnd a b → Ends a b
past-end (end-semicolon p0) = some here
past-end (end-nothing p0) = whole

pub past-semicolon : {a b : Tokens} → SpSemicolon a b → Ends a b
past-semicolon (semicolon-some p0) = some here
past-semicolon (semicolon-none p0) = whole

pub past-bind : {i0 : Bool} {i1 : Elem} {i2 : ℕ} {a b : Tokens} → SpBind i0 i1 i2 a b → Past a b
past-bind (bind-name p0) = here
past-bind (bind-value p0 p1 p2) = join (past-target p0) (there (past-assign p2))

pub past-binds : {i0 : Bool} {i1 : List Elem} {i2 : ℕ} {a b : Tokens} → SpBinds i0 i1 i2 a b → Ends a b
past-binds binds-none = whole
past-binds (binds-more p0 p1 p2) = some (there (upto (past-bind p1) (past-binds p2)))

pub past-let : {i0 : Bool} {i1 : List Elem} {i2 : ℕ} {a b : Tokens} → SpLet i0 i1 i2 a b → Past a b
past-let (let_binds p0 p1 p2) = there (upto (past-bind p1) (past-binds p2))

pub past-test : {i0 : Expr} {i1 : ℕ} {a b : Tokens} → SpTest i0 i1 a b → Past a b
past-test (test p0 p1 p2) = there (join (past-expr p1) (here))

pub past-value : {i0 : Option Expr} {i1 : ℕ} {a b : Tokens} → SpValue i0 i1 a b → Ends a b
past-value value-none = whole
past-value (value-some p0) = some (past-expr p0)

pub past-first : {i0 : ForInit} {i1 : ℕ} {a b : Tokens} → SpFirst i0 i1 a b → Ends a b
past-first first-nothing = whole
past-first (first-let p0) = some (past-let p0)
past-first (first-expr p0) = some (past-expr p0)

pub past-caught : {i0 : Option Target} {i1 : ℕ} {a b : Tokens} → SpCaught i0 i1 a b → Ends a b
past-caught (caught-none p0) = whole
past-caught (caught-some p0 p1 p2) = some (there (join (past-target p1) (here)))

mutual
  pub past-stmt : {i0 : Stmt} {i1 : ℕ} {a b : Tokens} → SpStmt i0 i1 a b → Past a b
  past-stmt (stmt-block p0) = past-block p0
  past-stmt (stmt-empty p0) = here
  past-stmt (stmt-if p0 p1 p2 p3) = there (join (past-test p1) (upto (past-stmt p2) (past-else p3)))
  past-stmt (stmt-while p0 p1 p2) = there (join (past-test p1) (past-stmt p2))
  past-stmt (stmt-do p0 p1 p2 p3 p4) = there (join (past-stmt p1) (there (upto (past-test p3) (past-semicolon p4))))
  past-stmt (stmt-for p0 p1 p2 p3 p4 p5 p6 p7 p8) = there (there (onto (past-first p2) (there (onto (past-value p4) (there (onto (past-value p6) (there (past-stmt p8))))))))
  past-stmt (stmt-for_of p0 p1 p2 p3 p4 p5 p6 p7) = there (there (there (join (past-target p3) (there (join (past-assign p5) (there (past-stmt p7)))))))
  past-stmt (stmt-return p0 p1) = upto here (past-end p1)
  past-stmt (stmt-return_of p0 p1 p2 p3) = there (upto (past-expr p2) (past-end p3))
  past-stmt (stmt-throw p0 p1 p2 p3) = there (upto (past-expr p2) (past-end p3))
  past-stmt (stmt-break p0 p1) = upto here (past-end p1)
  past-stmt (stmt-continue p0 p1) = upto here (past-end p1)
  past-stmt (stmt-try p0 p1 p2 p3 p4) = there (upto (past-block p1) (both (past-handler p2) (past-finally p3)))
  past-stmt (stmt-expr p0 p1 p2) = upto (past-expr p1) (past-end p2)

  pub past-else : {i0 : Option Stmt} {i1 : ℕ} {a b : Tokens} → SpElse i0 i1 a b → Ends a b
  past-else (else-none p0) = whole
  past-else (else-some p0 p1) = some (there (past-stmt p1))

  pub past-handler : {i0 : Option Catch} {i1 : ℕ} {a b : Tokens} → SpHandler i0 i1 a b → Ends a b
  past-handler (handler-none p0) = whole
  past-handler (handler-some p0 p1 p2) = some (there (onto (past-caught p1) (past-block p2)))

  pub past-finally : {i0 : Option (List Stmt)} {i1 : ℕ} {a b : Tokens} → SpFinally i0 i1 a b → Ends a b
  past-finally (finally-none p0) = whole
  past-finally (finally-some p0 p1) = some (there (past-block p1))

  pub past-block : {i0 : List Stmt} {i1 : ℕ} {a b : Tokens} → SpBlock i0 i1 a b → Past a b
  past-block (block p0 p1 p2) = there (onto (past-items p1) (here))

  pub past-items : {i0 : List Stmt} {i1 : ℕ} {a b : Tokens} → SpItems i0 i1 a b → Ends a b
  past-items items-none = whole
  past-items (items-more p0 p1) = some (upto (past-item p0) (past-items p1))

  pub past-item : {i0 : Stmt} {i1 : ℕ} {a b : Tokens} → SpItem i0 i1 a b → Past a b
  past-item (item-let p0 p1) = upto (past-let p0) (past-end p1)
  past-item (item-function p0 p1) = past-function p0
  past-item (item-class p0 p1) = past-class p0
  past-item (item-stmt p0) = past-stmt p0
