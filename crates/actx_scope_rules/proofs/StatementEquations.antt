-- What each kind of statement is to those around it, from the parts in it.
use Rattle.std.proofs.Common.{◌≡◌, subst, Bool, List, Option, Some, None, map}
use Rattle.actx_tree.specs.declared.expr.Expr.{Expr}
use Rattle.actx_tree.specs.declared.function.Function.{Function}
use Rattle.actx_tree.specs.declared.function.Class.{Class}
use Rattle.actx_tree.specs.declared.pattern.Target.{Target}
use Rattle.actx_tree.specs.declared.pattern.Elem.{Elem}
use Rattle.actx_tree.specs.declared.stmt.Stmt.{Stmt, Stmt-F, the_lemmas}
use Rattle.actx_tree.specs.declared.stmt.Stmt.TheVariants as s
use Rattle.actx_tree.specs.declared.stmt.Catch.{Catch, out-Catch, roll-out-Catch}
use Rattle.actx_tree.specs.declared.stmt.ForInit.{ForInit}
use Rattle.actx_tree.specs.Parts.{catch_of}
use Rattle.actx_scope_rules.specs.Nodes.{mapped}
use Rattle.actx_scope_rules.specs.Statements.{statement, handler_of, stmt_step, catch_step}

pub statement-Let : (is_const : Bool) (elems : List Elem) → statement (s.Let is_const elems) ≡ stmt_step (Stmt-F.Let is_const elems)
unfolding statement
statement-Let is_const elems = simp the_lemmas

pub statement-Function : (f : Function) → statement (s.Function f) ≡ stmt_step (Stmt-F.Function f)
unfolding statement
statement-Function f = simp the_lemmas

pub statement-Class : (c : Class) → statement (s.Class c) ≡ stmt_step (Stmt-F.Class c)
unfolding statement
statement-Class c = simp the_lemmas

pub statement-Block : (items : List Stmt) → statement (s.Block items) ≡ stmt_step (Stmt-F.Block (map statement items))
unfolding statement
statement-Block items = simp the_lemmas

pub statement-Empty : statement s.Empty ≡ stmt_step Stmt-F.Empty
unfolding statement
statement-Empty = simp the_lemmas

pub statement-If : (test : Expr) (body : Stmt) (other : Option Stmt) → statement (s.If test body other) ≡ stmt_step (Stmt-F.If test (statement body) (mapped statement other))
unfolding statement
statement-If test body None = simp the_lemmas
statement-If test body (Some other) = simp the_lemmas

pub statement-While : (test : Expr) (body : Stmt) → statement (s.While test body) ≡ stmt_step (Stmt-F.While test (statement body))
unfolding statement
statement-While test body = simp the_lemmas

pub statement-Do : (body : Stmt) (test : Expr) → statement (s.Do body test) ≡ stmt_step (Stmt-F.Do (statement body) test)
unfolding statement
statement-Do body test = simp the_lemmas

pub statement-For : (first : ForInit) (test : Option Expr) (update : Option Expr) (body : Stmt) → statement (s.For first test update body) ≡ stmt_step (Stmt-F.For first test update (statement body))
unfolding statement
statement-For first test update body = simp the_lemmas

pub statement-ForOf : (is_const : Bool) (target : Target) (x : Expr) (body : Stmt) → statement (s.ForOf is_const target x body) ≡ stmt_step (Stmt-F.ForOf is_const target x (statement body))
unfolding statement
statement-ForOf is_const target x body = simp the_lemmas

pub statement-Return : (x : Option Expr) → statement (s.Return x) ≡ stmt_step (Stmt-F.Return x)
unfolding statement
statement-Return x = simp the_lemmas

pub statement-Throw : (x : Expr) → statement (s.Throw x) ≡ stmt_step (Stmt-F.Throw x)
unfolding statement
statement-Throw x = simp the_lemmas

pub statement-Break : statement s.Break ≡ stmt_step Stmt-F.Break
unfolding statement
statement-Break = simp the_lemmas

pub statement-Continue : statement s.Continue ≡ stmt_step Stmt-F.Continue
unfolding statement
statement-Continue = simp the_lemmas

pub statement-Try : (items : List Stmt) (handler : Option Catch) (last : Option (List Stmt)) → statement (s.Try items handler last) ≡ stmt_step (Stmt-F.Try (map statement items) (mapped handler_of handler) (mapped (map statement) last))
unfolding statement handler_of
statement-Try items None None = simp the_lemmas
statement-Try items None (Some last) = simp the_lemmas
statement-Try items (Some handler) None = simp the_lemmas
statement-Try items (Some handler) (Some last) = simp the_lemmas

pub statement-Expr : (x : Expr) → statement (s.Expr x) ≡ stmt_step (Stmt-F.Expr x)
unfolding statement
statement-Expr x = simp the_lemmas

pub handler_of-Catch : (target : Option Target) (block : List Stmt) → handler_of (catch_of target block) ≡ catch_step (record { target = target; block = map statement block })
unfolding handler_of statement
handler_of-Catch target block = simp the_lemmas

-- ---- structs, by their fields

pub handler_of-fields : (whole : Catch) → handler_of whole ≡ catch_step (record { target = (out-Catch whole).target; block = map statement (out-Catch whole).block })
handler_of-fields whole = let e = handler_of-Catch (out-Catch whole).target (out-Catch whole).block in subst (λ (z : Catch). handler_of z ≡ catch_step (record { target = (out-Catch whole).target; block = map statement (out-Catch whole).block })) (roll-out-Catch whole) e

-- all of these
pub ruleset statement_equations = (
  statement-Let,
  statement-Function,
  statement-Class,
  statement-Block,
  statement-Empty,
  statement-If,
  statement-While,
  statement-Do,
  statement-For,
  statement-ForOf,
  statement-Return,
  statement-Throw,
  statement-Break,
  statement-Continue,
  statement-Try,
  statement-Expr,
  handler_of-Catch,
  handler_of-fields,
)
