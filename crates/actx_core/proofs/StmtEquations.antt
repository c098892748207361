-- What each kind of statement becomes, from the parts in it.
use Rattle.std.proofs.Common.{◌≡◌, Bool, List, Option, Some, None, map, subst}
use Rattle.std.specs.Option.{option_map}
use Rattle.actx_tree.specs.declared.expr.Expr.{Expr}
use Rattle.actx_tree.specs.declared.function.Function.{Function}
use Rattle.actx_tree.specs.declared.function.Class.{Class}
use Rattle.actx_tree.specs.declared.pattern.Target.{Target}
use Rattle.actx_tree.specs.declared.pattern.Elem.{Elem}
use Rattle.actx_tree.specs.declared.stmt.Stmt.{Stmt, Stmt-F, the_lemmas}
use Rattle.actx_tree.specs.declared.stmt.Stmt.TheVariants as s
use Rattle.actx_tree.specs.declared.stmt.Catch.{Catch, out-Catch, roll-out-Catch}
use Rattle.actx_tree.specs.declared.stmt.ForInit.{ForInit}
use Rattle.actx_tree.specs.Parts.{catch_of}
use Rattle.actx_core.specs.Names.{Names}
use Rattle.actx_core.specs.Functions.{Inside}
use Rattle.actx_core.specs.Statements.{statement, handler_of, stmt_step, catch_step}

pub statement-Let : (names : Names) (inside : Inside) (is_const : Bool) (elems : List Elem) → statement names inside (s.Let is_const elems) ≡ stmt_step names inside (Stmt-F.Let is_const elems)
unfolding statement
statement-Let names inside is_const elems = simp the_lemmas

pub statement-Function : (names : Names) (inside : Inside) (f : Function) → statement names inside (s.Function f) ≡ stmt_step names inside (Stmt-F.Function f)
unfolding statement
statement-Function names inside f = simp the_lemmas

pub statement-Class : (names : Names) (inside : Inside) (c : Class) → statement names inside (s.Class c) ≡ stmt_step names inside (Stmt-F.Class c)
unfolding statement
statement-Class names inside c = simp the_lemmas

pub statement-Block : (names : Names) (inside : Inside) (items : List Stmt) → statement names inside (s.Block items) ≡ stmt_step names inside (Stmt-F.Block (map (statement names inside) items))
unfolding statement
statement-Block names inside items = simp the_lemmas

pub statement-Empty : (names : Names) (inside : Inside) → statement names inside s.Empty ≡ stmt_step names inside Stmt-F.Empty
unfolding statement
statement-Empty names inside = simp the_lemmas

pub statement-If : (names : Names) (inside : Inside) (test : Expr) (body : Stmt) (other : Option Stmt) → statement names inside (s.If test body other) ≡ stmt_step names inside (Stmt-F.If test (statement names inside body) (option_map (statement names inside) other))
unfolding statement
statement-If names inside test body None = simp the_lemmas
statement-If names inside test body (Some other) = simp the_lemmas

pub statement-While : (names : Names) (inside : Inside) (test : Expr) (body : Stmt) → statement names inside (s.While test body) ≡ stmt_step names inside (Stmt-F.While test (statement names inside body))
unfolding statement
statement-While names inside test body = simp the_lemmas

pub statement-Do : (names : Names) (inside : Inside) (body : Stmt) (test : Expr) → statement names inside (s.Do body test) ≡ stmt_step names inside (Stmt-F.Do (statement names inside body) test)
unfolding statement
statement-Do names inside body test = simp the_lemmas

pub statement-For : (names : Names) (inside : Inside) (first : ForInit) (test : Option Expr) (update : Option Expr) (body : Stmt) → statement names inside (s.For first test update body) ≡ stmt_step names inside (Stmt-F.For first test update (statement names inside body))
unfolding statement
statement-For names inside first test update body = simp the_lemmas

pub statement-ForOf : (names : Names) (inside : Inside) (is_const : Bool) (target : Target) (x : Expr) (body : Stmt) → statement names inside (s.ForOf is_const target x body) ≡ stmt_step names inside (Stmt-F.ForOf is_const target x (statement names inside body))
unfolding statement
statement-ForOf names inside is_const target x body = simp the_lemmas

pub statement-Return : (names : Names) (inside : Inside) (x : Option Expr) → statement names inside (s.Return x) ≡ stmt_step names inside (Stmt-F.Return x)
unfolding statement
statement-Return names inside x = simp the_lemmas

pub statement-Throw : (names : Names) (inside : Inside) (x : Expr) → statement names inside (s.Throw x) ≡ stmt_step names inside (Stmt-F.Throw x)
unfolding statement
statement-Throw names inside x = simp the_lemmas

pub statement-Break : (names : Names) (inside : Inside) → statement names inside s.Break ≡ stmt_step names inside Stmt-F.Break
unfolding statement
statement-Break names inside = simp the_lemmas

pub statement-Continue : (names : Names) (inside : Inside) → statement names inside s.Continue ≡ stmt_step names inside Stmt-F.Continue
unfolding statement
statement-Continue names inside = simp the_lemmas

pub statement-Try : (names : Names) (inside : Inside) (items : List Stmt) (handler : Option Catch) (last : Option (List Stmt)) → statement names inside (s.Try items handler last) ≡ stmt_step names inside (Stmt-F.Try (map (statement names inside) items) (option_map (handler_of names inside) handler) (option_map (map (statement names inside)) last))
unfolding statement handler_of
statement-Try names inside items None None = simp the_lemmas
statement-Try names inside items None (Some last) = simp the_lemmas
statement-Try names inside items (Some handler) None = simp the_lemmas
statement-Try names inside items (Some handler) (Some last) = simp the_lemmas

pub statement-Expr : (names : Names) (inside : Inside) (x : Expr) → statement names inside (s.Expr x) ≡ stmt_step names inside (Stmt-F.Expr x)
unfolding statement
statement-Expr names inside x = simp the_lemmas

pub handler_of-Catch : (names : Names) (inside : Inside) (target : Option Target) (block : List Stmt) → handler_of names inside (catch_of target block) ≡ catch_step names inside (record { target = target; block = map (statement names inside) block })
unfolding statement handler_of
handler_of-Catch names inside target block = simp the_lemmas

pub handler_of-fields : (names : Names) (inside : Inside) (whole : Catch) → handler_of names inside whole ≡ catch_step names inside (record { target = (out-Catch whole).target; block = map (statement names inside) (out-Catch whole).block })
handler_of-fields names inside whole = let h = handler_of-Catch names inside (out-Catch whole).target (out-Catch whole).block in subst (λ (z : Catch). handler_of names inside z ≡ catch_step names inside (record { target = (out-Catch whole).target; block = map (statement names inside) (out-Catch whole).block })) (roll-out-Catch whole) h

-- what each kind gives, from the parts in it
pub ruleset stmt_equations = (
  statement-Let,
  statement-Function,
  statement-Class,
  statement-Block,
  statement-Empty,
  statement-If,
  statement-While,
  statement-Do,
  statement-For,
  statement-ForOf,
  statement-Return,
  statement-Throw,
  statement-Break,
  statement-Continue,
  statement-Try,
  statement-Expr,
  handler_of-Catch,
)
