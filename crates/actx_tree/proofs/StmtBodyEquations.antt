-- Which bodies are in each kind of statement.
use Rattle.std.proofs.Common.{◌≡◌, subst, ℕ, Bool, ◌+◌, ◌++◌, [], ap, List, Option, Some, None, map}
use Rattle.actx_tree.specs.declared.expr.Expr.{Expr}
use Rattle.actx_tree.specs.declared.function.Function.{Function}
use Rattle.actx_tree.specs.declared.function.Class.{Class}
use Rattle.actx_tree.specs.declared.pattern.Target.{Target}
use Rattle.actx_tree.specs.declared.pattern.Elem.{Elem}
use Rattle.actx_tree.specs.declared.stmt.Stmt.{Stmt, Stmt-F, the_lemmas}
use Rattle.actx_tree.specs.declared.stmt.Stmt.TheVariants as s
use Rattle.actx_tree.specs.declared.stmt.Catch.{Catch, out-Catch, roll-out-Catch}
use Rattle.actx_tree.specs.declared.stmt.ForInit.{ForInit}
use Rattle.actx_tree.specs.Parts.{catch_of}
use Rattle.actx_tree.specs.Bodies.{expr_bodies, function_bodies, class_bodies, target_bodies, elem_bodies, stmt_bodies, catch_bodies, for_init_bodies, stmts_bodies, all, or_none, Found, stmt_step, catch_step}

-- ---- statements

pub stmt_bodies-Let : (is_const : Bool) (elems : List Elem) (d : ℕ) → stmt_bodies (s.Let is_const elems) d ≡ all (map elem_bodies elems) (d + 1)
unfolding stmt_bodies
stmt_bodies-Let is_const elems d = let q : stmt_bodies (s.Let is_const elems) ≡ stmt_step (Stmt-F.Let is_const elems) = simp the_lemmas in ap (λ (g : Found). g d) q

pub stmt_bodies-Function : (f : Function) (d : ℕ) → stmt_bodies (s.Function f) d ≡ function_bodies f d
unfolding stmt_bodies
stmt_bodies-Function f d = let q : stmt_bodies (s.Function f) ≡ stmt_step (Stmt-F.Function f) = simp the_lemmas in ap (λ (g : Found). g d) q

pub stmt_bodies-Class : (c : Class) (d : ℕ) → stmt_bodies (s.Class c) d ≡ class_bodies c d
unfolding stmt_bodies
stmt_bodies-Class c d = let q : stmt_bodies (s.Class c) ≡ stmt_step (Stmt-F.Class c) = simp the_lemmas in ap (λ (g : Found). g d) q

pub stmt_bodies-Block : (block : List Stmt) (d : ℕ) → stmt_bodies (s.Block block) d ≡ all (map stmt_bodies block) (d + 1)
unfolding stmt_bodies
stmt_bodies-Block block d = let q : stmt_bodies (s.Block block) ≡ stmt_step (Stmt-F.Block (map stmt_bodies block)) = simp the_lemmas in ap (λ (g : Found). g d) q

pub stmt_bodies-Empty : (d : ℕ) → stmt_bodies s.Empty d ≡ []
unfolding stmt_bodies
stmt_bodies-Empty d = let q : stmt_bodies s.Empty ≡ stmt_step Stmt-F.Empty = simp the_lemmas in ap (λ (g : Found). g d) q

pub stmt_bodies-If : (test : Expr) (then : Stmt) (other : Option Stmt) (d : ℕ) → stmt_bodies (s.If test then other) d ≡ expr_bodies test (d + 1) ++ (stmt_bodies then (d + 1) ++ or_none stmt_bodies other (d + 1))
unfolding stmt_bodies
stmt_bodies-If test then None d = let q : stmt_bodies (s.If test then None) ≡ stmt_step (Stmt-F.If test (stmt_bodies then) None) = simp the_lemmas in ap (λ (g : Found). g d) q
stmt_bodies-If test then (Some other) d = let q : stmt_bodies (s.If test then (Some other)) ≡ stmt_step (Stmt-F.If test (stmt_bodies then) (Some (stmt_bodies other))) = simp the_lemmas in ap (λ (g : Found). g d) q

pub stmt_bodies-While : (test : Expr) (body : Stmt) (d : ℕ) → stmt_bodies (s.While test body) d ≡ expr_bodies test (d + 1) ++ stmt_bodies body (d + 1)
unfolding stmt_bodies
stmt_bodies-While test body d = let q : stmt_bodies (s.While test body) ≡ stmt_step (Stmt-F.While test (stmt_bodies body)) = simp the_lemmas in ap (λ (g : Found). g d) q

pub stmt_bodies-Do : (body : Stmt) (test : Expr) (d : ℕ) → stmt_bodies (s.Do body test) d ≡ stmt_bodies body (d + 1) ++ expr_bodies test (d + 1)
unfolding stmt_bodies
stmt_bodies-Do body test d = let q : stmt_bodies (s.Do body test) ≡ stmt_step (Stmt-F.Do (stmt_bodies body) test) = simp the_lemmas in ap (λ (g : Found). g d) q

pub stmt_bodies-For : (first : ForInit) (test : Option Expr) (update : Option Expr) (body : Stmt) (d : ℕ) → stmt_bodies (s.For first test update body) d ≡ for_init_bodies first (d + 1) ++ (or_none expr_bodies test (d + 1) ++ (or_none expr_bodies update (d + 1) ++ stmt_bodies body (d + 1)))
unfolding stmt_bodies
stmt_bodies-For first test update body d = let q : stmt_bodies (s.For first test update body) ≡ stmt_step (Stmt-F.For first test update (stmt_bodies body)) = simp the_lemmas in ap (λ (g : Found). g d) q

pub stmt_bodies-ForOf : (is_const : Bool) (target : Target) (x : Expr) (body : Stmt) (d : ℕ) → stmt_bodies (s.ForOf is_const target x body) d ≡ target_bodies target (d + 1) ++ (expr_bodies x (d + 1) ++ stmt_bodies body (d + 1))
unfolding stmt_bodies
stmt_bodies-ForOf is_const target x body d = let q : stmt_bodies (s.ForOf is_const target x body) ≡ stmt_step (Stmt-F.ForOf is_const target x (stmt_bodies body)) = simp the_lemmas in ap (λ (g : Found). g d) q

pub stmt_bodies-Return : (x : Option Expr) (d : ℕ) → stmt_bodies (s.Return x) d ≡ or_none expr_bodies x (d + 1)
unfolding stmt_bodies
stmt_bodies-Return x d = let q : stmt_bodies (s.Return x) ≡ stmt_step (Stmt-F.Return x) = simp the_lemmas in ap (λ (g : Found). g d) q

pub stmt_bodies-Throw : (x : Expr) (d : ℕ) → stmt_bodies (s.Throw x) d ≡ expr_bodies x (d + 1)
unfolding stmt_bodies
stmt_bodies-Throw x d = let q : stmt_bodies (s.Throw x) ≡ stmt_step (Stmt-F.Throw x) = simp the_lemmas in ap (λ (g : Found). g d) q

pub stmt_bodies-Break : (d : ℕ) → stmt_bodies s.Break d ≡ []
unfolding stmt_bodies
stmt_bodies-Break d = let q : stmt_bodies s.Break ≡ stmt_step Stmt-F.Break = simp the_lemmas in ap (λ (g : Found). g d) q

pub stmt_bodies-Continue : (d : ℕ) → stmt_bodies s.Continue d ≡ []
unfolding stmt_bodies
stmt_bodies-Continue d = let q : stmt_bodies s.Continue ≡ stmt_step Stmt-F.Continue = simp the_lemmas in ap (λ (g : Found). g d) q

pub stmt_bodies-Try : (block : List Stmt) (handler : Option Catch) (last : Option (List Stmt)) (d : ℕ) → stmt_bodies (s.Try block handler last) d ≡ all (map stmt_bodies block) (d + 1) ++ (or_none catch_bodies handler (d + 1) ++ or_none stmts_bodies last (d + 1))
unfolding stmt_bodies catch_bodies
stmt_bodies-Try block None None d = let q : stmt_bodies (s.Try block None None) ≡ stmt_step (Stmt-F.Try (map stmt_bodies block) None None) = simp the_lemmas in ap (λ (g : Found). g d) q
stmt_bodies-Try block None (Some last) d = let q : stmt_bodies (s.Try block None (Some last)) ≡ stmt_step (Stmt-F.Try (map stmt_bodies block) None (Some (map stmt_bodies last))) = simp the_lemmas in ap (λ (g : Found). g d) q
stmt_bodies-Try block (Some handler) None d = let q : stmt_bodies (s.Try block (Some handler) None) ≡ stmt_step (Stmt-F.Try (map stmt_bodies block) (Some (catch_bodies handler)) None) = simp the_lemmas in ap (λ (g : Found). g d) q
stmt_bodies-Try block (Some handler) (Some last) d = let q : stmt_bodies (s.Try block (Some handler) (Some last)) ≡ stmt_step (Stmt-F.Try (map stmt_bodies block) (Some (catch_bodies handler)) (Some (map stmt_bodies last))) = simp the_lemmas in ap (λ (g : Found). g d) q

pub stmt_bodies-Expr : (x : Expr) (d : ℕ) → stmt_bodies (s.Expr x) d ≡ expr_bodies x (d + 1)
unfolding stmt_bodies
stmt_bodies-Expr x d = let q : stmt_bodies (s.Expr x) ≡ stmt_step (Stmt-F.Expr x) = simp the_lemmas in ap (λ (g : Found). g d) q

pub catch_bodies-Catch : (target : Option Target) (block : List Stmt) (d : ℕ) → catch_bodies (catch_of target block) d ≡ or_none target_bodies target d ++ all (map stmt_bodies block) d
unfolding catch_bodies stmt_bodies
catch_bodies-Catch target block d = let q : catch_bodies (catch_of target block) ≡ catch_step (record { target = target; block = map stmt_bodies block }) = simp the_lemmas in ap (λ (g : Found). g d) q

-- ---- structs, by their fields

pub catch_bodies-fields : (whole : Catch) (d : ℕ) → catch_bodies whole d ≡ or_none target_bodies (out-Catch whole).target d ++ all (map stmt_bodies (out-Catch whole).block) d
catch_bodies-fields whole d = let e = catch_bodies-Catch (out-Catch whole).target (out-Catch whole).block d in subst (λ (z : Catch). catch_bodies z d ≡ or_none target_bodies (out-Catch whole).target d ++ all (map stmt_bodies (out-Catch whole).block) d) (roll-out-Catch whole) e

-- all of these
pub ruleset stmt_bodies_equations = (
  stmt_bodies-Let,
  stmt_bodies-Function,
  stmt_bodies-Class,
  stmt_bodies-Block,
  stmt_bodies-Empty,
  stmt_bodies-If,
  stmt_bodies-While,
  stmt_bodies-Do,
  stmt_bodies-For,
  stmt_bodies-ForOf,
  stmt_bodies-Return,
  stmt_bodies-Throw,
  stmt_bodies-Break,
  stmt_bodies-Continue,
  stmt_bodies-Try,
  stmt_bodies-Expr,
  catch_bodies-Catch,
  catch_bodies-fields,
)
