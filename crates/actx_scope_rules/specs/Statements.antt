-- The nodes of statements and of bodies, in source order, and what each statement declares.
--
-- Which parts are nodes: each statement, also a declaration in the head of a `for`; a declared function or class is one node.
-- What a `catch` binds stands at its `try`.
use Rattle.std.specs.Prelude.{Bool, true, false, List, [], ◌∷◌, ◌++◌, map, Option, Some, None}
use Rattle.actx_tree.specs.Folds.{StmtSteps, StmtOf, CatchOf, fold_stmt, fold_catch}
use Rattle.actx_tree.specs.declared.expr.Expr.{Expr}
use Rattle.actx_tree.specs.declared.pattern.Elem.{Elem}
use Rattle.actx_tree.specs.declared.pattern.Target.{Target}
use Rattle.actx_tree.specs.declared.stmt.Stmt.{Stmt, Stmt-F}
use Rattle.actx_tree.specs.declared.stmt.Catch.{Catch}
use Rattle.actx_tree.specs.declared.stmt.ForInit.{ForInit}
use Rattle.actx_tree.specs.declared.stmt.ForInit.TheVariants as init
use Rattle.actx_scope_rules.specs.declared.early.EarlyKind.TheVariants as kind
use Rattle.actx_scope_rules.specs.declared.place.Role.TheVariants as roles
use Rattle.actx_scope_rules.specs.Scopes.{Scope, slots_of, slot_names}
use Rattle.actx_scope_rules.specs.Contexts.{within, behind, in_turn}
use Rattle.actx_scope_rules.specs.Conditions.{when, is_bad_break, is_bad_return}
use Rattle.actx_scope_rules.specs.Nodes.{Marks, Part, none, both, node, sound, with_role, all_names, binding_node, expr_part, function_part, class_part, target_part, elem_part}

-- the nodes of a statement, and the slots that it declares in the scope around it
pub record Statement : Type 0 where
  pub marks : Marks
  pub slots : Scope

-- a statement that declares nothing
abbrev pub plain : Marks → Statement
plain f = record { marks = f; slots = [] }

abbrev pub all_slots : List Statement → Scope
all_slots [] = []
all_slots (s ∷ ss) = s.slots ++ all_slots ss

-- statements in a row: each stands behind the names that those before it declare
abbrev pub in_order : List Statement → Marks
in_order [] c = []
in_order (s ∷ ss) c = s.marks c ++ in_order ss (behind (slot_names s.slots) c)

-- statements in a scope of their own, if they declare something; no name stands before them
abbrev pub block : List Statement → Marks
block ss c = in_order ss (within (all_slots ss) c)

abbrev pub or_none : {A : Type 0} → (A → Marks) → Option A → Marks
or_none f None c = []
or_none f (Some x) c = f x c

-- the body of a loop
abbrev pub looped : Marks → Marks
looped f c = f (in_turn c)

-- in a scope of these slots
abbrev pub scoped : Scope → Marks → Marks
scoped slots f c = f (within slots c)

abbrev pub expr_marks : Expr → Marks
expr_marks x = (expr_part x).marks

abbrev pub target_marks : Target → Marks
target_marks x = (target_part x).marks

abbrev pub marks_of : Statement → Marks
marks_of s = s.marks

-- ---- declarations

abbrev pub elems_slots : Bool → List Elem → Scope
elems_slots is_const elems = slots_of is_const (all_names (map elem_part elems))

-- a `let` or a `const`
abbrev pub elems_marks : List Elem → Marks
elems_marks elems = binding_node (map elem_part elems)

abbrev pub target_slots : Bool → Target → Scope
target_slots is_const target = slots_of is_const (target_part target).names

-- a function or a class
abbrev pub declaration : Part → Statement
declaration p = record { marks = with_role roles.Declared p.marks; slots = slots_of true p.names }

-- what comes first in the head of a `for`
abbrev pub for_init_slots : ForInit → Scope
for_init_slots init.Nothing = []
for_init_slots (init.Let is_const elems) = elems_slots is_const elems
for_init_slots (init.Expr x) = []

abbrev pub for_init_marks : ForInit → Marks
for_init_marks init.Nothing = none
for_init_marks (init.Let is_const elems) = elems_marks elems
for_init_marks (init.Expr x) = expr_marks x

-- ---- statements

abbrev pub stmt_step : StmtOf Statement → Statement
stmt_step (Stmt-F.Let is_const elems) = record { marks = elems_marks elems; slots = elems_slots is_const elems }
stmt_step (Stmt-F.Function f) = declaration (function_part f)
stmt_step (Stmt-F.Class c) = declaration (class_part c)
stmt_step (Stmt-F.Block items) = plain (node sound (block items))
stmt_step Stmt-F.Empty = plain (node sound none)
stmt_step (Stmt-F.If test body other) = plain (node sound (both (expr_marks test) (both body.marks (or_none marks_of other))))
stmt_step (Stmt-F.While test body) = plain (node sound (both (expr_marks test) (looped body.marks)))
stmt_step (Stmt-F.Do body test) = plain (node sound (both (looped body.marks) (expr_marks test)))
stmt_step (Stmt-F.For first test update body) =
    plain (node sound (scoped (for_init_slots first) (both (for_init_marks first) (both (or_none expr_marks test) (both (or_none expr_marks update) (looped body.marks))))))
stmt_step (Stmt-F.ForOf is_const target x body) =
    let slots = target_slots is_const target in plain (node sound (both (scoped slots (target_marks target)) (both (expr_marks x) (scoped slots (looped body.marks)))))
stmt_step (Stmt-F.Return x) = plain (node (λ p. when (is_bad_return p) kind.BadReturn) (or_none expr_marks x))
stmt_step (Stmt-F.Throw x) = plain (node sound (expr_marks x))
stmt_step Stmt-F.Break = plain (node (λ p. when (is_bad_break p) kind.BadBreak) none)
stmt_step Stmt-F.Continue = plain (node (λ p. when (is_bad_break p) kind.BadBreak) none)
stmt_step (Stmt-F.Try items handler last) = plain (node sound (both (block items) (both (or_none marks_of handler) (or_none block last))))
stmt_step (Stmt-F.Expr x) = plain (node sound (expr_marks x))

abbrev pub caught_slots : Option Target → Scope
caught_slots None = []
caught_slots (Some target) = target_slots false target

-- what was thrown is bound in a scope around the block
abbrev pub catch_step : CatchOf Statement → Statement
catch_step c = plain (scoped (caught_slots c.target) (both (or_none target_marks c.target) (block c.block)))

abbrev pub stmt_steps : StmtSteps Statement
stmt_steps = record { stmt = stmt_step; catch = catch_step }

unfoldable pub statement : Stmt → Statement
statement = fold_stmt Statement stmt_steps

unfoldable pub handler_of : Catch → Statement
handler_of = fold_catch Statement stmt_steps

-- Statements of a body: they stand in a scope inside the parameters, but behind the names of these.
abbrev pub body_marks : List Stmt → Marks
body_marks items c = let ss = map statement items in in_order ss (behind c.earlier (within (all_slots ss) c))
