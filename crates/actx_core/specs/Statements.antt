-- Statements, blocks and files as core forms (ECMA-262 §14, §16.1).
use Rattle.std.specs.Prelude.{ℕ, ◌+◌, Bool, true, false, List, [], ◌∷◌, ◌++◌, length, map, Option, Some, None}
use Rattle.std.specs.Option.{option_map}
use Rattle.actx_text.specs.declared.body_id.BodyId.{BodyId}
use Rattle.actx_tree.specs.declared.expr.Expr.{Expr}
use Rattle.actx_tree.specs.declared.pattern.Elem.{Elem}
use Rattle.actx_tree.specs.declared.pattern.Target.{Target}
use Rattle.actx_tree.specs.declared.stmt.Stmt.{Stmt, Stmt-F, fold-Stmt}
use Rattle.actx_tree.specs.declared.stmt.Catch.{Catch, Catch-F, fold-Catch}
use Rattle.actx_tree.specs.declared.stmt.ForInit.{ForInit}
use Rattle.actx_tree.specs.declared.stmt.ForInit.TheVariants as init
use Rattle.actx_code.specs.declared.item.Declared.{Declared}
use Rattle.actx_scope_rules.specs.Scopes.{Scope, slots_of}
use Rattle.actx_core.specs.declared.core_form.Core.{Core}
use Rattle.actx_core.specs.declared.core_form.Core.TheVariants as forms
use Rattle.actx_core.specs.declared.core_parts.CoreCaught.{CoreCaught}
use Rattle.actx_core.specs.declared.core_parts.CoreCaught.TheVariants as caught
use Rattle.actx_core.specs.Making.{Making, just, of1, of2, of3, of4, maybe, undefined, or_undefined, or_true}
use Rattle.actx_core.specs.Names.{Names, scoped}
use Rattle.actx_core.specs.Functions.{Function, Class, Inside, as_one}
use Rattle.actx_core.specs.Patterns.{Target as Bound, Elem as Binding, elem_names, listed, declared_from}
use Rattle.actx_core.specs.Expressions.{form, expression, function_of, class_of, target_of, elem_of}

-- the functions that statements declare, and their forms
pub record Forms : Type 0 where
  pub functions : List Declared
  pub items : List Core

-- A statement: the slots that it declares in the scope around it, and what it becomes where the first of them has a number.
pub record Statement : Type 0 where
  pub slots : Scope
  pub made : ℕ → Making Forms

abbrev pub only : List Core → Forms
only xs = record { functions = []; items = xs }

-- a statement that declares nothing and is one form
abbrev pub plain : Making Core → Statement
plain x = record { slots = []; made = λ slot. of1 (λ y. only (y ∷ [])) x }

abbrev pub nothing : Statement
nothing = record { slots = []; made = λ slot. just (only []) }

-- ---- statements in a row

abbrev pub all_slots : List Statement → Scope
all_slots [] = []
all_slots (s ∷ ss) = s.slots ++ all_slots ss

abbrev pub joined : Forms → Forms → Forms
joined x y = record { functions = x.functions ++ y.functions; items = x.items ++ y.items }

unfoldable pub in_order : List Statement → ℕ → Making Forms
in_order [] slot = just (only [])
in_order (s ∷ ss) slot = of2 joined (s.made slot) (in_order ss (slot + length s.slots))

-- The forms of a block: a scope if it declares something (§14.2.2). Its functions are made at its entry (§14.2.3).
abbrev pub as_block : Scope → Forms → List Core
as_block [] x = x.items
as_block (slot ∷ slots) x = forms.Block (length (slot ∷ slots)) x.functions (as_one x.items) ∷ []

abbrev pub block : Names → List Statement → Making (List Core)
block names ss = of1 (as_block (all_slots ss)) (scoped names (all_slots ss) (in_order ss 0))

abbrev pub block_form : Names → List Statement → Making Core
block_form names ss = of1 as_one (block names ss)

-- a statement as a part of another
abbrev pub as_part : Statement → Making Core
as_part s = of1 (λ x. as_one x.items) (s.made 0)

abbrev pub part_or_undefined : Option Statement → Making Core
part_or_undefined None = just undefined
part_or_undefined (Some s) = as_part s

-- ---- declarations

-- a function that a scope declares (§14.2.3)
abbrev pub function_declared : Function → Statement
function_declared f = record {
  slots = slots_of true (listed f.name);
  made = λ slot. of1 (λ body. record { functions = record { slot = slot; body = body } ∷ []; items = [] }) f.declaration;
}

-- a class that a scope declares (§15.7.15)
abbrev pub class_declared : Class → Statement
class_declared c = record { slots = slots_of true (listed c.name); made = λ slot. of1 (λ x. only (forms.Init slot x ∷ [])) c.declaration }

-- `let` and `const` (§14.3.1.2)
abbrev pub let_declared : Bool → List Binding → Statement
let_declared is_const elems = record { slots = slots_of is_const (elem_names elems); made = λ slot. of1 only (declared_from elems slot) }

-- ---- loops

-- `for`: the head has a scope if it declares something (§14.7.4.2)
abbrev pub for_form : Names → Scope → Making Core → Making Core → Making Core → Making Core → Making Core
for_form names [] first test update body = of4 forms.For first test update body
for_form names (slot ∷ slots) first test update body = scoped names (slot ∷ slots) (of4 (forms.ForLet (length (slot ∷ slots))) first test update body)

-- `for-of`: each turn has a scope, and the value stands outside of it (§14.7.5.5)
abbrev pub of_form : Names → Scope → Bound → Making Core → Making Core → Making Core
of_form names slots target x body = of3 (forms.ForOf (length slots)) (scoped names slots (target.pattern 0)) x (scoped names slots body)

-- a catch clause with a target has a scope for it (§14.15.2)
abbrev pub bound_form : Names → Bound → Making Core → Making CoreCaught
bound_form names target body = let slots = slots_of false target.names in scoped names slots (of2 (caught.Bound (length slots)) (target.pattern 0) body)

abbrev pub caught_form : Names → Option Bound → Making Core → Making CoreCaught
caught_form names None body = of1 caught.Unbound body
caught_form names (Some target) body = bound_form names target body

-- ---- one step for each kind of statement

module _ (names : Names) (inside : Inside) where
  abbrev pub expr_made : Expr → Making Core
  expr_made x = form (expression names inside x)

  abbrev pub or_true_of : Option Expr → Making Core
  or_true_of x = or_true (option_map expr_made x)

  abbrev pub or_undefined_of : Option Expr → Making Core
  or_undefined_of x = or_undefined (option_map expr_made x)

  abbrev pub elems_made : List Elem → List Binding
  elems_made elems = map (elem_of names inside) elems

  abbrev pub for_init_slots : ForInit → Scope
  for_init_slots init.Nothing = []
  for_init_slots (init.Let is_const elems) = slots_of is_const (elem_names (elems_made elems))
  for_init_slots (init.Expr x) = []

  abbrev pub for_init_form : ForInit → Making Core
  for_init_form init.Nothing = just undefined
  for_init_form (init.Let is_const elems) = of1 as_one (declared_from (elems_made elems) 0)
  for_init_form (init.Expr x) = expr_made x

  abbrev pub of_made : Bool → Bound → Making Core → Making Core → Making Core
  of_made is_const target x body = of_form names (slots_of is_const target.names) target x body

  abbrev pub stmt_step : Stmt-F Statement (Making CoreCaught) → Statement
  stmt_step (Stmt-F.Let is_const elems) = let_declared is_const (elems_made elems)  -- §14.3.1.2
  stmt_step (Stmt-F.Function f) = function_declared (function_of names inside f)  -- §14.2.3
  stmt_step (Stmt-F.Class c) = class_declared (class_of names inside c)  -- §15.7.15
  stmt_step (Stmt-F.Block items) = record { slots = []; made = λ slot. of1 only (block names items) }  -- §14.2.2
  stmt_step Stmt-F.Empty = nothing  -- §14.4.1
  stmt_step (Stmt-F.If test body other) = plain (of3 forms.If (expr_made test) (as_part body) (part_or_undefined other))  -- §14.6.2
  stmt_step (Stmt-F.While test body) = plain (of2 forms.While (expr_made test) (as_part body))  -- §14.7.3.2
  stmt_step (Stmt-F.Do body test) = plain (of2 forms.DoWhile (as_part body) (expr_made test))  -- §14.7.2.2
  stmt_step (Stmt-F.For first test update body) =
      plain (for_form names (for_init_slots first) (for_init_form first) (or_true_of test) (or_undefined_of update) (as_part body))  -- §14.7.4.2
  stmt_step (Stmt-F.ForOf is_const target x body) = plain (of_made is_const (target_of names inside target) (expr_made x) (as_part body))  -- §14.7.5.5
  stmt_step (Stmt-F.Return x) = plain (of1 forms.Return (or_undefined_of x))  -- §14.10.1
  stmt_step (Stmt-F.Throw x) = plain (of1 forms.Throw (expr_made x))  -- §14.14.1
  stmt_step Stmt-F.Break = plain (just (forms.Break 0))  -- §14.9.2
  stmt_step Stmt-F.Continue = plain (just (forms.Continue 0))  -- §14.8.2
  stmt_step (Stmt-F.Try items handler last) = plain (of3 forms.Try (block_form names items) (maybe handler) (maybe (option_map (block_form names) last)))  -- §14.15.3
  stmt_step (Stmt-F.Expr x) = plain (expr_made x)  -- §14.5.1

  abbrev pub catch_step : Catch-F Statement (Making CoreCaught) → Making CoreCaught
  catch_step c = caught_form names (option_map (target_of names inside) c.target) (block_form names c.block)  -- §14.15.2

  unfoldable pub statement : Stmt → Statement
  statement = fold-Stmt Statement (Making CoreCaught) stmt_step catch_step

  unfoldable pub handler_of : Catch → Making CoreCaught
  handler_of = fold-Catch Statement (Making CoreCaught) stmt_step catch_step

  -- the statements of a body (§10.2.11)
  abbrev pub items_made : List Stmt → Making (List Core)
  items_made items = block names (map statement items)
