-- Small files, worked by hand: their early errors, and what the names in them mean.
use Rattle.std.specs.Prelude.{codes, pos, true, false, List, [], ◌∷◌, Some, None}
use Rattle.actx_text.specs.declared.units.Units.{Units}
use Rattle.actx_tree.specs.declared.expr.Expr.{Expr}
use Rattle.actx_tree.specs.declared.expr.Expr.TheVariants as e
use Rattle.actx_tree.specs.declared.expr.Entry.TheVariants as entry
use Rattle.actx_tree.specs.declared.expr.Key.TheVariants as key
use Rattle.actx_tree.specs.declared.function.Flow.TheVariants as flow
use Rattle.actx_tree.specs.declared.function.Member.{Member}
use Rattle.actx_tree.specs.declared.operator.AssignOp.TheVariants as assign
use Rattle.actx_tree.specs.declared.operator.UnaryOp.TheVariants as unary
use Rattle.actx_tree.specs.declared.pattern.Elem.{Elem}
use Rattle.actx_tree.specs.declared.pattern.Target.TheVariants as target
use Rattle.actx_tree.specs.declared.stmt.Stmt.{Stmt}
use Rattle.actx_tree.specs.declared.stmt.Stmt.TheVariants as s
use Rattle.actx_tree.specs.declared.tree.Tree.{Tree}
use Rattle.actx_tree.specs.Parts.{function_of, method_of, class_of, member_of, elem_of, params_of}

-- a file without functions
abbrev pub file : List Stmt → Tree
file items = record { items = items; bodies = [] }

abbrev pub a : Units
a = codes "a"

abbrev pub one : Expr
one = e.Number (pos 1)

-- name, and name = x
abbrev pub bare : Units → Elem
bare name = elem_of (target.Name name) None

abbrev pub with_value : Units → Expr → Elem
with_value name x = elem_of (target.Name name) (Some x)

-- break;
abbrev pub lone_break : Tree
lone_break = file (s.Break ∷ [])

-- while (1) { break; }
abbrev pub break_in_a_loop : Tree
break_in_a_loop = file (s.While one (s.Block (s.Break ∷ [])) ∷ [])

-- return;
abbrev pub lone_return : Tree
lone_return = file (s.Return None ∷ [])

-- let a; let a;
abbrev pub declared_twice : Tree
declared_twice = file (s.Let false (bare a ∷ []) ∷ s.Let false (bare a ∷ []) ∷ [])

-- let a; { let a; }
abbrev pub declared_in_a_block : Tree
declared_in_a_block = file (s.Let false (bare a ∷ []) ∷ s.Block (s.Let false (bare a ∷ []) ∷ []) ∷ [])

-- a;
abbrev pub unknown_name : Tree
unknown_name = file (s.Expr (e.Name a) ∷ [])

-- console;
abbrev pub global_name : Tree
global_name = file (s.Expr (e.Name (codes "console")) ∷ [])

-- const a = 1; a = 1;
abbrev pub const_assigned : Tree
const_assigned = file (s.Let true (with_value a one ∷ []) ∷ s.Expr (e.Assign (e.Name a) assign.Plain one) ∷ [])

-- await 1;
abbrev pub lone_await : Tree
lone_await = file (s.Expr (e.Unary unary.Await one) ∷ [])

-- delete a;
abbrev pub name_deleted : Tree
name_deleted = file (s.Expr (e.Unary unary.Delete (e.Name a)) ∷ [])

-- ({ __proto__: 1 });
abbrev pub proto_key : Tree
proto_key = file (s.Expr (e.Brackets (e.Object (entry.Pair (key.Word (codes "__proto__")) one ∷ []))) ∷ [])

-- function a(a) { let a; return a; }, where three tokens stand behind `{`
abbrev pub parameter_declared : Tree
parameter_declared = record {
  items = s.Function (function_of flow.Plain (Some a) (params_of (bare a ∷ []) None) (record { from = 8; to = 0 })) ∷ [];
  bodies = record { from = 6; items = s.Let false (bare a ∷ []) ∷ s.Return (Some (e.Name a)) ∷ [] } ∷ [];
}

-- class a { constructor() { } constructor() { } }
abbrev pub constructor_of : Member
constructor_of = member_of false (method_of flow.Plain (key.Word (codes "constructor")) (params_of [] None) (record { from = 2; to = 1 }))

abbrev pub two_constructors : Tree
two_constructors = file (s.Class (class_of (Some a) None (constructor_of ∷ constructor_of ∷ [])) ∷ [])

-- ({ a });
abbrev pub unknown_shorthand : Tree
unknown_shorthand = file (s.Expr (e.Brackets (e.Object (entry.Shorthand a ∷ []))) ∷ [])
