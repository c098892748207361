-- Levels of nodes. A node with no node in it has 1, any other one more than the greatest of the nodes right in it. What
-- is no node has the greatest of the nodes in it, 0 if there are none. So no node has more than 200 nodes around it
-- exactly if the levels are at most 201.
--
-- Nodes are statements (also a `let` in the head of a `for`), functions, methods, classes, object and array patterns
-- and expressions (ECMA-262 §13 to §15). A block is one only as a statement, and not as the block of a function, a `try`,
-- a `catch` or a `finally`. A name that is bound is none. Nor are members of lists, spreads, suffixes, keys, operands
-- and pieces of templates. A name alone in an object, as in `{ a }`, stands for a value, which is one.
use Rattle.std.specs.Prelude.{ℕ, suc, max, List, [], ◌∷◌, map, Option, Some, None}
use Rattle.actx_tree.specs.Folds.{Steps, StmtSteps, ExprOf, PieceOf, ArgumentOf, EntryOf, KeyOf, SuffixOf, OperandOf, FunctionOf, MethodOf, ClassOf, MemberOf, TargetOf, PropOf, ElemOf, ParamsOf, StmtOf, CatchOf, fold_expr, fold_piece, fold_argument, fold_entry, fold_key, fold_suffix, fold_operand, fold_function, fold_method, fold_class, fold_member, fold_target, fold_prop, fold_elem, fold_params, fold_stmt, fold_catch}
use Rattle.actx_tree.specs.declared.expr.Expr.{Expr, Expr-F}
use Rattle.actx_tree.specs.declared.expr.Piece.{Piece}
use Rattle.actx_tree.specs.declared.expr.Argument.{Argument, Argument-F}
use Rattle.actx_tree.specs.declared.expr.Entry.{Entry, Entry-F}
use Rattle.actx_tree.specs.declared.expr.Key.{Key, Key-F}
use Rattle.actx_tree.specs.declared.expr.Suffix.{Suffix, Suffix-F}
use Rattle.actx_tree.specs.declared.expr.Operand.{Operand}
use Rattle.actx_tree.specs.declared.function.Function.{Function}
use Rattle.actx_tree.specs.declared.function.Method.{Method}
use Rattle.actx_tree.specs.declared.function.Class.{Class}
use Rattle.actx_tree.specs.declared.function.Member.{Member}
use Rattle.actx_tree.specs.declared.pattern.Target.{Target, Target-F}
use Rattle.actx_tree.specs.declared.pattern.Prop.{Prop, Prop-F}
use Rattle.actx_tree.specs.declared.pattern.Elem.{Elem}
use Rattle.actx_tree.specs.declared.pattern.Params.{Params}
use Rattle.actx_tree.specs.declared.stmt.Stmt.{Stmt, Stmt-F}
use Rattle.actx_tree.specs.declared.stmt.Catch.{Catch}
use Rattle.actx_tree.specs.declared.stmt.ForInit.{ForInit}
use Rattle.actx_tree.specs.declared.stmt.ForInit.TheVariants as init

-- the greatest of a list, 0 if it is empty
abbrev pub highest : List ℕ → ℕ
highest [] = 0
highest (x ∷ xs) = max x (highest xs)

-- of a part that may be left out; then 0
abbrev pub or_zero : {A : Type 0} → (A → ℕ) → Option A → ℕ
or_zero f None = 0
or_zero f (Some x) = f x

abbrev itself : ℕ → ℕ
itself x = x

-- ---- expressions

abbrev pub expr_step : ExprOf ℕ → ℕ
expr_step (Expr-F.Expr::Name name) = 1
expr_step (Expr-F.Expr::Number value) = 1
expr_step (Expr-F.Expr::Text text) = 1
expr_step (Expr-F.Bool value) = 1
expr_step Expr-F.Null = 1
expr_step Expr-F.This = 1
expr_step (Expr-F.Template text pieces) = suc (highest pieces)
expr_step (Expr-F.Brackets x) = suc x
expr_step (Expr-F.Expr::Array arguments) = suc (highest arguments)
expr_step (Expr-F.Expr::Object entries) = suc (highest entries)
expr_step (Expr-F.SuperCall arguments) = suc (highest arguments)
expr_step (Expr-F.SuperMember name) = 1
expr_step (Expr-F.Function f) = f
expr_step (Expr-F.Class c) = c
expr_step (Expr-F.New x suffixes arguments) = suc (max x (max (highest suffixes) (or_zero highest arguments)))
expr_step (Expr-F.Left x suffixes) = suc (max x (highest suffixes))
expr_step (Expr-F.StepBefore op x) = suc x
expr_step (Expr-F.StepAfter x op) = suc x
expr_step (Expr-F.Unary op x) = suc x
expr_step (Expr-F.Chain x operands) = suc (max x (highest operands))
expr_step (Expr-F.Conditional test then other) = suc (max test (max then other))
expr_step (Expr-F.Assign place op x) = suc (max place x)
expr_step (Expr-F.Yield x) = suc (or_zero itself x)
expr_step (Expr-F.Arrow is_async params x) = suc (max params x)
expr_step (Expr-F.ArrowBlock is_async params body) = suc params
expr_step (Expr-F.Comma x xs) = suc (max x (highest xs))

abbrev pub piece_step : PieceOf ℕ → ℕ
piece_step p = p.value

abbrev pub argument_step : ArgumentOf ℕ → ℕ
argument_step (Argument-F.One x) = x
argument_step (Argument-F.Argument::Spread x) = x

abbrev pub entry_step : EntryOf ℕ → ℕ
entry_step (Entry-F.Entry::Spread x) = x
entry_step (Entry-F.Entry::Shorthand name) = 1
entry_step (Entry-F.Entry::Pair key x) = max key x
entry_step (Entry-F.Method m) = m

abbrev pub key_step : KeyOf ℕ → ℕ
key_step (Key-F.Word name) = 0
key_step (Key-F.Key::Text text) = 0
key_step (Key-F.Key::Number value) = 0
key_step (Key-F.Computed x) = x

abbrev pub suffix_step : SuffixOf ℕ → ℕ
suffix_step (Suffix-F.Member is_optional name) = 0
suffix_step (Suffix-F.Index is_optional x) = x
suffix_step (Suffix-F.Call is_optional arguments) = highest arguments

abbrev pub operand_step : OperandOf ℕ → ℕ
operand_step o = o.right

-- ---- functions and classes; the bodies stand beside the tree

abbrev pub function_step : FunctionOf ℕ → ℕ
function_step f = suc f.params

abbrev pub method_step : MethodOf ℕ → ℕ
method_step m = suc (max m.key m.params)

abbrev pub class_step : ClassOf ℕ → ℕ
class_step c = suc (max (or_zero itself c.parent) (highest c.members))

abbrev pub member_step : MemberOf ℕ → ℕ
member_step m = m.method

-- ---- patterns

abbrev pub target_step : TargetOf ℕ → ℕ
target_step (Target-F.Target::Name name) = 0
target_step (Target-F.Target::Object props rest) = suc (highest props)
target_step (Target-F.Target::Array elems rest) = suc (highest elems)

abbrev pub prop_step : PropOf ℕ → ℕ
prop_step (Prop-F.Prop::Shorthand name default) = or_zero itself default
prop_step (Prop-F.Prop::Pair key elem) = max key elem

abbrev pub elem_step : ElemOf ℕ → ℕ
elem_step e = max e.target (or_zero itself e.default)

abbrev pub params_step : ParamsOf ℕ → ℕ
params_step p = max (highest p.elems) (or_zero itself p.rest)

-- ---- of each kind of part

abbrev pub steps : Steps ℕ
steps = record {
  expr = expr_step;
  piece = piece_step;
  argument = argument_step;
  entry = entry_step;
  key = key_step;
  suffix = suffix_step;
  operand = operand_step;
  function = function_step;
  method = method_step;
  class = class_step;
  member = member_step;
  target = target_step;
  prop = prop_step;
  elem = elem_step;
  params = params_step;
}

unfoldable pub expr_levels : Expr → ℕ
expr_levels = fold_expr ℕ steps

unfoldable pub piece_levels : Piece → ℕ
piece_levels = fold_piece ℕ steps

unfoldable pub argument_levels : Argument → ℕ
argument_levels = fold_argument ℕ steps

unfoldable pub entry_levels : Entry → ℕ
entry_levels = fold_entry ℕ steps

unfoldable pub key_levels : Key → ℕ
key_levels = fold_key ℕ steps

unfoldable pub suffix_levels : Suffix → ℕ
suffix_levels = fold_suffix ℕ steps

unfoldable pub operand_levels : Operand → ℕ
operand_levels = fold_operand ℕ steps

unfoldable pub function_levels : Function → ℕ
function_levels = fold_function ℕ steps

unfoldable pub method_levels : Method → ℕ
method_levels = fold_method ℕ steps

unfoldable pub class_levels : Class → ℕ
class_levels = fold_class ℕ steps

unfoldable pub member_levels : Member → ℕ
member_levels = fold_member ℕ steps

unfoldable pub target_levels : Target → ℕ
target_levels = fold_target ℕ steps

unfoldable pub prop_levels : Prop → ℕ
prop_levels = fold_prop ℕ steps

unfoldable pub elem_levels : Elem → ℕ
elem_levels = fold_elem ℕ steps

unfoldable pub params_levels : Params → ℕ
params_levels = fold_params ℕ steps

abbrev pub arguments_levels : List Argument → ℕ
arguments_levels xs = highest (map argument_levels xs)

-- ---- statements

abbrev pub for_init_levels : ForInit → ℕ
for_init_levels init.Nothing = 0
for_init_levels (init.Let is_const elems) = suc (highest (map elem_levels elems))
for_init_levels (init.Expr x) = expr_levels x

abbrev pub stmt_step : StmtOf ℕ → ℕ
stmt_step (Stmt-F.Let is_const elems) = suc (highest (map elem_levels elems))
stmt_step (Stmt-F.Function f) = function_levels f
stmt_step (Stmt-F.Class c) = class_levels c
stmt_step (Stmt-F.Block block) = suc (highest block)
stmt_step Stmt-F.Empty = 1
stmt_step (Stmt-F.If test then other) = suc (max (expr_levels test) (max then (or_zero itself other)))
stmt_step (Stmt-F.While test body) = suc (max (expr_levels test) body)
stmt_step (Stmt-F.Do body test) = suc (max body (expr_levels test))
stmt_step (Stmt-F.For first test update body) = suc (max (for_init_levels first) (max (or_zero expr_levels test) (max (or_zero expr_levels update) body)))
stmt_step (Stmt-F.ForOf is_const target x body) = suc (max (target_levels target) (max (expr_levels x) body))
stmt_step (Stmt-F.Return x) = suc (or_zero expr_levels x)
stmt_step (Stmt-F.Throw x) = suc (expr_levels x)
stmt_step Stmt-F.Break = 1
stmt_step Stmt-F.Continue = 1
stmt_step (Stmt-F.Try block handler last) = suc (max (highest block) (max (or_zero itself handler) (or_zero highest last)))
stmt_step (Stmt-F.Expr x) = suc (expr_levels x)

abbrev pub catch_step : CatchOf ℕ → ℕ
catch_step c = max (or_zero target_levels c.target) (highest c.block)

abbrev pub stmt_steps : StmtSteps ℕ
stmt_steps = record { stmt = stmt_step; catch = catch_step }

unfoldable pub stmt_levels : Stmt → ℕ
stmt_levels = fold_stmt ℕ stmt_steps

unfoldable pub catch_levels : Catch → ℕ
catch_levels = fold_catch ℕ stmt_steps

-- of a list of statements, as the items of a file or of a body
abbrev pub stmts_levels : List Stmt → ℕ
stmts_levels xs = highest (map stmt_levels xs)
