-- The size of a tree: the number of its nodes, members of lists, suffixes, keys and pieces of templates.
--
-- Nodes are those of `Levels`. The members of lists are statements, arguments, entries, operands after the first,
-- expressions after a `,`, members of classes, what a declaration or a pattern binds with its `...`, parameters, and the
-- bodies of a file. A member that is a node counts twice.
use Rattle.std.specs.Prelude.{ℕ, suc, ◌+◌, List, [], ◌∷◌, map, Option, Some, None}
use Rattle.actx_tree.specs.Levels.{or_zero}
use Rattle.actx_tree.specs.Folds.{Steps, StmtSteps, ExprOf, PieceOf, ArgumentOf, EntryOf, KeyOf, SuffixOf, OperandOf, FunctionOf, MethodOf, ClassOf, MemberOf, TargetOf, PropOf, ElemOf, ParamsOf, StmtOf, CatchOf, fold_expr, fold_piece, fold_argument, fold_entry, fold_key, fold_suffix, fold_operand, fold_function, fold_method, fold_class, fold_member, fold_target, fold_prop, fold_elem, fold_params, fold_stmt, fold_catch}
use Rattle.actx_tree.specs.declared.expr.Expr.{Expr, Expr-F}
use Rattle.actx_tree.specs.declared.expr.Piece.{Piece}
use Rattle.actx_tree.specs.declared.expr.Argument.{Argument, Argument-F}
use Rattle.actx_tree.specs.declared.expr.Entry.{Entry, Entry-F}
use Rattle.actx_tree.specs.declared.expr.Key.{Key, Key-F}
use Rattle.actx_tree.specs.declared.expr.Suffix.{Suffix, Suffix-F}
use Rattle.actx_tree.specs.declared.expr.Operand.{Operand}
use Rattle.actx_tree.specs.declared.function.Function.{Function}
use Rattle.actx_tree.specs.declared.function.Method.{Method}
use Rattle.actx_tree.specs.declared.function.Class.{Class}
use Rattle.actx_tree.specs.declared.function.Member.{Member}
use Rattle.actx_tree.specs.declared.pattern.Target.{Target, Target-F}
use Rattle.actx_tree.specs.declared.pattern.Prop.{Prop, Prop-F}
use Rattle.actx_tree.specs.declared.pattern.Elem.{Elem}
use Rattle.actx_tree.specs.declared.pattern.Params.{Params}
use Rattle.actx_tree.specs.declared.stmt.Stmt.{Stmt, Stmt-F}
use Rattle.actx_tree.specs.declared.stmt.Catch.{Catch}
use Rattle.actx_tree.specs.declared.stmt.ForInit.{ForInit}
use Rattle.actx_tree.specs.declared.stmt.ForInit.TheVariants as init
use Rattle.actx_tree.specs.declared.tree.BodyTree.{BodyTree}
use Rattle.actx_tree.specs.declared.tree.Tree.{Tree}

-- one for each member of a list, and what is in it
abbrev pub total : List ℕ → ℕ
total [] = 0
total (x ∷ xs) = suc (x + total xs)

-- the name after `...`, if there is one
abbrev pub rest_size : {A : Type 0} → Option A → ℕ
rest_size None = 0
rest_size (Some name) = 1

abbrev itself : ℕ → ℕ
itself x = x

-- ---- expressions

abbrev pub expr_step : ExprOf ℕ → ℕ
expr_step (Expr-F.Expr::Name name) = 1
expr_step (Expr-F.Expr::Number value) = 1
expr_step (Expr-F.Expr::Text text) = 1
expr_step (Expr-F.Bool value) = 1
expr_step Expr-F.Null = 1
expr_step Expr-F.This = 1
expr_step (Expr-F.Template text pieces) = suc (suc (total pieces))
expr_step (Expr-F.Brackets x) = suc x
expr_step (Expr-F.Expr::Array arguments) = suc (total arguments)
expr_step (Expr-F.Expr::Object entries) = suc (total entries)
expr_step (Expr-F.SuperCall arguments) = suc (total arguments)
expr_step (Expr-F.SuperMember name) = 1
expr_step (Expr-F.Function f) = f
expr_step (Expr-F.Class c) = c
expr_step (Expr-F.New x suffixes arguments) = suc (x + (total suffixes + or_zero total arguments))
expr_step (Expr-F.Left x suffixes) = suc (x + total suffixes)
expr_step (Expr-F.StepBefore op x) = suc x
expr_step (Expr-F.StepAfter x op) = suc x
expr_step (Expr-F.Unary op x) = suc x
expr_step (Expr-F.Chain x operands) = suc (x + total operands)
expr_step (Expr-F.Conditional test then other) = suc (test + (then + other))
expr_step (Expr-F.Assign place op x) = suc (place + x)
expr_step (Expr-F.Yield x) = suc (or_zero itself x)
expr_step (Expr-F.Arrow is_async params x) = suc (params + x)
expr_step (Expr-F.ArrowBlock is_async params body) = suc params
expr_step (Expr-F.Comma x xs) = suc (x + total xs)

abbrev pub piece_step : PieceOf ℕ → ℕ
piece_step p = p.value

abbrev pub argument_step : ArgumentOf ℕ → ℕ
argument_step (Argument-F.One x) = x
argument_step (Argument-F.Argument::Spread x) = x

abbrev pub entry_step : EntryOf ℕ → ℕ
entry_step (Entry-F.Entry::Spread x) = x
entry_step (Entry-F.Entry::Shorthand name) = 1
entry_step (Entry-F.Entry::Pair key x) = key + x
entry_step (Entry-F.Method m) = m

abbrev pub key_step : KeyOf ℕ → ℕ
key_step (Key-F.Word name) = 1
key_step (Key-F.Key::Text text) = 1
key_step (Key-F.Key::Number value) = 1
key_step (Key-F.Computed x) = suc x

abbrev pub suffix_step : SuffixOf ℕ → ℕ
suffix_step (Suffix-F.Member is_optional name) = 0
suffix_step (Suffix-F.Index is_optional x) = x
suffix_step (Suffix-F.Call is_optional arguments) = total arguments

abbrev pub operand_step : OperandOf ℕ → ℕ
operand_step o = o.right

-- ---- functions and classes; the bodies stand beside the tree

abbrev pub function_step : FunctionOf ℕ → ℕ
function_step f = suc f.params

abbrev pub method_step : MethodOf ℕ → ℕ
method_step m = suc (m.key + m.params)

abbrev pub class_step : ClassOf ℕ → ℕ
class_step c = suc (or_zero itself c.parent + total c.members)

abbrev pub member_step : MemberOf ℕ → ℕ
member_step m = m.method

-- ---- patterns

abbrev pub target_step : TargetOf ℕ → ℕ
target_step (Target-F.Target::Name name) = 0
target_step (Target-F.Target::Object props rest) = suc (total props + rest_size rest)
target_step (Target-F.Target::Array elems rest) = suc (total elems + rest_size rest)

abbrev pub prop_step : PropOf ℕ → ℕ
prop_step (Prop-F.Prop::Shorthand name default) = or_zero itself default
prop_step (Prop-F.Prop::Pair key elem) = key + elem

abbrev pub elem_step : ElemOf ℕ → ℕ
elem_step e = e.target + or_zero itself e.default

abbrev pub params_step : ParamsOf ℕ → ℕ
params_step p = total p.elems + or_zero suc p.rest

-- ---- of each kind of part

abbrev pub steps : Steps ℕ
steps = record {
  expr = expr_step;
  piece = piece_step;
  argument = argument_step;
  entry = entry_step;
  key = key_step;
  suffix = suffix_step;
  operand = operand_step;
  function = function_step;
  method = method_step;
  class = class_step;
  member = member_step;
  target = target_step;
  prop = prop_step;
  elem = elem_step;
  params = params_step;
}

unfoldable pub expr_size : Expr → ℕ
expr_size = fold_expr ℕ steps

unfoldable pub piece_size : Piece → ℕ
piece_size = fold_piece ℕ steps

unfoldable pub argument_size : Argument → ℕ
argument_size = fold_argument ℕ steps

unfoldable pub entry_size : Entry → ℕ
entry_size = fold_entry ℕ steps

unfoldable pub key_size : Key → ℕ
key_size = fold_key ℕ steps

unfoldable pub suffix_size : Suffix → ℕ
suffix_size = fold_suffix ℕ steps

unfoldable pub operand_size : Operand → ℕ
operand_size = fold_operand ℕ steps

unfoldable pub function_size : Function → ℕ
function_size = fold_function ℕ steps

unfoldable pub method_size : Method → ℕ
method_size = fold_method ℕ steps

unfoldable pub class_size : Class → ℕ
class_size = fold_class ℕ steps

unfoldable pub member_size : Member → ℕ
member_size = fold_member ℕ steps

unfoldable pub target_size : Target → ℕ
target_size = fold_target ℕ steps

unfoldable pub prop_size : Prop → ℕ
prop_size = fold_prop ℕ steps

unfoldable pub elem_size : Elem → ℕ
elem_size = fold_elem ℕ steps

unfoldable pub params_size : Params → ℕ
params_size = fold_params ℕ steps

abbrev pub arguments_size : List Argument → ℕ
arguments_size xs = total (map argument_size xs)

-- ---- statements

abbrev pub for_init_size : ForInit → ℕ
for_init_size init.Nothing = 0
for_init_size (init.Let is_const elems) = suc (total (map elem_size elems))
for_init_size (init.Expr x) = expr_size x

abbrev pub stmt_step : StmtOf ℕ → ℕ
stmt_step (Stmt-F.Let is_const elems) = suc (total (map elem_size elems))
stmt_step (Stmt-F.Function f) = function_size f
stmt_step (Stmt-F.Class c) = class_size c
stmt_step (Stmt-F.Block block) = suc (total block)
stmt_step Stmt-F.Empty = 1
stmt_step (Stmt-F.If test then other) = suc (expr_size test + (then + or_zero itself other))
stmt_step (Stmt-F.While test body) = suc (expr_size test + body)
stmt_step (Stmt-F.Do body test) = suc (body + expr_size test)
stmt_step (Stmt-F.For first test update body) = suc (for_init_size first + (or_zero expr_size test + (or_zero expr_size update + body)))
stmt_step (Stmt-F.ForOf is_const target x body) = suc (target_size target + (expr_size x + body))
stmt_step (Stmt-F.Return x) = suc (or_zero expr_size x)
stmt_step (Stmt-F.Throw x) = suc (expr_size x)
stmt_step Stmt-F.Break = 1
stmt_step Stmt-F.Continue = 1
stmt_step (Stmt-F.Try block handler last) = suc (total block + (or_zero itself handler + or_zero total last))
stmt_step (Stmt-F.Expr x) = suc (expr_size x)

abbrev pub catch_step : CatchOf ℕ → ℕ
catch_step c = or_zero target_size c.target + total c.block

abbrev pub stmt_steps : StmtSteps ℕ
stmt_steps = record { stmt = stmt_step; catch = catch_step }

unfoldable pub stmt_size : Stmt → ℕ
stmt_size = fold_stmt ℕ stmt_steps

unfoldable pub catch_size : Catch → ℕ
catch_size = fold_catch ℕ stmt_steps

-- of a list of statements, as the items of a file or of a body
abbrev pub stmts_size : List Stmt → ℕ
stmts_size xs = total (map stmt_size xs)

abbrev pub body_size : BodyTree → ℕ
body_size b = stmts_size b.items

-- of the tree of a file, with its bodies
abbrev pub tree_size : Tree → ℕ
tree_size t = stmts_size t.items + total (map body_size t.bodies)
