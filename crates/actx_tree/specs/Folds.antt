-- A value for each part of a tree, from the values of the parts right below it. `Steps A` says what each kind of part
-- gives, once each part in it has given its value of type `A`.
use Rattle.actx_tree.specs.declared.stmt.Stmt.{Stmt, Stmt-F, fold-Stmt}
use Rattle.actx_tree.specs.declared.stmt.Catch.{Catch, Catch-F, fold-Catch}
use Rattle.actx_tree.specs.declared.expr.Argument.{Argument, Argument-F, fold-Argument}
use Rattle.actx_tree.specs.declared.expr.Entry.{Entry, Entry-F, fold-Entry}
use Rattle.actx_tree.specs.declared.expr.Expr.{Expr, Expr-F, fold-Expr}
use Rattle.actx_tree.specs.declared.expr.Key.{Key, Key-F, fold-Key}
use Rattle.actx_tree.specs.declared.expr.Suffix.{Suffix, Suffix-F, fold-Suffix}
use Rattle.actx_tree.specs.declared.pattern.Prop.{Prop, Prop-F, fold-Prop}
use Rattle.actx_tree.specs.declared.pattern.Target.{Target, Target-F, fold-Target}
use Rattle.actx_tree.specs.declared.expr.Operand.{Operand, Operand-F, fold-Operand}
use Rattle.actx_tree.specs.declared.expr.Piece.{Piece, Piece-F, fold-Piece}
use Rattle.actx_tree.specs.declared.function.Class.{Class, Class-F, fold-Class}
use Rattle.actx_tree.specs.declared.function.Function.{Function, Function-F, fold-Function}
use Rattle.actx_tree.specs.declared.function.Member.{Member, Member-F, fold-Member}
use Rattle.actx_tree.specs.declared.function.Method.{Method, Method-F, fold-Method}
use Rattle.actx_tree.specs.declared.pattern.Elem.{Elem, Elem-F, fold-Elem}
use Rattle.actx_tree.specs.declared.pattern.Params.{Params, Params-F, fold-Params}

-- ---- a part, with values in place of the parts in it

abbrev pub ArgumentOf : Type 0 → Type 0
ArgumentOf A = Argument-F A A A A A A A A A A A A A A A

abbrev pub EntryOf : Type 0 → Type 0
EntryOf A = Entry-F A A A A A A A A A A A A A A A

abbrev pub ExprOf : Type 0 → Type 0
ExprOf A = Expr-F A A A A A A A A A A A A A A A

abbrev pub KeyOf : Type 0 → Type 0
KeyOf A = Key-F A A A A A A A A A A A A A A A

abbrev pub SuffixOf : Type 0 → Type 0
SuffixOf A = Suffix-F A A A A A A A A A A A A A A A

abbrev pub PropOf : Type 0 → Type 0
PropOf A = Prop-F A A A A A A A A A A A A A A A

abbrev pub TargetOf : Type 0 → Type 0
TargetOf A = Target-F A A A A A A A A A A A A A A A

abbrev pub OperandOf : Type 0 → Type 0
OperandOf A = Operand-F A A A A A A A A A A A A A A A

abbrev pub PieceOf : Type 0 → Type 0
PieceOf A = Piece-F A A A A A A A A A A A A A A A

abbrev pub ClassOf : Type 0 → Type 0
ClassOf A = Class-F A A A A A A A A A A A A A A A

abbrev pub FunctionOf : Type 0 → Type 0
FunctionOf A = Function-F A A A A A A A A A A A A A A A

abbrev pub MemberOf : Type 0 → Type 0
MemberOf A = Member-F A A A A A A A A A A A A A A A

abbrev pub MethodOf : Type 0 → Type 0
MethodOf A = Method-F A A A A A A A A A A A A A A A

abbrev pub ElemOf : Type 0 → Type 0
ElemOf A = Elem-F A A A A A A A A A A A A A A A

abbrev pub ParamsOf : Type 0 → Type 0
ParamsOf A = Params-F A A A A A A A A A A A A A A A

-- ---- one step for each kind of part

pub record Steps (A : Type 0) : Type 0 where
  pub argument : ArgumentOf A → A
  pub entry : EntryOf A → A
  pub expr : ExprOf A → A
  pub key : KeyOf A → A
  pub suffix : SuffixOf A → A
  pub prop : PropOf A → A
  pub target : TargetOf A → A
  pub operand : OperandOf A → A
  pub piece : PieceOf A → A
  pub class : ClassOf A → A
  pub function : FunctionOf A → A
  pub member : MemberOf A → A
  pub method : MethodOf A → A
  pub elem : ElemOf A → A
  pub params : ParamsOf A → A

abbrev pub fold_argument : (A : Type 0) → Steps A → Argument → A
fold_argument A s = fold-Argument A A A A A A A A A A A A A A A s.argument s.entry s.expr s.key s.suffix s.prop s.target s.operand s.piece s.class s.function s.member s.method s.elem s.params

abbrev pub fold_entry : (A : Type 0) → Steps A → Entry → A
fold_entry A s = fold-Entry A A A A A A A A A A A A A A A s.argument s.entry s.expr s.key s.suffix s.prop s.target s.operand s.piece s.class s.function s.member s.method s.elem s.params

abbrev pub fold_expr : (A : Type 0) → Steps A → Expr → A
fold_expr A s = fold-Expr A A A A A A A A A A A A A A A s.argument s.entry s.expr s.key s.suffix s.prop s.target s.operand s.piece s.class s.function s.member s.method s.elem s.params

abbrev pub fold_key : (A : Type 0) → Steps A → Key → A
fold_key A s = fold-Key A A A A A A A A A A A A A A A s.argument s.entry s.expr s.key s.suffix s.prop s.target s.operand s.piece s.class s.function s.member s.method s.elem s.params

abbrev pub fold_suffix : (A : Type 0) → Steps A → Suffix → A
fold_suffix A s = fold-Suffix A A A A A A A A A A A A A A A s.argument s.entry s.expr s.key s.suffix s.prop s.target s.operand s.piece s.class s.function s.member s.method s.elem s.params

abbrev pub fold_prop : (A : Type 0) → Steps A → Prop → A
fold_prop A s = fold-Prop A A A A A A A A A A A A A A A s.argument s.entry s.expr s.key s.suffix s.prop s.target s.operand s.piece s.class s.function s.member s.method s.elem s.params

abbrev pub fold_target : (A : Type 0) → Steps A → Target → A
fold_target A s = fold-Target A A A A A A A A A A A A A A A s.argument s.entry s.expr s.key s.suffix s.prop s.target s.operand s.piece s.class s.function s.member s.method s.elem s.params

abbrev pub fold_operand : (A : Type 0) → Steps A → Operand → A
fold_operand A s = fold-Operand A A A A A A A A A A A A A A A s.argument s.entry s.expr s.key s.suffix s.prop s.target s.operand s.piece s.class s.function s.member s.method s.elem s.params

abbrev pub fold_piece : (A : Type 0) → Steps A → Piece → A
fold_piece A s = fold-Piece A A A A A A A A A A A A A A A s.argument s.entry s.expr s.key s.suffix s.prop s.target s.operand s.piece s.class s.function s.member s.method s.elem s.params

abbrev pub fold_class : (A : Type 0) → Steps A → Class → A
fold_class A s = fold-Class A A A A A A A A A A A A A A A s.argument s.entry s.expr s.key s.suffix s.prop s.target s.operand s.piece s.class s.function s.member s.method s.elem s.params

abbrev pub fold_function : (A : Type 0) → Steps A → Function → A
fold_function A s = fold-Function A A A A A A A A A A A A A A A s.argument s.entry s.expr s.key s.suffix s.prop s.target s.operand s.piece s.class s.function s.member s.method s.elem s.params

abbrev pub fold_member : (A : Type 0) → Steps A → Member → A
fold_member A s = fold-Member A A A A A A A A A A A A A A A s.argument s.entry s.expr s.key s.suffix s.prop s.target s.operand s.piece s.class s.function s.member s.method s.elem s.params

abbrev pub fold_method : (A : Type 0) → Steps A → Method → A
fold_method A s = fold-Method A A A A A A A A A A A A A A A s.argument s.entry s.expr s.key s.suffix s.prop s.target s.operand s.piece s.class s.function s.member s.method s.elem s.params

abbrev pub fold_elem : (A : Type 0) → Steps A → Elem → A
fold_elem A s = fold-Elem A A A A A A A A A A A A A A A s.argument s.entry s.expr s.key s.suffix s.prop s.target s.operand s.piece s.class s.function s.member s.method s.elem s.params

abbrev pub fold_params : (A : Type 0) → Steps A → Params → A
fold_params A s = fold-Params A A A A A A A A A A A A A A A s.argument s.entry s.expr s.key s.suffix s.prop s.target s.operand s.piece s.class s.function s.member s.method s.elem s.params

-- ---- statements

abbrev pub StmtOf : Type 0 → Type 0
StmtOf A = Stmt-F A A

abbrev pub CatchOf : Type 0 → Type 0
CatchOf A = Catch-F A A

pub record StmtSteps (A : Type 0) : Type 0 where
  pub stmt : StmtOf A → A
  pub catch : CatchOf A → A

abbrev pub fold_stmt : (A : Type 0) → StmtSteps A → Stmt → A
fold_stmt A s = fold-Stmt A A s.stmt s.catch

abbrev pub fold_catch : (A : Type 0) → StmtSteps A → Catch → A
fold_catch A s = fold-Catch A A s.stmt s.catch
