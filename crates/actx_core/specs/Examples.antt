-- Small files, worked by hand: what they become.
use Rattle.std.specs.Prelude.{codes, ◌≡◌, ℕ, ◌+◌, pos, true, false, List, [], ◌∷◌, ◌++◌, Some, None}
use Rattle.actx_text.specs.declared.units.Units.{Units}
use Rattle.actx_text.specs.declared.body_id.BodyId.{BodyId}
use Rattle.actx_tree.specs.declared.expr.Expr.{Expr}
use Rattle.actx_tree.specs.declared.expr.Expr.TheVariants as e
use Rattle.actx_tree.specs.declared.expr.Argument.TheVariants as argument
use Rattle.actx_tree.specs.declared.expr.Entry.TheVariants as entry
use Rattle.actx_tree.specs.declared.expr.Key.TheVariants as key
use Rattle.actx_tree.specs.declared.expr.Suffix.TheVariants as suffix
use Rattle.actx_tree.specs.declared.function.Flow.TheVariants as flow
use Rattle.actx_tree.specs.declared.function.Function.{Function}
use Rattle.actx_tree.specs.declared.function.Member.{Member}
use Rattle.actx_tree.specs.declared.function.Unread.{Unread}
use Rattle.actx_tree.specs.declared.operator.AssignOp.TheVariants as assign
use Rattle.actx_tree.specs.declared.operator.BinaryOp.TheVariants as op
use Rattle.actx_tree.specs.declared.operator.StepOp.TheVariants as step
use Rattle.actx_tree.specs.declared.operator.UnaryOp.TheVariants as unary
use Rattle.actx_tree.specs.declared.pattern.Elem.{Elem}
use Rattle.actx_tree.specs.declared.pattern.Params.{Params}
use Rattle.actx_tree.specs.declared.pattern.Prop.TheVariants as prop
use Rattle.actx_tree.specs.declared.pattern.Target.TheVariants as target
use Rattle.actx_tree.specs.declared.stmt.ForInit.TheVariants as init
use Rattle.actx_tree.specs.declared.stmt.Stmt.{Stmt}
use Rattle.actx_tree.specs.declared.stmt.Stmt.TheVariants as s
use Rattle.actx_tree.specs.declared.tree.BodyTree.{BodyTree}
use Rattle.actx_tree.specs.declared.tree.Tree.{Tree}
use Rattle.actx_tree.specs.Parts.{piece_of, operand_of, function_of, method_of, class_of, member_of, elem_of, params_of, catch_of}
use Rattle.actx_value.specs.declared.value.Value.{Value}
use Rattle.actx_value.specs.declared.value.Value.TheVariants as values
use Rattle.actx_value.specs.declared.operator.BinaryOp.TheVariants as binary
use Rattle.actx_code.specs.declared.body.BodyKind.TheVariants as kinds
use Rattle.actx_code.specs.declared.item.Logic.TheVariants as logic
use Rattle.actx_core.specs.declared.core_form.Core.{Core}
use Rattle.actx_core.specs.declared.core_form.Core.TheVariants as forms
use Rattle.actx_core.specs.declared.core_parts.CoreArgument.TheVariants as c_argument
use Rattle.actx_core.specs.declared.core_parts.CoreCaught.TheVariants as c_caught
use Rattle.actx_core.specs.declared.core_parts.CoreChange.TheVariants as c_change
use Rattle.actx_core.specs.declared.core_parts.CoreElement.TheVariants as c_element
use Rattle.actx_core.specs.declared.core_parts.CoreEntry.TheVariants as c_entry
use Rattle.actx_core.specs.declared.core_parts.CoreKey.{CoreKey}
use Rattle.actx_core.specs.declared.core_parts.CoreKey.TheVariants as c_key
use Rattle.actx_core.specs.declared.core_parts.CorePattern.{CorePattern}
use Rattle.actx_core.specs.declared.core_parts.CorePattern.TheVariants as c_pattern
use Rattle.actx_core.specs.declared.core_parts.CorePiece.TheVariants as c_piece
use Rattle.actx_core.specs.declared.core_parts.CoreOperand.TheVariants as c_operand
use Rattle.actx_core.specs.declared.core_parts.CoreProperty.TheVariants as c_property
use Rattle.actx_core.specs.declared.core_parts.CoreSuffix.TheVariants as c_suffix
use Rattle.actx_core.specs.Making.{CoreBody}
use Rattle.actx_core.specs.Lowering.{core}

-- ---- parts of trees

abbrev pub a : Units
a = codes "a"

abbrev pub b : Units
b = codes "b"

abbrev pub k : Units
k = codes "k"

abbrev pub console : Units
console = codes "console"

abbrev pub one : Expr
one = e.Number (pos 1)

-- name, and name = x
abbrev pub bare : Units → Elem
bare name = elem_of (target.Name name) None

abbrev pub with_value : Units → Expr → Elem
with_value name x = elem_of (target.Name name) (Some x)

abbrev pub no_params : Params
no_params = params_of [] None

-- the body before whose end so many tokens stand of 100
abbrev pub range : ℕ → Unread
range n = record { from = n; to = 0 }

-- a file without functions, and one with these bodies
abbrev pub file : List Stmt → Tree
file items = record { items = items; bodies = [] }

abbrev pub with_body : List Stmt → ℕ → List Stmt → Tree
with_body items from body = record { items = items; bodies = record { from = from; items = body } ∷ [] }

-- ---- parts of codes

abbrev pub number : ℕ → Core
number n = forms.Literal (values.Num (pos n))

abbrev pub text : ℕ → Value
text n = values.Text (record { 0 = n })

abbrev pub undefined : Core
undefined = forms.Literal values.Undefined

abbrev pub id : ℕ → BodyId
id n = record { 0 = n }

abbrev pub plain : ℕ → CoreKey
plain n = c_key.Plain (text n)

abbrev pub slot : ℕ → CorePattern
slot n = c_pattern.Slot n

-- one form alone, as a body has it
abbrev pub alone : Core → Core
alone form = forms.Sequence (form ∷ [])

abbrev pub of_items : List Core → CoreBody
of_items items = record { kind = kinds.File; flow = flow.Plain; name = 0; hidden = false; cells = 0; form = forms.Sequence items }

abbrev pub of_file : Core → CoreBody
of_file form = of_items (form ∷ [])

-- what a file becomes whose bundled text is empty
abbrev pub Becomes : Tree → List CoreBody → List Units → Type 0
Becomes tree bodies literals = core tree (file []) ≡ record { bodies = bodies ++ of_items [] ∷ []; literals = literals; bundled = [] }

-- a file that is one body, of these forms, or of one
abbrev pub BecomesForms : List Stmt → List Core → List Units → Type 0
BecomesForms items made literals = Becomes (file items) (of_items made ∷ []) literals

abbrev pub BecomesForm : List Stmt → Core → List Units → Type 0
BecomesForm items form literals = BecomesForms items (form ∷ []) literals

-- ---- names and declarations

-- (nothing)
abbrev pub Empty : Type 0
Empty = BecomesForms [] [] []

-- let a = 1; a;
abbrev pub NameDeclared : Type 0
NameDeclared = BecomesForm (s.Let false (with_value a one ∷ []) ∷ s.Expr (e.Name a) ∷ [])
    (forms.Block 1 [] (forms.Sequence (forms.Init 0 (number 1) ∷ forms.Name 0 0 ∷ []))) []

-- console; { let a; console; a; }
abbrev pub NamesInABlock : Type 0
NamesInABlock = BecomesForms (s.Expr (e.Name console) ∷ s.Block (s.Let false (bare a ∷ []) ∷ s.Expr (e.Name console) ∷ s.Expr (e.Name a) ∷ []) ∷ [])
    (forms.Name 0 1 ∷ forms.Block 1 [] (forms.Sequence (forms.Init 0 undefined ∷ forms.Name 1 1 ∷ forms.Name 0 0 ∷ [])) ∷ []) []

-- this;
abbrev pub ThisOfAFile : Type 0
ThisOfAFile = BecomesForm (s.Expr e.This ∷ []) undefined []

-- const { a = 1, k: [b], ...k } = console;
abbrev pub PatternDeclared : Type 0
PatternDeclared = BecomesForm
    (s.Let true (elem_of (target.Object (prop.Shorthand a (Some one) ∷ prop.Pair (key.Word k) (elem_of (target.Array (bare b ∷ []) None) None) ∷ []) (Some k)) (Some (e.Name console)) ∷ []) ∷ [])
    (forms.Block 3 [] (forms.Bind
    (c_pattern.Properties
    (c_property.Property (text 1) (c_element.Element (slot 0) (Some (number 1)))
    ∷ c_property.Property (text 2) (c_element.Element (c_pattern.Elements (c_element.Element (slot 1) None ∷ []) None) None) ∷ [])
    (Some 2))
    (forms.Name 1 1)))
    (a ∷ k ∷ [])

-- ---- texts

-- 'a'; ''; 'k'; 'a';
abbrev pub TextsOnce : Type 0
TextsOnce = BecomesForms (s.Expr (e.Text a) ∷ s.Expr (e.Text []) ∷ s.Expr (e.Text k) ∷ s.Expr (e.Text a) ∷ [])
    (forms.Literal (text 1) ∷ forms.Literal (text 0) ∷ forms.Literal (text 2) ∷ forms.Literal (text 1) ∷ []) (a ∷ k ∷ [])

-- `${1}k${1}`;
abbrev pub TemplateOfTwo : Type 0
TemplateOfTwo = BecomesForm (s.Expr (e.Template [] (piece_of one k ∷ piece_of one [] ∷ [])) ∷ [])
    (forms.Template (text 0) (c_piece.Piece (number 1) (Some (text 1)) ∷ c_piece.Piece (number 1) None ∷ [])) (k ∷ [])

-- ---- members and operators

-- console[1] += 1;
abbrev pub MemberChanged : Type 0
MemberChanged = BecomesForm (s.Expr (e.Assign (e.Left (e.Name console) (suffix.Index false one ∷ [])) assign.Add one) ∷ [])
    (forms.ChangeMember (forms.Name 0 1) (c_key.Computed (number 1)) (c_change.WithOperator binary.Add (number 1))) []

-- console.a?.k(1); delete console.a?.k;
abbrev pub ChainOfSuffixes : Type 0
ChainOfSuffixes = BecomesForms
    (s.Expr (e.Left (e.Name console) (suffix.Member false a ∷ suffix.Member true k ∷ suffix.Call false (argument.One one ∷ []) ∷ []))
    ∷ s.Expr (e.Unary unary.Delete (e.Left (e.Name console) (suffix.Member false a ∷ suffix.Member true k ∷ []))) ∷ [])
    (forms.Suffixes (forms.Name 0 1) (c_suffix.Member false (plain 1) ∷ c_suffix.Member true (plain 2) ∷ c_suffix.Call false (c_argument.One (number 1) ∷ []) ∷ [])
    ∷ forms.Delete (forms.Name 0 1) (c_suffix.Member false (plain 1) ∷ []) true (plain 2) ∷ [])
    (a ∷ k ∷ [])

-- let a; a &&= 1; a++; (1 || a) - 1;
abbrev pub OperatorsOfKinds : Type 0
OperatorsOfKinds = BecomesForm
    (s.Let false (bare a ∷ []) ∷ s.Expr (e.Assign (e.Name a) assign.And one) ∷ s.Expr (e.StepAfter (e.Name a) step.Increment)
    ∷ s.Expr (e.Chain (e.Brackets (e.Chain one (operand_of op.Or (e.Name a) ∷ []))) (operand_of op.Subtract one ∷ [])) ∷ [])
    (forms.Block 1 [] (forms.Sequence
    (forms.Init 0 undefined ∷ forms.ChangeName 0 0 (c_change.WithLogic logic.And (number 1)) ∷ forms.ChangeName 0 0 (c_change.StepAfter step.Increment)
    ∷ forms.Operators (forms.Logical logic.Or (number 1) (forms.Name 0 0 ∷ [])) (c_operand.Operand binary.Subtract (number 1) ∷ []) ∷ [])))
    []

-- ---- loops and statements

-- for (let a = 1; a; ++a) ;
abbrev pub ForWithLet : Type 0
ForWithLet = BecomesForm (s.For (init.Let false (with_value a one ∷ [])) (Some (e.Name a)) (Some (e.StepBefore step.Increment (e.Name a))) s.Empty ∷ [])
    (forms.ForLet 1 (forms.Init 0 (number 1)) (forms.Name 0 0) (forms.ChangeName 0 0 (c_change.StepBefore step.Increment)) (forms.Sequence [])) []

-- for (;;) break;
abbrev pub ForWithout : Type 0
ForWithout = BecomesForm (s.For init.Nothing None None s.Break ∷ [])
    (forms.For undefined (forms.Literal (values.Bool true)) undefined (forms.Break 0)) []

-- for (const a of console) { a; console; }
abbrev pub ForOfTurns : Type 0
ForOfTurns = BecomesForm (s.ForOf true (target.Name a) (e.Name console) (s.Block (s.Expr (e.Name a) ∷ s.Expr (e.Name console) ∷ [])) ∷ [])
    (forms.ForOf 1 (slot 0) (forms.Name 0 1) (forms.Sequence (forms.Name 0 0 ∷ forms.Name 1 1 ∷ []))) []

-- try { throw 1; } catch (a) { a; } finally { }
abbrev pub TryWithAll : Type 0
TryWithAll = BecomesForm (s.Try (s.Throw one ∷ []) (Some (catch_of (Some (target.Name a)) (s.Expr (e.Name a) ∷ []))) (Some []) ∷ [])
    (forms.Try (forms.Throw (number 1)) (Some (c_caught.Bound 1 (slot 0) (forms.Name 0 0))) (Some (forms.Sequence []))) []

-- if (1) ; else while (1) continue;
abbrev pub IfElse : Type 0
IfElse = BecomesForm (s.If one s.Empty (Some (s.While one s.Continue)) ∷ [])
    (forms.If (number 1) (forms.Sequence []) (forms.While (number 1) (forms.Continue 0))) []

-- ---- functions

-- const a = () => 1;
abbrev pub ArrowNamed : Type 0
ArrowNamed = Becomes (file (s.Let true (with_value a (e.Arrow false no_params one) ∷ []) ∷ []))
    (of_file (forms.Block 1 [] (forms.Init 0 (forms.Function (id 1))))
    ∷ record { kind = kinds.Arrow; flow = flow.Plain; name = 1; hidden = false; cells = 0; form = alone (forms.Return (number 1)) } ∷ [])
    (a ∷ [])

-- a(); function a(b) { let k = b; return this; }, where the body begins 12 tokens after the start
abbrev pub FunctionDeclared : Type 0
FunctionDeclared = Becomes
    (with_body (s.Expr (e.Left (e.Name a) (suffix.Call false [] ∷ [])) ∷ s.Function (function_of flow.Plain (Some a) (params_of (bare b ∷ []) None) (range 88)) ∷ [])
    12 (s.Let false (with_value k (e.Name b) ∷ []) ∷ s.Return (Some e.This) ∷ []))
    (of_file (forms.Block 1 (record { slot = 0; body = id 1 } ∷ []) (forms.Suffixes (forms.Name 0 0) (c_suffix.Call false [] ∷ [])))
    ∷ record {
      kind = kinds.Function;
      flow = flow.Plain;
      name = 1;
      hidden = true;
      cells = 4;
      form = forms.Sequence (forms.Parameter 0 (c_element.Element (slot 3) None)
          ∷ forms.Block 1 [] (forms.Sequence (forms.Init 0 (forms.Name 1 3) ∷ forms.Return (forms.Name 1 0) ∷ [])) ∷ []);
    } ∷ [])
    (a ∷ [])

-- (function* a(...b) { yield a; }); a generator begins after its parameters, and its own name is slot 1
abbrev pub GeneratorBegins : Type 0
GeneratorBegins = Becomes
    (with_body (s.Expr (e.Brackets (e.Function (function_of flow.Generator (Some a) (params_of [] (Some (target.Name b))) (range 90)))) ∷ [])
    10 (s.Expr (e.Yield (Some (e.Name a))) ∷ []))
    (of_file (forms.Function (id 1))
    ∷ record {
      kind = kinds.Function;
      flow = flow.Generator;
      name = 1;
      hidden = true;
      cells = 4;
      form = forms.Sequence (forms.RestParameter 0 (slot 3) ∷ forms.Begin ∷ forms.Yield (forms.Name 0 1) ∷ []);
    } ∷ [])
    (a ∷ [])

-- ({ a: () => 1, ['k']: () => 1, console }); the bodies are numbered as they begin, and a computed key is no name
abbrev pub ObjectOfEntries : Type 0
ObjectOfEntries = Becomes
    (file (s.Expr (e.Brackets (e.Object (entry.Pair (key.Word a) (e.Arrow false no_params one) ∷ entry.Pair (key.Computed (e.Text k)) (e.Arrow false no_params one) ∷ entry.Shorthand console ∷ []))) ∷ []))
    (of_file (forms.Object (c_entry.Pair (plain 1) (forms.Function (id 1)) ∷ c_entry.Pair (c_key.Computed (forms.Literal (text 2))) (forms.Function (id 2)) ∷ c_entry.Pair (plain 3) (forms.Name 0 1) ∷ []))
    ∷ record { kind = kinds.Arrow; flow = flow.Plain; name = 1; hidden = false; cells = 0; form = alone (forms.Return (number 1)) }
    ∷ record { kind = kinds.Arrow; flow = flow.Plain; name = 0; hidden = false; cells = 0; form = alone (forms.Return (number 1)) } ∷ [])
    (a ∷ k ∷ console ∷ [])

-- ---- classes

-- class a extends console { }, whose constructor hands its arguments on
abbrev pub ClassWithoutConstructor : Type 0
ClassWithoutConstructor = Becomes (file (s.Class (class_of (Some a) (Some (e.Name console)) []) ∷ []))
    (of_file (forms.Block 1 [] (forms.Init 0 (forms.Class (id 1) (Some (forms.Name 1 1)) (text 2) [])))
    ∷ record {
      kind = kinds.DerivedClass;
      flow = flow.Plain;
      name = 1;
      hidden = true;
      cells = 4;
      form = forms.Sequence (forms.RestParameter 0 (slot 3) ∷ forms.SuperCall 0 (c_argument.Spread (forms.Name 0 3) ∷ []) ∷ []);
    } ∷ [])
    (a ∷ codes "prototype" ∷ [])

-- class a extends console { constructor() { (() => super()); } }; the scope with `this` is one further out in the arrow
abbrev pub constructor_in : Member
constructor_in = member_of false (method_of flow.Plain (key.Word (codes "constructor")) no_params (range 90))

abbrev pub ClassWithConstructor : Type 0
ClassWithConstructor = Becomes
    (with_body (s.Class (class_of (Some a) (Some (e.Name console)) (constructor_in ∷ [])) ∷ []) 10 (s.Expr (e.Brackets (e.Arrow false no_params (e.SuperCall []))) ∷ []))
    (of_file (forms.Block 1 [] (forms.Init 0 (forms.Class (id 1) (Some (forms.Name 1 1)) (text 1) [])))
    ∷ record { kind = kinds.DerivedClass; flow = flow.Plain; name = 2; hidden = true; cells = 3; form = alone (forms.Function (id 2)) }
    ∷ record { kind = kinds.Arrow; flow = flow.Plain; name = 0; hidden = false; cells = 0; form = alone (forms.Return (forms.SuperCall 1 [])) } ∷ [])
    (codes "prototype" ∷ a ∷ [])

-- class a { static k() { super.b(); } }
abbrev pub static_method : Member
static_method = member_of true (method_of flow.Plain (key.Word k) no_params (range 90))

abbrev pub ClassWithStatic : Type 0
ClassWithStatic = Becomes
    (with_body (s.Class (class_of (Some a) None (static_method ∷ [])) ∷ []) 10 (s.Expr (e.Left (e.SuperMember b) (suffix.Call false [] ∷ [])) ∷ []))
    (of_file (forms.Block 1 [] (forms.Init 0 (forms.Class (id 1) None (text 2) (record { is_static = true; key = text 3; body = id 2 } ∷ []))))
    ∷ record { kind = kinds.Class; flow = flow.Plain; name = 1; hidden = true; cells = 3; form = forms.Sequence [] }
    ∷ record { kind = kinds.Method; flow = flow.Plain; name = 3; hidden = true; cells = 3; form = alone (forms.SuperMember 0 (text 4) (c_suffix.Call false [] ∷ [])) } ∷ [])
    (a ∷ codes "prototype" ∷ k ∷ b ∷ [])

-- (class a { }); an expression with a name has a scope for it
abbrev pub ClassExpression : Type 0
ClassExpression = Becomes (file (s.Expr (e.Brackets (e.Class (class_of (Some a) None []))) ∷ []))
    (of_file (forms.Block 1 [] (forms.Init 0 (forms.Class (id 1) None (text 2) [])))
    ∷ record { kind = kinds.Class; flow = flow.Plain; name = 1; hidden = true; cells = 3; form = forms.Sequence [] } ∷ [])
    (a ∷ codes "prototype" ∷ [])

-- ---- the bundled text

-- 'k'; and the bundled text function a() { return 'k'; } function b() { }
abbrev pub bundle : Tree
bundle = record {
  items = s.Function (function_of flow.Plain (Some a) no_params (range 90)) ∷ s.Function (function_of flow.Plain (Some b) no_params (range 80)) ∷ [];
  bodies = record { from = 10; items = s.Return (Some (e.Text k)) ∷ [] } ∷ record { from = 20; items = [] } ∷ [];
}

abbrev pub BundleBehind : Type 0
BundleBehind = core (file (s.Expr (e.Text k) ∷ [])) bundle ≡ record {
  bodies = of_file (forms.Literal (text 1))
      ∷ of_file (forms.Block 2 (record { slot = 0; body = id 2 } ∷ record { slot = 1; body = id 3 } ∷ []) (forms.Sequence []))
      ∷ record { kind = kinds.Function; flow = flow.Plain; name = 2; hidden = true; cells = 3; form = alone (forms.Return (forms.Literal (text 1))) }
      ∷ record { kind = kinds.Function; flow = flow.Plain; name = 3; hidden = true; cells = 3; form = forms.Sequence [] } ∷ [];
  literals = k ∷ a ∷ b ∷ [];
  bundled = id 2 ∷ id 3 ∷ [];
}
