-- Expressions as core forms, one line for each kind (ECMA-262 §13, §15).
use Rattle.std.specs.Prelude.{ℕ, Bool, true, false, ◌&&◌, ℤ, List, [], ◌∷◌, map, Option, Some, None, if◌then◌else◌, unwrap_or}
use Rattle.std.specs.Option.{option_map}
use Rattle.std.specs.Fmt.{signed_decimal}
use Rattle.actx_text.specs.declared.units.Units.{Units}
use Rattle.actx_tree.specs.declared.expr.Expr.{Expr, Expr-F, fold-Expr}
use Rattle.actx_tree.specs.declared.expr.Argument.{Argument, Argument-F, fold-Argument}
use Rattle.actx_tree.specs.declared.expr.Entry.{Entry, Entry-F, fold-Entry}
use Rattle.actx_tree.specs.declared.expr.Key.{Key as SourceKey, Key-F, fold-Key}
use Rattle.actx_tree.specs.declared.expr.Suffix.{Suffix, Suffix-F, fold-Suffix}
use Rattle.actx_tree.specs.declared.expr.Operand.{Operand as SourceOperand, Operand-F, fold-Operand}
use Rattle.actx_tree.specs.declared.expr.Piece.{Piece, Piece-F, fold-Piece}
use Rattle.actx_tree.specs.declared.function.Class.{Class as SourceClass, Class-F, fold-Class}
use Rattle.actx_tree.specs.declared.function.Function.{Function as SourceFunction, Function-F, fold-Function}
use Rattle.actx_tree.specs.declared.function.Member.{Member as SourceMember, Member-F, fold-Member}
use Rattle.actx_tree.specs.declared.function.Method.{Method as SourceMethod, Method-F, fold-Method}
use Rattle.actx_tree.specs.declared.function.Flow.{Flow}
use Rattle.actx_tree.specs.declared.function.Flow.TheVariants as flow
use Rattle.actx_tree.specs.declared.operator.UnaryOp.{UnaryOp}
use Rattle.actx_tree.specs.declared.operator.UnaryOp.TheVariants as op
use Rattle.actx_tree.specs.declared.pattern.Target.{Target as SourceTarget, Target-F, fold-Target}
use Rattle.actx_tree.specs.declared.pattern.Prop.{Prop as SourceProp, Prop-F, fold-Prop}
use Rattle.actx_tree.specs.declared.pattern.Elem.{Elem as SourceElem, Elem-F, fold-Elem}
use Rattle.actx_tree.specs.declared.pattern.Params.{Params as SourceParams, Params-F, fold-Params}
use Rattle.actx_value.specs.declared.value.Value.{Value}
use Rattle.actx_value.specs.declared.value.Value.TheVariants as values
use Rattle.actx_value.specs.declared.operator.UnaryOp.TheVariants as unary
use Rattle.actx_code.specs.declared.body.BodyKind.TheVariants as kinds
use Rattle.actx_scope_rules.specs.Words.{is_word, constructor_word}
use Rattle.actx_core.specs.declared.meaning.Meaning.{Meaning}
use Rattle.actx_core.specs.declared.core_form.Core.{Core}
use Rattle.actx_core.specs.declared.core_form.Core.TheVariants as forms
use Rattle.actx_core.specs.declared.core_parts.CoreArgument.{CoreArgument}
use Rattle.actx_core.specs.declared.core_parts.CoreArgument.TheVariants as argument
use Rattle.actx_core.specs.declared.core_parts.CoreChange.{CoreChange}
use Rattle.actx_core.specs.declared.core_parts.CoreChange.TheVariants as change
use Rattle.actx_core.specs.declared.core_parts.CoreEntry.{CoreEntry}
use Rattle.actx_core.specs.declared.core_parts.CoreEntry.TheVariants as entry
use Rattle.actx_core.specs.declared.core_parts.CoreKey.{CoreKey}
use Rattle.actx_core.specs.declared.core_parts.CoreKey.TheVariants as key
use Rattle.actx_core.specs.declared.core_parts.CorePiece.{CorePiece}
use Rattle.actx_core.specs.declared.core_parts.CorePiece.TheVariants as piece
use Rattle.actx_core.specs.declared.core_parts.CoreSuffix.{CoreSuffix}
use Rattle.actx_core.specs.declared.core_parts.CoreSuffix.TheVariants as suffix
use Rattle.actx_core.specs.Making.{Making, just, of1, of2, of3, all, maybe, undefined, or_undefined, text_value, body_made}
use Rattle.actx_core.specs.Names.{Names}
use Rattle.actx_core.specs.Operators.{Operand, chain, assigned}
use Rattle.actx_core.specs.Functions.{Inside, Params, Function, Key, Method, Member, Class, arrow_body, function_made, method_made, member_made, constructor_made, class_made}
use Rattle.actx_core.specs.Patterns.{Named, Target, Elem, Prop, name_target, object_target, array_target, elem_made, shorthand_made, pair_made, params_made}

-- ---- what parts are to those around them

-- A suffix: its form, its key if it is a member, and whether `?.` stands before it.
pub record Suffixed : Type 0 where
  pub form : Making CoreSuffix
  pub key : Making CoreKey
  pub is_optional : Bool
  pub is_call : Bool

-- An expression: its form under a name that a function without one takes; as the head of a chain; as what is changed or
-- deleted. `is_super` says that it is `super.name`.
pub record Expression : Type 0 where
  pub named : Named
  pub chain : Making (List CoreSuffix) → Making Core
  pub change : Making CoreChange → Making Core
  pub delete : Making Core
  pub is_super : Bool

abbrev pub form : Expression → Making Core
form x = x.named []

-- an expression that takes no name, and is no member and no name
abbrev pub plain : Making Core → Expression
plain f = record { named = λ name. f; chain = λ ss. of2 forms.Suffixes f ss; change = λ c. of2 (λ x _. x) f c; delete = f; is_super = false }

-- a function or a class takes a name
abbrev pub naming : Named → Expression
naming f = record (plain (f [])) { named = f }

-- ---- names and `this`

-- a name (§13.1.3). One in no scope is refused before anything runs.
abbrev pub load : Option Meaning → Core
load None = undefined
load (Some x) = forms.Name x.hops x.slot

abbrev pub name_form : Names → Units → Making Core
name_form names name = of1 load (names.meaning name)

-- an assignment to a name (§13.15.2, §13.4)
abbrev pub changed : Option Meaning → CoreChange → Core
changed None c = undefined
changed (Some x) c = forms.ChangeName x.hops x.slot c

abbrev pub name_made : Names → Units → Expression
name_made names name = record (plain (name_form names name)) { change = λ c. of2 changed (names.meaning name) c }

-- `this` (§13.2.1): slot 0 of the scope that has it
abbrev pub this_at : Option ℕ → Core
this_at None = undefined
this_at (Some hops) = forms.Name hops 0

abbrev pub this_form : Making Core
this_form a s = just (this_at a.this) a s

-- how far out the scope with `this` is
abbrev pub this_hops : Making ℕ
this_hops a s = just (unwrap_or a.this 0) a s

-- ---- chains of suffixes

abbrev pub suffix_form : Suffixed → Making CoreSuffix
suffix_form s = s.form

abbrev pub suffix_forms : List Suffixed → Making (List CoreSuffix)
suffix_forms ss = all (map suffix_form ss)

-- an expression with suffixes, if there are any (§13.3.2, §13.3.6, §13.3.9)
abbrev pub chained : Expression → List Suffixed → Making Core
chained x [] = form x
chained x (s ∷ ss) = x.chain (suffix_forms (s ∷ ss))

-- `super.name` and the suffixes after it (§13.3.7)
abbrev pub super_member : Units → Making (List CoreSuffix) → Making Core
super_member name ss = of3 forms.SuperMember this_hops (text_value name) ss

abbrev pub before_last : {A : Type 0} → List A → List A
before_last [] = []
before_last (x ∷ []) = []
before_last (x ∷ y ∷ ys) = x ∷ before_last (y ∷ ys)

abbrev pub last : {A : Type 0} → List A → Option A
last [] = None
last (x ∷ []) = Some x
last (x ∷ y ∷ ys) = last (y ∷ ys)

-- a change of a member: what stands before the last suffix, its key, and then the change (§13.15.2, §13.4)
abbrev pub changed_member : Expression → List Suffixed → Option Suffixed → Making CoreChange → Making Core
changed_member x ss None c = of2 (λ b _. b) (chained x ss) c
changed_member x ss (Some s) c = of3 forms.ChangeMember (chained x ss) s.key c

-- What a `delete` begins with: a call right after `super.name` stands with it, since `this` is its receiver.
abbrev pub in_base : Bool → List Suffixed → List Suffixed
in_base is_super [] = []
in_base is_super (s ∷ ss) = if is_super && s.is_call then s ∷ [] else []

abbrev pub behind_base : Bool → List Suffixed → List Suffixed
behind_base is_super [] = []
behind_base is_super (s ∷ ss) = if is_super && s.is_call then ss else s ∷ ss

-- `delete` of a member (§13.5.1.2)
abbrev pub deleted_member : Expression → List Suffixed → Option Suffixed → Making Core
deleted_member x ss None = chained x ss
deleted_member x ss (Some s) = of3 (λ base before k. forms.Delete base before s.is_optional k) (chained x (in_base x.is_super ss)) (suffix_forms (behind_base x.is_super ss)) s.key

abbrev pub left_made : Expression → List Suffixed → Expression
left_made x ss = record (plain (chained x ss)) { change = λ c. changed_member x (before_last ss) (last ss) c; delete = deleted_member x (before_last ss) (last ss) }

-- ---- operators

-- an operator before an operand (§13.5, §15.8.5)
abbrev pub unary_form : UnaryOp → Expression → Making Core
unary_form op.Not x = of1 forms.Not (form x)
unary_form op.Minus x = of1 (forms.Unary unary.Negate) (form x)
unary_form op.Plus x = of1 (forms.Unary unary.ToNumber) (form x)
unary_form op.TypeOf x = of1 (forms.Unary unary.TypeOf) (form x)
unary_form op.Void x = of1 forms.Void (form x)
unary_form op.Delete x = x.delete
unary_form op.Await x = of1 forms.Await (form x)

-- a piece of a template after a value, if it isn't empty
abbrev pub piece_after : Units → Making (Option Value)
piece_after [] = just None
piece_after (u ∷ us) = of1 (λ v. Some v) (text_value (u ∷ us))

abbrev pub arrow_flow : Bool → Flow
arrow_flow true = flow.Async
arrow_flow false = flow.Plain

-- an arrow whose body is an expression returns it (§15.3.2)
abbrev pub returned : Expression → Making (List Core)
returned x = of1 (λ y. forms.Return y ∷ []) (form x)

abbrev pub arguments_or_none : Option (List (Making CoreArgument)) → Making (List CoreArgument)
arguments_or_none None = just []
arguments_or_none (Some xs) = all xs

-- ---- keys, members and names

-- a key that is written down
abbrev pub written : Units → Key
written text = record { key = of1 key.Plain (text_value text); value = text_value text; word = text }

-- a member whose key is made so
abbrev pub member_suffix : Bool → Making CoreKey → Suffixed
member_suffix is_optional k = record { form = of1 (suffix.Member is_optional) k; key = k; is_optional = is_optional; is_call = false }

-- a member that isn't static and is named `constructor` is the constructor
abbrev pub member_as : Bool → Bool → Method → Member
member_as is_static true m = record { is_constructor = true; made = constructor_made m }
member_as is_static false m = record { is_constructor = false; made = λ kind name. member_made is_static m }

abbrev pub names_constructor : Bool → Units → Bool
names_constructor true word = false
names_constructor false word = is_word constructor_word (Some word)

-- an expression, as it is under a name
abbrev pub naming_of : Expression → Named
naming_of x = x.named

-- ---- a part, with what the parts in it are in their place

abbrev pub ArgumentOf : Type 0
ArgumentOf = Argument-F (Making CoreArgument) (Making CoreEntry) Expression Key Suffixed Prop Target Operand (Making CorePiece) Class Function Member Method Elem Params

abbrev pub EntryOf : Type 0
EntryOf = Entry-F (Making CoreArgument) (Making CoreEntry) Expression Key Suffixed Prop Target Operand (Making CorePiece) Class Function Member Method Elem Params

abbrev pub ExprOf : Type 0
ExprOf = Expr-F (Making CoreArgument) (Making CoreEntry) Expression Key Suffixed Prop Target Operand (Making CorePiece) Class Function Member Method Elem Params

abbrev pub KeyOf : Type 0
KeyOf = Key-F (Making CoreArgument) (Making CoreEntry) Expression Key Suffixed Prop Target Operand (Making CorePiece) Class Function Member Method Elem Params

abbrev pub SuffixOf : Type 0
SuffixOf = Suffix-F (Making CoreArgument) (Making CoreEntry) Expression Key Suffixed Prop Target Operand (Making CorePiece) Class Function Member Method Elem Params

abbrev pub PropOf : Type 0
PropOf = Prop-F (Making CoreArgument) (Making CoreEntry) Expression Key Suffixed Prop Target Operand (Making CorePiece) Class Function Member Method Elem Params

abbrev pub TargetOf : Type 0
TargetOf = Target-F (Making CoreArgument) (Making CoreEntry) Expression Key Suffixed Prop Target Operand (Making CorePiece) Class Function Member Method Elem Params

abbrev pub OperandOf : Type 0
OperandOf = Operand-F (Making CoreArgument) (Making CoreEntry) Expression Key Suffixed Prop Target Operand (Making CorePiece) Class Function Member Method Elem Params

abbrev pub PieceOf : Type 0
PieceOf = Piece-F (Making CoreArgument) (Making CoreEntry) Expression Key Suffixed Prop Target Operand (Making CorePiece) Class Function Member Method Elem Params

abbrev pub ClassOf : Type 0
ClassOf = Class-F (Making CoreArgument) (Making CoreEntry) Expression Key Suffixed Prop Target Operand (Making CorePiece) Class Function Member Method Elem Params

abbrev pub FunctionOf : Type 0
FunctionOf = Function-F (Making CoreArgument) (Making CoreEntry) Expression Key Suffixed Prop Target Operand (Making CorePiece) Class Function Member Method Elem Params

abbrev pub MemberOf : Type 0
MemberOf = Member-F (Making CoreArgument) (Making CoreEntry) Expression Key Suffixed Prop Target Operand (Making CorePiece) Class Function Member Method Elem Params

abbrev pub MethodOf : Type 0
MethodOf = Method-F (Making CoreArgument) (Making CoreEntry) Expression Key Suffixed Prop Target Operand (Making CorePiece) Class Function Member Method Elem Params

abbrev pub ElemOf : Type 0
ElemOf = Elem-F (Making CoreArgument) (Making CoreEntry) Expression Key Suffixed Prop Target Operand (Making CorePiece) Class Function Member Method Elem Params

abbrev pub ParamsOf : Type 0
ParamsOf = Params-F (Making CoreArgument) (Making CoreEntry) Expression Key Suffixed Prop Target Operand (Making CorePiece) Class Function Member Method Elem Params

-- ---- one step for each kind of part

module _ (names : Names) (inside : Inside) where
  abbrev pub expr_step : ExprOf → Expression
  expr_step (Expr-F.Expr::Name name) = name_made names name  -- §13.1.3
  expr_step (Expr-F.Expr::Number value) = plain (just (forms.Literal (values.Num value)))  -- §13.2.3
  expr_step (Expr-F.Expr::Text text) = plain (of1 forms.Literal (text_value text))  -- §13.2.3
  expr_step (Expr-F.Bool value) = plain (just (forms.Literal (values.Bool value)))  -- §13.2.3
  expr_step Expr-F.Null = plain (just (forms.Literal values.Null))  -- §13.2.3
  expr_step Expr-F.This = plain this_form  -- §13.2.1
  expr_step (Expr-F.Template text pieces) = plain (of2 forms.Template (text_value text) (all pieces))  -- §13.2.8
  expr_step (Expr-F.Brackets x) = plain (form x)  -- §13.2.9
  expr_step (Expr-F.Expr::Array arguments) = plain (of1 forms.Array (all arguments))  -- §13.2.4
  expr_step (Expr-F.Expr::Object entries) = plain (of1 forms.Object (all entries))  -- §13.2.5
  expr_step (Expr-F.SuperCall arguments) = plain (of2 forms.SuperCall this_hops (all arguments))  -- §13.3.7
  expr_step (Expr-F.SuperMember name) = record (plain (super_member name (just []))) { chain = super_member name; is_super = true }  -- §13.3.7
  expr_step (Expr-F.Function f) = naming (λ name. of1 forms.Function (f.expression name))  -- §15.2.5
  expr_step (Expr-F.Class c) = naming c.expression  -- §15.7.14
  expr_step (Expr-F.New x suffixes arguments) = plain (of2 forms.New (chained x suffixes) (arguments_or_none arguments))  -- §13.3.5
  expr_step (Expr-F.Left x suffixes) = left_made x suffixes  -- §13.3
  expr_step (Expr-F.StepBefore op x) = plain (x.change (just (change.StepBefore op)))  -- §13.4.4, §13.4.5
  expr_step (Expr-F.StepAfter x op) = plain (x.change (just (change.StepAfter op)))  -- §13.4.2, §13.4.3
  expr_step (Expr-F.Unary op x) = plain (unary_form op x)  -- §13.5
  expr_step (Expr-F.Chain x operands) = plain (chain (form x) operands)  -- §13.7 to §13.13
  expr_step (Expr-F.Conditional test chosen other) = plain (of3 forms.If (form test) (form chosen) (form other))  -- §13.14
  expr_step (Expr-F.Assign place op x) = plain (place.change (assigned op (form x)))  -- §13.15
  expr_step (Expr-F.Yield x) = plain (of1 forms.Yield (or_undefined (option_map form x)))  -- §15.5.5
  expr_step (Expr-F.Arrow is_async params x) = naming (λ name. of1 forms.Function (body_made (arrow_body names (arrow_flow is_async) name params (returned x))))  -- §15.3.4
  expr_step (Expr-F.ArrowBlock is_async params body) = naming (λ name. of1 forms.Function (body_made (arrow_body names (arrow_flow is_async) name params (inside body))))  -- §15.3.4
  expr_step (Expr-F.Comma x xs) = plain (of1 forms.Sequence (all (form x ∷ map form xs)))  -- §13.16

  abbrev pub argument_step : ArgumentOf → Making CoreArgument
  argument_step (Argument-F.One x) = of1 argument.One (form x)
  argument_step (Argument-F.Argument::Spread x) = of1 argument.Spread (form x)

  -- §13.2.5.5: a value takes a plain key as its name
  abbrev pub entry_step : EntryOf → Making CoreEntry
  entry_step (Entry-F.Entry::Spread x) = of1 entry.Copied (form x)
  entry_step (Entry-F.Entry::Shorthand name) = of2 (λ k x. entry.Pair (key.Plain k) x) (text_value name) (name_form names name)
  entry_step (Entry-F.Entry::Pair k x) = of2 entry.Pair k.key (x.named k.word)
  entry_step (Entry-F.Method m) = of2 entry.Method m.key.key (m.made kinds.Method m.key.word)

  abbrev pub key_step : KeyOf → Key
  key_step (Key-F.Word name) = written name
  key_step (Key-F.Key::Text text) = written text
  key_step (Key-F.Key::Number value) = written (signed_decimal value)
  key_step (Key-F.Computed x) = record { key = of1 key.Computed (form x); value = of1 (λ _. values.Undefined) (form x); word = [] }

  abbrev pub suffix_step : SuffixOf → Suffixed
  suffix_step (Suffix-F.Member is_optional name) = member_suffix is_optional (of1 key.Plain (text_value name))
  suffix_step (Suffix-F.Index is_optional x) = member_suffix is_optional (of1 key.Computed (form x))
  suffix_step (Suffix-F.Call is_optional arguments) = record {
    form = of1 (suffix.Call is_optional) (all arguments);
    key = of1 (λ _. key.Plain values.Undefined) (all arguments);
    is_optional = is_optional;
    is_call = true;
  }

  abbrev pub operand_step : OperandOf → Operand
  operand_step o = record { op = o.op; right = form o.right }

  abbrev pub piece_step : PieceOf → Making CorePiece
  piece_step p = of2 piece.Piece (form p.value) (piece_after p.after)

  abbrev pub function_step : FunctionOf → Function
  function_step f = function_made names inside f.flow f.name f.params f.body

  abbrev pub method_step : MethodOf → Method
  method_step m = method_made names inside m.flow m.key m.params m.body

  abbrev pub class_step : ClassOf → Class
  class_step c = class_made names c.name (option_map form c.parent) c.members

  abbrev pub member_step : MemberOf → Member
  member_step m = member_as m.is_static (names_constructor m.is_static m.method.key.word) m.method

  abbrev pub target_step : TargetOf → Target
  target_step (Target-F.Target::Name name) = name_target name
  target_step (Target-F.Target::Object props rest) = object_target props rest
  target_step (Target-F.Target::Array elems rest) = array_target elems rest

  abbrev pub prop_step : PropOf → Prop
  prop_step (Prop-F.Prop::Shorthand name default) = shorthand_made name (option_map naming_of default)
  prop_step (Prop-F.Prop::Pair k elem) = pair_made k elem

  abbrev pub elem_step : ElemOf → Elem
  elem_step e = elem_made e.target (option_map naming_of e.default)

  abbrev pub params_step : ParamsOf → Params
  params_step p = params_made p.elems p.rest

  -- ---- the parts of a tree

  unfoldable pub expression : Expr → Expression
  expression = fold-Expr (Making CoreArgument) (Making CoreEntry) Expression Key Suffixed Prop Target Operand (Making CorePiece) Class Function Member Method Elem Params argument_step entry_step expr_step key_step suffix_step prop_step target_step operand_step piece_step class_step function_step member_step method_step elem_step params_step

  unfoldable pub argument_of : Argument → Making CoreArgument
  argument_of = fold-Argument (Making CoreArgument) (Making CoreEntry) Expression Key Suffixed Prop Target Operand (Making CorePiece) Class Function Member Method Elem Params argument_step entry_step expr_step key_step suffix_step prop_step target_step operand_step piece_step class_step function_step member_step method_step elem_step params_step

  unfoldable pub entry_of : Entry → Making CoreEntry
  entry_of = fold-Entry (Making CoreArgument) (Making CoreEntry) Expression Key Suffixed Prop Target Operand (Making CorePiece) Class Function Member Method Elem Params argument_step entry_step expr_step key_step suffix_step prop_step target_step operand_step piece_step class_step function_step member_step method_step elem_step params_step

  unfoldable pub key_of : SourceKey → Key
  key_of = fold-Key (Making CoreArgument) (Making CoreEntry) Expression Key Suffixed Prop Target Operand (Making CorePiece) Class Function Member Method Elem Params argument_step entry_step expr_step key_step suffix_step prop_step target_step operand_step piece_step class_step function_step member_step method_step elem_step params_step

  unfoldable pub suffix_of : Suffix → Suffixed
  suffix_of = fold-Suffix (Making CoreArgument) (Making CoreEntry) Expression Key Suffixed Prop Target Operand (Making CorePiece) Class Function Member Method Elem Params argument_step entry_step expr_step key_step suffix_step prop_step target_step operand_step piece_step class_step function_step member_step method_step elem_step params_step

  unfoldable pub prop_of : SourceProp → Prop
  prop_of = fold-Prop (Making CoreArgument) (Making CoreEntry) Expression Key Suffixed Prop Target Operand (Making CorePiece) Class Function Member Method Elem Params argument_step entry_step expr_step key_step suffix_step prop_step target_step operand_step piece_step class_step function_step member_step method_step elem_step params_step

  unfoldable pub target_of : SourceTarget → Target
  target_of = fold-Target (Making CoreArgument) (Making CoreEntry) Expression Key Suffixed Prop Target Operand (Making CorePiece) Class Function Member Method Elem Params argument_step entry_step expr_step key_step suffix_step prop_step target_step operand_step piece_step class_step function_step member_step method_step elem_step params_step

  unfoldable pub operand_of : SourceOperand → Operand
  operand_of = fold-Operand (Making CoreArgument) (Making CoreEntry) Expression Key Suffixed Prop Target Operand (Making CorePiece) Class Function Member Method Elem Params argument_step entry_step expr_step key_step suffix_step prop_step target_step operand_step piece_step class_step function_step member_step method_step elem_step params_step

  unfoldable pub piece_of : Piece → Making CorePiece
  piece_of = fold-Piece (Making CoreArgument) (Making CoreEntry) Expression Key Suffixed Prop Target Operand (Making CorePiece) Class Function Member Method Elem Params argument_step entry_step expr_step key_step suffix_step prop_step target_step operand_step piece_step class_step function_step member_step method_step elem_step params_step

  unfoldable pub class_of : SourceClass → Class
  class_of = fold-Class (Making CoreArgument) (Making CoreEntry) Expression Key Suffixed Prop Target Operand (Making CorePiece) Class Function Member Method Elem Params argument_step entry_step expr_step key_step suffix_step prop_step target_step operand_step piece_step class_step function_step member_step method_step elem_step params_step

  unfoldable pub function_of : SourceFunction → Function
  function_of = fold-Function (Making CoreArgument) (Making CoreEntry) Expression Key Suffixed Prop Target Operand (Making CorePiece) Class Function Member Method Elem Params argument_step entry_step expr_step key_step suffix_step prop_step target_step operand_step piece_step class_step function_step member_step method_step elem_step params_step

  unfoldable pub member_of : SourceMember → Member
  member_of = fold-Member (Making CoreArgument) (Making CoreEntry) Expression Key Suffixed Prop Target Operand (Making CorePiece) Class Function Member Method Elem Params argument_step entry_step expr_step key_step suffix_step prop_step target_step operand_step piece_step class_step function_step member_step method_step elem_step params_step

  unfoldable pub method_of : SourceMethod → Method
  method_of = fold-Method (Making CoreArgument) (Making CoreEntry) Expression Key Suffixed Prop Target Operand (Making CorePiece) Class Function Member Method Elem Params argument_step entry_step expr_step key_step suffix_step prop_step target_step operand_step piece_step class_step function_step member_step method_step elem_step params_step

  unfoldable pub elem_of : SourceElem → Elem
  elem_of = fold-Elem (Making CoreArgument) (Making CoreEntry) Expression Key Suffixed Prop Target Operand (Making CorePiece) Class Function Member Method Elem Params argument_step entry_step expr_step key_step suffix_step prop_step target_step operand_step piece_step class_step function_step member_step method_step elem_step params_step

  unfoldable pub params_of : SourceParams → Params
  params_of = fold-Params (Making CoreArgument) (Making CoreEntry) Expression Key Suffixed Prop Target Operand (Making CorePiece) Class Function Member Method Elem Params argument_step entry_step expr_step key_step suffix_step prop_step target_step operand_step piece_step class_step function_step member_step method_step elem_step params_step
