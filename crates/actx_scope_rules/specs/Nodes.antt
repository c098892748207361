-- The nodes of expressions, patterns, functions and classes, in source order, an outer one before an inner one: the early
-- errors of each, and what the names mean that it uses.
--
-- Which parts are nodes: each expression, a shorthand in an object too, since its name stands for a value; and each function,
-- method, class, object pattern and array pattern. Names in patterns, keys, arguments, suffixes and members stand at the
-- node that holds them.
--
-- A body isn't in the tree of its function: a mark stands in its place.
use Rattle.std.specs.Prelude.{Bool, true, false, ◌||◌, List, [], ◌∷◌, ◌++◌, map, Option, Some, None}
use Rattle.actx_text.specs.declared.units.Units.{Units}
use Rattle.actx_tree.specs.Folds.{Steps, ExprOf, PieceOf, ArgumentOf, EntryOf, KeyOf, SuffixOf, OperandOf, FunctionOf, MethodOf, ClassOf, MemberOf, TargetOf, PropOf, ElemOf, ParamsOf, fold_expr, fold_function, fold_class, fold_target, fold_elem, fold_entry, fold_key, fold_member, fold_method, fold_params, fold_prop, fold_suffix, fold_argument, fold_operand, fold_piece}
use Rattle.actx_tree.specs.declared.expr.Expr.{Expr, Expr-F}
use Rattle.actx_tree.specs.declared.expr.Piece.{Piece}
use Rattle.actx_tree.specs.declared.expr.Argument.{Argument, Argument-F}
use Rattle.actx_tree.specs.declared.expr.Entry.{Entry, Entry-F}
use Rattle.actx_tree.specs.declared.expr.Key.{Key, Key-F}
use Rattle.actx_tree.specs.declared.expr.Suffix.{Suffix, Suffix-F}
use Rattle.actx_tree.specs.declared.expr.Operand.{Operand}
use Rattle.actx_tree.specs.declared.function.Function.{Function}
use Rattle.actx_tree.specs.declared.function.Method.{Method}
use Rattle.actx_tree.specs.declared.function.Class.{Class}
use Rattle.actx_tree.specs.declared.function.Member.{Member}
use Rattle.actx_tree.specs.declared.function.Flow.{Flow}
use Rattle.actx_tree.specs.declared.function.Flow.TheVariants as flow
use Rattle.actx_tree.specs.declared.function.Unread.{Unread}
use Rattle.actx_tree.specs.declared.operator.UnaryOp.{UnaryOp}
use Rattle.actx_tree.specs.declared.operator.UnaryOp.TheVariants as unary
use Rattle.actx_tree.specs.declared.pattern.Target.{Target, Target-F}
use Rattle.actx_tree.specs.declared.pattern.Prop.{Prop, Prop-F}
use Rattle.actx_tree.specs.declared.pattern.Elem.{Elem}
use Rattle.actx_tree.specs.declared.pattern.Params.{Params}
use Rattle.actx_scope_rules.specs.declared.early.EarlyKind.{EarlyKind}
use Rattle.actx_scope_rules.specs.declared.early.EarlyKind.TheVariants as kind
use Rattle.actx_scope_rules.specs.Words.{among, is_word, constructor_word}
use Rattle.actx_scope_rules.specs.declared.slot.Found.{Found}
use Rattle.actx_scope_rules.specs.Scopes.{found}
use Rattle.actx_scope_rules.specs.declared.place.Owner.{Owner}
use Rattle.actx_scope_rules.specs.declared.place.Owner.TheVariants as owner
use Rattle.actx_scope_rules.specs.declared.place.Place.{Place}
use Rattle.actx_scope_rules.specs.declared.place.Role.{Role}
use Rattle.actx_scope_rules.specs.declared.place.Role.TheVariants as roles
use Rattle.actx_scope_rules.specs.Contexts.{Context, behind, as_role, owned_by, in_arrow_params, in_function_params, in_method_params, in_body, own_name, in_class}
use Rattle.actx_scope_rules.specs.Conditions.{when, is_redeclared, is_not_declared, is_const_assigned, is_bad_await, is_bad_yield, is_bad_super_call, is_bad_super_member, is_bad_delete, has_bad_key, is_wrong_constructor, is_derived_constructor}

-- A node with its early errors, in the order of the kinds, and with what the names mean that stand at it; or the place of a
-- body, with what is around its statements.
pub data Mark : Type 0 where
  at_node : List EarlyKind → List Found → Mark
  at_body : Unread → Context → Mark

-- the marks in a part, for what is around it
abbrev pub Marks : Type 0
Marks = Context → List Mark

-- What those around a part ask of it. `names` are those that a pattern or parameters bind, or that a function or a class
-- has. `repeats` says whether a name that stands at the node around the part is among these, or stands before it in the part.
-- `word` is a key that is a word or a text: of a method that isn't static, and of a value of an object.
pub record Part : Type 0 where
  pub marks : Marks
  pub names : List Units
  pub repeats : List Units → Bool
  pub word : Option Units
  pub is_member : Bool

-- ---- marks of parts

abbrev pub none : Marks
none c = []

abbrev pub both : Marks → Marks → Marks
both f g c = f c ++ g c

abbrev pub all : List Part → Marks
all [] c = []
all (p ∷ ps) c = p.marks c ++ all ps c

-- the values of a part that may be left out
abbrev pub mapped : {A B : Type 0} → (A → B) → Option A → Option B
mapped f None = None
mapped f (Some x) = Some (f x)

abbrev pub or_none : Option Part → Marks
or_none None c = []
or_none (Some p) c = p.marks c

abbrev pub or_none_all : Option (List Part) → Marks
or_none_all None c = []
or_none_all (Some ps) c = all ps c

-- parts that bind names: each stands behind the names of those before it
abbrev pub binding : List Part → Marks
binding [] c = []
binding (p ∷ ps) c = p.marks c ++ binding ps (behind p.names c)

-- in another role or as another's method
abbrev pub with_role : Role → Marks → Marks
with_role r f c = f (as_role r c)

abbrev pub with_owner : Owner → Marks → Marks
with_owner o f c = f (owned_by o c)

-- a node with these errors, and what is in it
abbrev pub node : (Place → List EarlyKind) → Marks → Marks
node errors f c = at_node (errors c.place) [] ∷ f (as_role roles.Evaluated c)

abbrev pub sound : Place → List EarlyKind
sound p = []

-- a part that nothing is asked of
abbrev pub quiet : Marks → Part
quiet f = record { marks = f; names = []; repeats = λ earlier. false; word = None; is_member = false }

-- ---- what is asked of lists

abbrev pub all_names : List Part → List Units
all_names [] = []
all_names (p ∷ ps) = p.names ++ all_names ps

-- whether a name of these is among the earlier ones or stands before it
abbrev pub any_repeats : List Part → List Units → Bool
any_repeats [] earlier = false
any_repeats (p ∷ ps) earlier = p.repeats earlier || any_repeats ps (earlier ++ p.names)

abbrev pub word_of : Part → Option Units
word_of p = p.word

-- whether the last of these is a member; where there are none, the first argument says it
abbrev pub last_is_member : Bool → List Part → Bool
last_is_member before [] = before
last_is_member before (p ∷ ps) = last_is_member p.is_member ps

abbrev pub listed : {A : Type 0} → Option A → List A
listed None = []
listed (Some x) = x ∷ []

-- ---- expressions

-- a use of a name
abbrev pub name_node : Units → Marks
name_node name c = let x = found c.scopes name in
    at_node (when (is_not_declared x) kind.NotDeclared ++ when (is_const_assigned c.role x) kind.ConstAssigned) (listed x) ∷ []

abbrev pub object_node : List Part → Marks
object_node entries c = at_node (when (has_bad_key (map word_of entries)) kind.BadKey) [] ∷ all entries (as_role roles.Evaluated c)

-- the error of an operator before an operand that is a member or not
abbrev pub unary_errors : UnaryOp → Bool → Place → List EarlyKind
unary_errors unary.Not is_member p = []
unary_errors unary.Minus is_member p = []
unary_errors unary.Plus is_member p = []
unary_errors unary.TypeOf is_member p = []
unary_errors unary.Void is_member p = []
unary_errors unary.Delete is_member p = when (is_bad_delete is_member) kind.BadDelete
unary_errors unary.Await is_member p = when (is_bad_await p) kind.BadAwait

abbrev pub arrow_flow : Bool → Flow
arrow_flow true = flow.Async
arrow_flow false = flow.Plain

-- an arrow with its parameters and its body
abbrev pub arrow_node : Bool → Part → Marks → Marks
arrow_node is_async params body c = let p = in_arrow_params params.names c in
    at_node (when (params.repeats []) kind.Redeclared) [] ∷ (params.marks p ++ body (in_body (arrow_flow is_async) params.names p))

abbrev pub body_marks : Unread → Marks
body_marks range c = at_body range c ∷ []

abbrev pub expr_step : ExprOf Part → Part
expr_step (Expr-F.Expr::Name name) = quiet (name_node name)
expr_step (Expr-F.Expr::Number value) = quiet (node sound none)
expr_step (Expr-F.Expr::Text text) = quiet (node sound none)
expr_step (Expr-F.Bool value) = quiet (node sound none)
expr_step Expr-F.Null = quiet (node sound none)
expr_step Expr-F.This = quiet (node sound none)
expr_step (Expr-F.Template text pieces) = quiet (node sound (all pieces))
expr_step (Expr-F.Brackets x) = quiet (node sound x.marks)
expr_step (Expr-F.Expr::Array arguments) = quiet (node sound (all arguments))
expr_step (Expr-F.Expr::Object entries) = quiet (object_node entries)
expr_step (Expr-F.SuperCall arguments) = quiet (node (λ p. when (is_bad_super_call p) kind.BadSuper) (all arguments))
expr_step (Expr-F.SuperMember name) = quiet (node (λ p. when (is_bad_super_member p) kind.BadSuper) none)
expr_step (Expr-F.Function f) = f
expr_step (Expr-F.Class c) = c
expr_step (Expr-F.New x suffixes arguments) = quiet (node sound (both x.marks (both (all suffixes) (or_none_all arguments))))
expr_step (Expr-F.Left x suffixes) = record (quiet (node sound (both x.marks (all suffixes)))) { is_member = last_is_member false suffixes }
expr_step (Expr-F.StepBefore op x) = quiet (node sound (with_role roles.Assigned x.marks))
expr_step (Expr-F.StepAfter x op) = quiet (node sound (with_role roles.Assigned x.marks))
expr_step (Expr-F.Unary op x) = quiet (node (unary_errors op x.is_member) x.marks)
expr_step (Expr-F.Chain x operands) = quiet (node sound (both x.marks (all operands)))
expr_step (Expr-F.Conditional test first other) = quiet (node sound (both test.marks (both first.marks other.marks)))
expr_step (Expr-F.Assign place op x) = quiet (node sound (both (with_role roles.Assigned place.marks) x.marks))
expr_step (Expr-F.Yield x) = quiet (node (λ p. when (is_bad_yield p) kind.BadYield) (or_none x))
expr_step (Expr-F.Arrow is_async params x) = quiet (arrow_node is_async params x.marks)
expr_step (Expr-F.ArrowBlock is_async params body) = quiet (arrow_node is_async params (body_marks body))
expr_step (Expr-F.Comma x xs) = quiet (node sound (both x.marks (all xs)))

abbrev pub piece_step : PieceOf Part → Part
piece_step p = quiet p.value.marks

abbrev pub argument_step : ArgumentOf Part → Part
argument_step (Argument-F.One x) = quiet x.marks
argument_step (Argument-F.Argument::Spread x) = quiet x.marks

abbrev pub entry_step : EntryOf Part → Part
entry_step (Entry-F.Entry::Spread x) = quiet x.marks
entry_step (Entry-F.Entry::Shorthand name) = quiet (name_node name)
entry_step (Entry-F.Entry::Pair key x) = record (quiet (both key.marks x.marks)) { word = key.word }
entry_step (Entry-F.Method m) = quiet (with_owner owner.Other m.marks)

abbrev pub key_step : KeyOf Part → Part
key_step (Key-F.Word name) = record (quiet none) { word = Some name }
key_step (Key-F.Key::Text text) = record (quiet none) { word = Some text }
key_step (Key-F.Key::Number value) = quiet none
key_step (Key-F.Computed x) = quiet x.marks

abbrev pub suffix_step : SuffixOf Part → Part
suffix_step (Suffix-F.Member is_optional name) = record (quiet none) { is_member = true }
suffix_step (Suffix-F.Index is_optional x) = record (quiet x.marks) { is_member = true }
suffix_step (Suffix-F.Call is_optional arguments) = quiet (all arguments)

abbrev pub operand_step : OperandOf Part → Part
operand_step o = quiet o.right.marks

-- ---- functions and classes

abbrev pub function_node : Flow → Option Units → Part → Unread → Marks
function_node f name params body c = let p = in_function_params (own_name c.role name) params.names c in
    at_node (when (is_redeclared c.role name c.earlier || params.repeats []) kind.Redeclared) [] ∷ (params.marks p ++ at_body body (in_body f params.names p) ∷ [])

abbrev pub function_step : FunctionOf Part → Part
function_step f = record (quiet (function_node f.flow f.name f.params f.body)) { names = listed f.name }

abbrev pub method_node : Flow → Part → Part → Unread → Marks
method_node f key params body c = let p = in_method_params (is_derived_constructor c.place.owner key.word) params.names c in
    at_node (when (params.repeats []) kind.Redeclared ++ when (is_wrong_constructor c.place.owner key.word f) kind.TwoConstructors) []
    ∷ (key.marks (as_role roles.Evaluated c) ++ (params.marks p ++ at_body body (in_body f params.names p) ∷ []))

abbrev pub method_step : MethodOf Part → Part
method_step m = record (quiet (method_node m.flow m.key m.params m.body)) { word = m.key.word }

abbrev pub is_constructor : Part → Bool
is_constructor m = is_word constructor_word m.word

-- members of a class; whether it has `extends`, and whether a constructor stands before them
abbrev pub members_marks : List Part → Bool → Bool → Marks
members_marks [] has_parent has_constructor c = []
members_marks (m ∷ ms) has_parent has_constructor c = m.marks (owned_by (owner.Class has_parent has_constructor) c)
    ++ members_marks ms has_parent (has_constructor || is_constructor m) c

abbrev pub has_some : {A : Type 0} → Option A → Bool
has_some None = false
has_some (Some x) = true

abbrev pub class_node : Option Units → Option Part → List Part → Marks
class_node name parent members c = let d = in_class name c in
    at_node (when (is_redeclared c.role name c.earlier) kind.Redeclared) [] ∷ (or_none parent d ++ members_marks members (has_some parent) false d)

abbrev pub class_step : ClassOf Part → Part
class_step c = record (quiet (class_node c.name c.parent c.members)) { names = listed c.name }

abbrev pub member_part : Bool → Part → Part
member_part true m = quiet (with_owner owner.Other m.marks)
member_part false m = m

abbrev pub member_step : MemberOf Part → Part
member_step m = member_part m.is_static m.method

-- ---- patterns and parameters

-- a name that is bound
abbrev pub bound_name : Units → Part
bound_name name = record (quiet none) { names = name ∷ []; repeats = among name }

-- the name after `...`
abbrev pub rest_names : Option Units → List Part
rest_names rest = map bound_name (listed rest)

-- a node that binds what these parts bind
abbrev pub binding_node : List Part → Marks
binding_node ps c = at_node (when (any_repeats ps c.earlier) kind.Redeclared) [] ∷ binding ps (as_role roles.Evaluated c)

-- a pattern of these parts; it holds the names that stand right in it
abbrev pub pattern_part : List Part → Part
pattern_part ps = record (quiet (binding_node ps)) { names = all_names ps }

abbrev pub target_step : TargetOf Part → Part
target_step (Target-F.Target::Name name) = bound_name name
target_step (Target-F.Target::Object props rest) = pattern_part (props ++ rest_names rest)
target_step (Target-F.Target::Array elems rest) = pattern_part (elems ++ rest_names rest)

abbrev pub prop_step : PropOf Part → Part
prop_step (Prop-F.Prop::Shorthand name default) = record (bound_name name) { marks = or_none default }
prop_step (Prop-F.Prop::Pair key elem) = record elem { marks = both key.marks elem.marks }

abbrev pub elem_step : ElemOf Part → Part
elem_step e = record e.target { marks = both e.target.marks (or_none e.default) }

-- parts that bind names in a row, at the node around them
abbrev pub bound_parts : List Part → Part
bound_parts ps = record (quiet (binding ps)) { names = all_names ps; repeats = any_repeats ps }

abbrev pub params_step : ParamsOf Part → Part
params_step p = bound_parts (p.elems ++ listed p.rest)

-- ---- of each kind of part

abbrev pub steps : Steps Part
steps = record {
  expr = expr_step;
  piece = piece_step;
  argument = argument_step;
  entry = entry_step;
  key = key_step;
  suffix = suffix_step;
  operand = operand_step;
  function = function_step;
  method = method_step;
  class = class_step;
  member = member_step;
  target = target_step;
  prop = prop_step;
  elem = elem_step;
  params = params_step;
}

unfoldable pub expr_part : Expr → Part
expr_part = fold_expr Part steps

unfoldable pub piece_part : Piece → Part
piece_part = fold_piece Part steps

unfoldable pub argument_part : Argument → Part
argument_part = fold_argument Part steps

unfoldable pub entry_part : Entry → Part
entry_part = fold_entry Part steps

unfoldable pub key_part : Key → Part
key_part = fold_key Part steps

unfoldable pub suffix_part : Suffix → Part
suffix_part = fold_suffix Part steps

unfoldable pub operand_part : Operand → Part
operand_part = fold_operand Part steps

unfoldable pub function_part : Function → Part
function_part = fold_function Part steps

unfoldable pub method_part : Method → Part
method_part = fold_method Part steps

unfoldable pub class_part : Class → Part
class_part = fold_class Part steps

unfoldable pub member_part_of : Member → Part
member_part_of = fold_member Part steps

unfoldable pub target_part : Target → Part
target_part = fold_target Part steps

unfoldable pub prop_part : Prop → Part
prop_part = fold_prop Part steps

unfoldable pub elem_part : Elem → Part
elem_part = fold_elem Part steps

unfoldable pub params_part : Params → Part
params_part = fold_params Part steps
