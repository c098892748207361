-- What each kind of expression, pattern, function and class becomes, from the parts in it.
use Rattle.std.proofs.Common.{◌≡◌, ℤ, Bool, List, Option, Some, None, map, subst}
use Rattle.std.specs.Option.{option_map}
use Rattle.actx_text.specs.declared.units.Units.{Units}
use Rattle.actx_tree.specs.declared.expr.Expr.{Expr, Expr-F, the_lemmas}
use Rattle.actx_tree.specs.declared.expr.Expr.TheVariants as e
use Rattle.actx_tree.specs.declared.expr.Piece.{Piece, out-Piece, roll-out-Piece}
use Rattle.actx_tree.specs.declared.expr.Argument.{Argument, Argument-F}
use Rattle.actx_tree.specs.declared.expr.Argument.TheVariants as argument
use Rattle.actx_tree.specs.declared.expr.Entry.{Entry, Entry-F}
use Rattle.actx_tree.specs.declared.expr.Entry.TheVariants as entry
use Rattle.actx_tree.specs.declared.expr.Key.{Key, Key-F}
use Rattle.actx_tree.specs.declared.expr.Key.TheVariants as key
use Rattle.actx_tree.specs.declared.expr.Suffix.{Suffix, Suffix-F}
use Rattle.actx_tree.specs.declared.expr.Suffix.TheVariants as suffix
use Rattle.actx_tree.specs.declared.expr.Operand.{Operand, out-Operand, roll-out-Operand}
use Rattle.actx_tree.specs.declared.function.Function.{Function, out-Function, roll-out-Function}
use Rattle.actx_tree.specs.declared.function.Method.{Method, out-Method, roll-out-Method}
use Rattle.actx_tree.specs.declared.function.Class.{Class, out-Class, roll-out-Class}
use Rattle.actx_tree.specs.declared.function.Member.{Member, out-Member, roll-out-Member}
use Rattle.actx_tree.specs.declared.pattern.Target.{Target, Target-F}
use Rattle.actx_tree.specs.declared.pattern.Target.TheVariants as target
use Rattle.actx_tree.specs.declared.pattern.Prop.{Prop, Prop-F}
use Rattle.actx_tree.specs.declared.pattern.Prop.TheVariants as prop
use Rattle.actx_tree.specs.declared.pattern.Elem.{Elem, out-Elem, roll-out-Elem}
use Rattle.actx_tree.specs.declared.pattern.Params.{Params, out-Params, roll-out-Params}
use Rattle.actx_tree.specs.declared.operator.BinaryOp.{BinaryOp}
use Rattle.actx_tree.specs.declared.operator.UnaryOp.{UnaryOp}
use Rattle.actx_tree.specs.declared.operator.StepOp.{StepOp}
use Rattle.actx_tree.specs.declared.operator.AssignOp.{AssignOp}
use Rattle.actx_tree.specs.declared.function.Flow.{Flow}
use Rattle.actx_tree.specs.declared.function.Unread.{Unread}
use Rattle.actx_tree.specs.Parts as parts
use Rattle.actx_core.specs.Names.{Names}
use Rattle.actx_core.specs.Functions.{Inside}
use Rattle.actx_core.specs.Expressions.{argument_of, entry_of, expression, key_of, suffix_of, prop_of, target_of, operand_of, piece_of, class_of, function_of, member_of, method_of, elem_of, params_of, argument_step, entry_step, expr_step, key_step, suffix_step, prop_step, target_step, operand_step, piece_step, class_step, function_step, member_step, method_step, elem_step, params_step}

pub expression-Name : (names : Names) (inside : Inside) (name : Units) → expression names inside (e.Name name) ≡ expr_step names inside (Expr-F.Expr::Name name)
unfolding expression
expression-Name names inside name = simp the_lemmas

pub expression-Number : (names : Names) (inside : Inside) (value : ℤ) → expression names inside (e.Number value) ≡ expr_step names inside (Expr-F.Expr::Number value)
unfolding expression
expression-Number names inside value = simp the_lemmas

pub expression-Text : (names : Names) (inside : Inside) (text : Units) → expression names inside (e.Text text) ≡ expr_step names inside (Expr-F.Expr::Text text)
unfolding expression
expression-Text names inside text = simp the_lemmas

pub expression-Bool : (names : Names) (inside : Inside) (value : Bool) → expression names inside (e.Bool value) ≡ expr_step names inside (Expr-F.Bool value)
unfolding expression
expression-Bool names inside value = simp the_lemmas

pub expression-Null : (names : Names) (inside : Inside) → expression names inside e.Null ≡ expr_step names inside Expr-F.Null
unfolding expression
expression-Null names inside = simp the_lemmas

pub expression-This : (names : Names) (inside : Inside) → expression names inside e.This ≡ expr_step names inside Expr-F.This
unfolding expression
expression-This names inside = simp the_lemmas

pub expression-Template : (names : Names) (inside : Inside) (text : Units) (pieces : List Piece) → expression names inside (e.Template text pieces) ≡ expr_step names inside (Expr-F.Template text (map (piece_of names inside) pieces))
unfolding expression piece_of
expression-Template names inside text pieces = simp the_lemmas

pub expression-Brackets : (names : Names) (inside : Inside) (x : Expr) → expression names inside (e.Brackets x) ≡ expr_step names inside (Expr-F.Brackets (expression names inside x))
unfolding expression
expression-Brackets names inside x = simp the_lemmas

pub expression-Array : (names : Names) (inside : Inside) (arguments : List Argument) → expression names inside (e.Array arguments) ≡ expr_step names inside (Expr-F.Expr::Array (map (argument_of names inside) arguments))
unfolding expression argument_of
expression-Array names inside arguments = simp the_lemmas

pub expression-Object : (names : Names) (inside : Inside) (entries : List Entry) → expression names inside (e.Object entries) ≡ expr_step names inside (Expr-F.Expr::Object (map (entry_of names inside) entries))
unfolding expression entry_of
expression-Object names inside entries = simp the_lemmas

pub expression-SuperCall : (names : Names) (inside : Inside) (arguments : List Argument) → expression names inside (e.SuperCall arguments) ≡ expr_step names inside (Expr-F.SuperCall (map (argument_of names inside) arguments))
unfolding expression argument_of
expression-SuperCall names inside arguments = simp the_lemmas

pub expression-SuperMember : (names : Names) (inside : Inside) (name : Units) → expression names inside (e.SuperMember name) ≡ expr_step names inside (Expr-F.SuperMember name)
unfolding expression
expression-SuperMember names inside name = simp the_lemmas

pub expression-Function : (names : Names) (inside : Inside) (f : Function) → expression names inside (e.Function f) ≡ expr_step names inside (Expr-F.Function (function_of names inside f))
unfolding expression function_of
expression-Function names inside f = simp the_lemmas

pub expression-Class : (names : Names) (inside : Inside) (c : Class) → expression names inside (e.Class c) ≡ expr_step names inside (Expr-F.Class (class_of names inside c))
unfolding expression class_of
expression-Class names inside c = simp the_lemmas

pub expression-New : (names : Names) (inside : Inside) (x : Expr) (suffixes : List Suffix) (arguments : Option (List Argument)) → expression names inside (e.New x suffixes arguments) ≡ expr_step names inside (Expr-F.New (expression names inside x) (map (suffix_of names inside) suffixes) (option_map (map (argument_of names inside)) arguments))
unfolding expression suffix_of argument_of
expression-New names inside x suffixes None = simp the_lemmas
expression-New names inside x suffixes (Some arguments) = simp the_lemmas

pub expression-Left : (names : Names) (inside : Inside) (x : Expr) (suffixes : List Suffix) → expression names inside (e.Left x suffixes) ≡ expr_step names inside (Expr-F.Left (expression names inside x) (map (suffix_of names inside) suffixes))
unfolding expression suffix_of
expression-Left names inside x suffixes = simp the_lemmas

pub expression-StepBefore : (names : Names) (inside : Inside) (op : StepOp) (x : Expr) → expression names inside (e.StepBefore op x) ≡ expr_step names inside (Expr-F.StepBefore op (expression names inside x))
unfolding expression
expression-StepBefore names inside op x = simp the_lemmas

pub expression-StepAfter : (names : Names) (inside : Inside) (x : Expr) (op : StepOp) → expression names inside (e.StepAfter x op) ≡ expr_step names inside (Expr-F.StepAfter (expression names inside x) op)
unfolding expression
expression-StepAfter names inside x op = simp the_lemmas

pub expression-Unary : (names : Names) (inside : Inside) (op : UnaryOp) (x : Expr) → expression names inside (e.Unary op x) ≡ expr_step names inside (Expr-F.Unary op (expression names inside x))
unfolding expression
expression-Unary names inside op x = simp the_lemmas

pub expression-Chain : (names : Names) (inside : Inside) (x : Expr) (operands : List Operand) → expression names inside (e.Chain x operands) ≡ expr_step names inside (Expr-F.Chain (expression names inside x) (map (operand_of names inside) operands))
unfolding expression operand_of
expression-Chain names inside x operands = simp the_lemmas

pub expression-Conditional : (names : Names) (inside : Inside) (test : Expr) (first : Expr) (other : Expr) → expression names inside (e.Conditional test first other) ≡ expr_step names inside (Expr-F.Conditional (expression names inside test) (expression names inside first) (expression names inside other))
unfolding expression
expression-Conditional names inside test first other = simp the_lemmas

pub expression-Assign : (names : Names) (inside : Inside) (place : Expr) (op : AssignOp) (x : Expr) → expression names inside (e.Assign place op x) ≡ expr_step names inside (Expr-F.Assign (expression names inside place) op (expression names inside x))
unfolding expression
expression-Assign names inside place op x = simp the_lemmas

pub expression-Yield : (names : Names) (inside : Inside) (x : Option Expr) → expression names inside (e.Yield x) ≡ expr_step names inside (Expr-F.Yield (option_map (expression names inside) x))
unfolding expression
expression-Yield names inside None = simp the_lemmas
expression-Yield names inside (Some x) = simp the_lemmas

pub expression-Arrow : (names : Names) (inside : Inside) (is_async : Bool) (params : Params) (x : Expr) → expression names inside (e.Arrow is_async params x) ≡ expr_step names inside (Expr-F.Arrow is_async (params_of names inside params) (expression names inside x))
unfolding expression params_of
expression-Arrow names inside is_async params x = simp the_lemmas

pub expression-ArrowBlock : (names : Names) (inside : Inside) (is_async : Bool) (params : Params) (body : Unread) → expression names inside (e.ArrowBlock is_async params body) ≡ expr_step names inside (Expr-F.ArrowBlock is_async (params_of names inside params) body)
unfolding expression params_of
expression-ArrowBlock names inside is_async params body = simp the_lemmas

pub expression-Comma : (names : Names) (inside : Inside) (x : Expr) (xs : List Expr) → expression names inside (e.Comma x xs) ≡ expr_step names inside (Expr-F.Comma (expression names inside x) (map (expression names inside) xs))
unfolding expression
expression-Comma names inside x xs = simp the_lemmas

pub argument_of-One : (names : Names) (inside : Inside) (x : Expr) → argument_of names inside (argument.One x) ≡ argument_step names inside (Argument-F.One (expression names inside x))
unfolding argument_of expression
argument_of-One names inside x = simp the_lemmas

pub argument_of-Spread : (names : Names) (inside : Inside) (x : Expr) → argument_of names inside (argument.Spread x) ≡ argument_step names inside (Argument-F.Argument::Spread (expression names inside x))
unfolding argument_of expression
argument_of-Spread names inside x = simp the_lemmas

pub entry_of-Spread : (names : Names) (inside : Inside) (x : Expr) → entry_of names inside (entry.Spread x) ≡ entry_step names inside (Entry-F.Entry::Spread (expression names inside x))
unfolding entry_of expression
entry_of-Spread names inside x = simp the_lemmas

pub entry_of-Shorthand : (names : Names) (inside : Inside) (name : Units) → entry_of names inside (entry.Shorthand name) ≡ entry_step names inside (Entry-F.Entry::Shorthand name)
unfolding entry_of
entry_of-Shorthand names inside name = simp the_lemmas

pub entry_of-Pair : (names : Names) (inside : Inside) (k : Key) (x : Expr) → entry_of names inside (entry.Pair k x) ≡ entry_step names inside (Entry-F.Entry::Pair (key_of names inside k) (expression names inside x))
unfolding entry_of key_of expression
entry_of-Pair names inside k x = simp the_lemmas

pub entry_of-Method : (names : Names) (inside : Inside) (m : Method) → entry_of names inside (entry.Method m) ≡ entry_step names inside (Entry-F.Method (method_of names inside m))
unfolding entry_of method_of
entry_of-Method names inside m = simp the_lemmas

pub key_of-Word : (names : Names) (inside : Inside) (name : Units) → key_of names inside (key.Word name) ≡ key_step names inside (Key-F.Word name)
unfolding key_of
key_of-Word names inside name = simp the_lemmas

pub key_of-Text : (names : Names) (inside : Inside) (text : Units) → key_of names inside (key.Text text) ≡ key_step names inside (Key-F.Key::Text text)
unfolding key_of
key_of-Text names inside text = simp the_lemmas

pub key_of-Number : (names : Names) (inside : Inside) (value : ℤ) → key_of names inside (key.Number value) ≡ key_step names inside (Key-F.Key::Number value)
unfolding key_of
key_of-Number names inside value = simp the_lemmas

pub key_of-Computed : (names : Names) (inside : Inside) (x : Expr) → key_of names inside (key.Computed x) ≡ key_step names inside (Key-F.Computed (expression names inside x))
unfolding key_of expression
key_of-Computed names inside x = simp the_lemmas

pub suffix_of-Member : (names : Names) (inside : Inside) (is_optional : Bool) (name : Units) → suffix_of names inside (suffix.Member is_optional name) ≡ suffix_step names inside (Suffix-F.Member is_optional name)
unfolding suffix_of
suffix_of-Member names inside is_optional name = simp the_lemmas

pub suffix_of-Index : (names : Names) (inside : Inside) (is_optional : Bool) (x : Expr) → suffix_of names inside (suffix.Index is_optional x) ≡ suffix_step names inside (Suffix-F.Index is_optional (expression names inside x))
unfolding suffix_of expression
suffix_of-Index names inside is_optional x = simp the_lemmas

pub suffix_of-Call : (names : Names) (inside : Inside) (is_optional : Bool) (arguments : List Argument) → suffix_of names inside (suffix.Call is_optional arguments) ≡ suffix_step names inside (Suffix-F.Call is_optional (map (argument_of names inside) arguments))
unfolding suffix_of argument_of
suffix_of-Call names inside is_optional arguments = simp the_lemmas

pub target_of-Name : (names : Names) (inside : Inside) (name : Units) → target_of names inside (target.Name name) ≡ target_step names inside (Target-F.Target::Name name)
unfolding target_of
target_of-Name names inside name = simp the_lemmas

pub target_of-Object : (names : Names) (inside : Inside) (props : List Prop) (rest : Option Units) → target_of names inside (target.Object props rest) ≡ target_step names inside (Target-F.Target::Object (map (prop_of names inside) props) rest)
unfolding target_of prop_of
target_of-Object names inside props rest = simp the_lemmas

pub target_of-Array : (names : Names) (inside : Inside) (elems : List Elem) (rest : Option Units) → target_of names inside (target.Array elems rest) ≡ target_step names inside (Target-F.Target::Array (map (elem_of names inside) elems) rest)
unfolding target_of elem_of
target_of-Array names inside elems rest = simp the_lemmas

pub prop_of-Shorthand : (names : Names) (inside : Inside) (name : Units) (default : Option Expr) → prop_of names inside (prop.Shorthand name default) ≡ prop_step names inside (Prop-F.Prop::Shorthand name (option_map (expression names inside) default))
unfolding prop_of expression
prop_of-Shorthand names inside name None = simp the_lemmas
prop_of-Shorthand names inside name (Some default) = simp the_lemmas

pub prop_of-Pair : (names : Names) (inside : Inside) (k : Key) (elem : Elem) → prop_of names inside (prop.Pair k elem) ≡ prop_step names inside (Prop-F.Prop::Pair (key_of names inside k) (elem_of names inside elem))
unfolding prop_of key_of elem_of
prop_of-Pair names inside k elem = simp the_lemmas

pub piece_of-Piece : (names : Names) (inside : Inside) (value : Expr) (after : Units) → piece_of names inside (parts.piece_of value after) ≡ piece_step names inside (record { value = (expression names inside value); after = after })
unfolding piece_of expression
piece_of-Piece names inside value after = simp the_lemmas

pub operand_of-Operand : (names : Names) (inside : Inside) (op : BinaryOp) (right : Expr) → operand_of names inside (parts.operand_of op right) ≡ operand_step names inside (record { op = op; right = (expression names inside right) })
unfolding operand_of expression
operand_of-Operand names inside op right = simp the_lemmas

pub function_of-Function : (names : Names) (inside : Inside) (flow : Flow) (name : Option Units) (params : Params) (body : Unread) → function_of names inside (parts.function_of flow name params body) ≡ function_step names inside (record { flow = flow; name = name; params = (params_of names inside params); body = body })
unfolding function_of params_of
function_of-Function names inside flow name params body = simp the_lemmas

pub method_of-Method : (names : Names) (inside : Inside) (flow : Flow) (key : Key) (params : Params) (body : Unread) → method_of names inside (parts.method_of flow key params body) ≡ method_step names inside (record { flow = flow; key = (key_of names inside key); params = (params_of names inside params); body = body })
unfolding method_of key_of params_of
method_of-Method names inside flow key params body = simp the_lemmas

pub class_of-Class : (names : Names) (inside : Inside) (name : Option Units) (parent : Option Expr) (members : List Member) → class_of names inside (parts.class_of name parent members) ≡ class_step names inside (record { name = name; parent = (option_map (expression names inside) parent); members = (map (member_of names inside) members) })
unfolding class_of expression member_of
class_of-Class names inside name None members = simp the_lemmas
class_of-Class names inside name (Some parent) members = simp the_lemmas

pub member_of-Member : (names : Names) (inside : Inside) (is_static : Bool) (method : Method) → member_of names inside (parts.member_of is_static method) ≡ member_step names inside (record { is_static = is_static; method = (method_of names inside method) })
unfolding member_of method_of
member_of-Member names inside is_static method = simp the_lemmas

pub elem_of-Elem : (names : Names) (inside : Inside) (target : Target) (default : Option Expr) → elem_of names inside (parts.elem_of target default) ≡ elem_step names inside (record { target = (target_of names inside target); default = (option_map (expression names inside) default) })
unfolding elem_of target_of expression
elem_of-Elem names inside target None = simp the_lemmas
elem_of-Elem names inside target (Some default) = simp the_lemmas

pub params_of-Params : (names : Names) (inside : Inside) (elems : List Elem) (rest : Option Target) → params_of names inside (parts.params_of elems rest) ≡ params_step names inside (record { elems = (map (elem_of names inside) elems); rest = (option_map (target_of names inside) rest) })
unfolding params_of elem_of target_of
params_of-Params names inside elems None = simp the_lemmas
params_of-Params names inside elems (Some rest) = simp the_lemmas

-- ---- the same of a part whose fields aren't named

pub piece_of-fields : (names : Names) (inside : Inside) (whole : Piece) → piece_of names inside whole ≡ piece_step names inside (record { value = (expression names inside (out-Piece whole).value); after = (out-Piece whole).after })
piece_of-fields names inside whole = let h = piece_of-Piece names inside (out-Piece whole).value (out-Piece whole).after in subst (λ (z : Piece). piece_of names inside z ≡ piece_step names inside (record { value = (expression names inside (out-Piece whole).value); after = (out-Piece whole).after })) (roll-out-Piece whole) h

pub operand_of-fields : (names : Names) (inside : Inside) (whole : Operand) → operand_of names inside whole ≡ operand_step names inside (record { op = (out-Operand whole).op; right = (expression names inside (out-Operand whole).right) })
operand_of-fields names inside whole = let h = operand_of-Operand names inside (out-Operand whole).op (out-Operand whole).right in subst (λ (z : Operand). operand_of names inside z ≡ operand_step names inside (record { op = (out-Operand whole).op; right = (expression names inside (out-Operand whole).right) })) (roll-out-Operand whole) h

pub function_of-fields : (names : Names) (inside : Inside) (whole : Function) → function_of names inside whole ≡ function_step names inside (record { flow = (out-Function whole).flow; name = (out-Function whole).name; params = (params_of names inside (out-Function whole).params); body = (out-Function whole).body })
function_of-fields names inside whole = let h = function_of-Function names inside (out-Function whole).flow (out-Function whole).name (out-Function whole).params (out-Function whole).body in subst (λ (z : Function). function_of names inside z ≡ function_step names inside (record { flow = (out-Function whole).flow; name = (out-Function whole).name; params = (params_of names inside (out-Function whole).params); body = (out-Function whole).body })) (roll-out-Function whole) h

pub method_of-fields : (names : Names) (inside : Inside) (whole : Method) → method_of names inside whole ≡ method_step names inside (record { flow = (out-Method whole).flow; key = (key_of names inside (out-Method whole).key); params = (params_of names inside (out-Method whole).params); body = (out-Method whole).body })
method_of-fields names inside whole = let h = method_of-Method names inside (out-Method whole).flow (out-Method whole).key (out-Method whole).params (out-Method whole).body in subst (λ (z : Method). method_of names inside z ≡ method_step names inside (record { flow = (out-Method whole).flow; key = (key_of names inside (out-Method whole).key); params = (params_of names inside (out-Method whole).params); body = (out-Method whole).body })) (roll-out-Method whole) h

pub class_of-fields : (names : Names) (inside : Inside) (whole : Class) → class_of names inside whole ≡ class_step names inside (record { name = (out-Class whole).name; parent = (option_map (expression names inside) (out-Class whole).parent); members = (map (member_of names inside) (out-Class whole).members) })
class_of-fields names inside whole = let h = class_of-Class names inside (out-Class whole).name (out-Class whole).parent (out-Class whole).members in subst (λ (z : Class). class_of names inside z ≡ class_step names inside (record { name = (out-Class whole).name; parent = (option_map (expression names inside) (out-Class whole).parent); members = (map (member_of names inside) (out-Class whole).members) })) (roll-out-Class whole) h

pub member_of-fields : (names : Names) (inside : Inside) (whole : Member) → member_of names inside whole ≡ member_step names inside (record { is_static = (out-Member whole).is_static; method = (method_of names inside (out-Member whole).method) })
member_of-fields names inside whole = let h = member_of-Member names inside (out-Member whole).is_static (out-Member whole).method in subst (λ (z : Member). member_of names inside z ≡ member_step names inside (record { is_static = (out-Member whole).is_static; method = (method_of names inside (out-Member whole).method) })) (roll-out-Member whole) h

pub elem_of-fields : (names : Names) (inside : Inside) (whole : Elem) → elem_of names inside whole ≡ elem_step names inside (record { target = (target_of names inside (out-Elem whole).target); default = (option_map (expression names inside) (out-Elem whole).default) })
elem_of-fields names inside whole = let h = elem_of-Elem names inside (out-Elem whole).target (out-Elem whole).default in subst (λ (z : Elem). elem_of names inside z ≡ elem_step names inside (record { target = (target_of names inside (out-Elem whole).target); default = (option_map (expression names inside) (out-Elem whole).default) })) (roll-out-Elem whole) h

pub params_of-fields : (names : Names) (inside : Inside) (whole : Params) → params_of names inside whole ≡ params_step names inside (record { elems = (map (elem_of names inside) (out-Params whole).elems); rest = (option_map (target_of names inside) (out-Params whole).rest) })
params_of-fields names inside whole = let h = params_of-Params names inside (out-Params whole).elems (out-Params whole).rest in subst (λ (z : Params). params_of names inside z ≡ params_step names inside (record { elems = (map (elem_of names inside) (out-Params whole).elems); rest = (option_map (target_of names inside) (out-Params whole).rest) })) (roll-out-Params whole) h

-- what each form gives, from the parts in it
pub ruleset expr_equations = (
  expression-Name,
  expression-Number,
  expression-Text,
  expression-Bool,
  expression-Null,
  expression-This,
  expression-Template,
  expression-Brackets,
  expression-Array,
  expression-Object,
  expression-SuperCall,
  expression-SuperMember,
  expression-Function,
  expression-Class,
  expression-New,
  expression-Left,
  expression-StepBefore,
  expression-StepAfter,
  expression-Unary,
  expression-Chain,
  expression-Conditional,
  expression-Assign,
  expression-Yield,
  expression-Arrow,
  expression-ArrowBlock,
  expression-Comma,
  argument_of-One,
  argument_of-Spread,
  entry_of-Spread,
  entry_of-Shorthand,
  entry_of-Pair,
  entry_of-Method,
  key_of-Word,
  key_of-Text,
  key_of-Number,
  key_of-Computed,
  suffix_of-Member,
  suffix_of-Index,
  suffix_of-Call,
  target_of-Name,
  target_of-Object,
  target_of-Array,
  prop_of-Shorthand,
  prop_of-Pair,
  piece_of-Piece,
  operand_of-Operand,
  function_of-Function,
  method_of-Method,
  class_of-Class,
  member_of-Member,
  elem_of-Elem,
  params_of-Params,
)
