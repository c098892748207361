-- What each kind of expression, pattern, function and class is to those around it, from the parts in it.
use Rattle.std.proofs.Common.{◌≡◌, subst, ℤ, Bool, List, Option, map}
use Rattle.actx_text.specs.declared.units.Units.{Units}
use Rattle.actx_tree.specs.declared.expr.Expr.{Expr, Expr-F}
use Rattle.actx_tree.specs.declared.expr.Expr.TheVariants as e
use Rattle.actx_tree.specs.declared.expr.Piece.{Piece, out-Piece, roll-out-Piece}
use Rattle.actx_tree.specs.declared.expr.Argument.{Argument, Argument-F}
use Rattle.actx_tree.specs.declared.expr.Argument.TheVariants as argument
use Rattle.actx_tree.specs.declared.expr.Entry.{Entry, Entry-F}
use Rattle.actx_tree.specs.declared.expr.Entry.TheVariants as entry
use Rattle.actx_tree.specs.declared.expr.Key.{Key, Key-F}
use Rattle.actx_tree.specs.declared.expr.Key.TheVariants as key
use Rattle.actx_tree.specs.declared.expr.Suffix.{Suffix, Suffix-F}
use Rattle.actx_tree.specs.declared.expr.Suffix.TheVariants as suffix
use Rattle.actx_tree.specs.declared.expr.Operand.{Operand, out-Operand, roll-out-Operand}
use Rattle.actx_tree.specs.declared.function.Function.{Function, out-Function, roll-out-Function}
use Rattle.actx_tree.specs.declared.function.Method.{Method, out-Method, roll-out-Method}
use Rattle.actx_tree.specs.declared.function.Class.{Class, out-Class, roll-out-Class}
use Rattle.actx_tree.specs.declared.function.Member.{Member, out-Member, roll-out-Member}
use Rattle.actx_tree.specs.declared.pattern.Target.{Target, Target-F}
use Rattle.actx_tree.specs.declared.pattern.Target.TheVariants as target
use Rattle.actx_tree.specs.declared.pattern.Prop.{Prop, Prop-F}
use Rattle.actx_tree.specs.declared.pattern.Prop.TheVariants as prop
use Rattle.actx_tree.specs.declared.pattern.Elem.{Elem, out-Elem, roll-out-Elem}
use Rattle.actx_tree.specs.declared.pattern.Params.{Params, out-Params, roll-out-Params}
use Rattle.actx_tree.specs.declared.operator.BinaryOp.{BinaryOp}
use Rattle.actx_tree.specs.declared.operator.UnaryOp.{UnaryOp}
use Rattle.actx_tree.specs.declared.operator.StepOp.{StepOp}
use Rattle.actx_tree.specs.declared.operator.AssignOp.{AssignOp}
use Rattle.actx_tree.specs.declared.function.Flow.{Flow}
use Rattle.actx_tree.specs.declared.function.Unread.{Unread}
use Rattle.actx_tree.specs.Parts.{piece_of, operand_of, function_of, method_of, class_of, member_of, elem_of, params_of}
use Rattle.actx_scope_rules.specs.Nodes.{mapped}
use Rattle.actx_scope_rules.specs.Nodes.{Part, steps, expr_part, piece_part, argument_part, entry_part, key_part, suffix_part, operand_part, function_part, method_part, class_part, member_part_of, target_part, prop_part, elem_part, params_part, expr_step, piece_step, argument_step, entry_step, key_step, suffix_step, operand_step, function_step, method_step, class_step, member_step, target_step, prop_step, elem_step, params_step}
use Rattle.actx_scope_rules.proofs.FoldEquations.{fold_expr-Name, fold_expr-Number, fold_expr-Text, fold_expr-Bool, fold_expr-Null, fold_expr-This, fold_expr-Template, fold_expr-Brackets, fold_expr-Array, fold_expr-Object, fold_expr-SuperCall, fold_expr-SuperMember, fold_expr-Function, fold_expr-Class, fold_expr-New, fold_expr-Left, fold_expr-StepBefore, fold_expr-StepAfter, fold_expr-Unary, fold_expr-Chain, fold_expr-Conditional, fold_expr-Assign, fold_expr-Yield, fold_expr-Arrow, fold_expr-ArrowBlock, fold_expr-Comma, fold_piece-Piece, fold_argument-One, fold_argument-Spread, fold_entry-Spread, fold_entry-Shorthand, fold_entry-Pair, fold_entry-Method, fold_key-Word, fold_key-Text, fold_key-Number, fold_key-Computed, fold_suffix-Member, fold_suffix-Index, fold_suffix-Call, fold_operand-Operand, fold_function-Function, fold_method-Method, fold_class-Class, fold_member-Member, fold_target-Name, fold_target-Object, fold_target-Array, fold_prop-Shorthand, fold_prop-Pair, fold_elem-Elem, fold_params-Params}

pub expr_part-Name : (name : Units) → expr_part (e.Name name) ≡ expr_step (Expr-F.Expr::Name name)
unfolding expr_part
expr_part-Name name = fold_expr-Name Part steps name

pub expr_part-Number : (value : ℤ) → expr_part (e.Number value) ≡ expr_step (Expr-F.Expr::Number value)
unfolding expr_part
expr_part-Number value = fold_expr-Number Part steps value

pub expr_part-Text : (text : Units) → expr_part (e.Text text) ≡ expr_step (Expr-F.Expr::Text text)
unfolding expr_part
expr_part-Text text = fold_expr-Text Part steps text

pub expr_part-Bool : (value : Bool) → expr_part (e.Bool value) ≡ expr_step (Expr-F.Bool value)
unfolding expr_part
expr_part-Bool value = fold_expr-Bool Part steps value

pub expr_part-Null : expr_part e.Null ≡ expr_step Expr-F.Null
unfolding expr_part
expr_part-Null = fold_expr-Null Part steps

pub expr_part-This : expr_part e.This ≡ expr_step Expr-F.This
unfolding expr_part
expr_part-This = fold_expr-This Part steps

pub expr_part-Template : (text : Units) (pieces : List Piece) → expr_part (e.Template text pieces) ≡ expr_step (Expr-F.Template text (map piece_part pieces))
unfolding expr_part piece_part
expr_part-Template text pieces = fold_expr-Template Part steps text pieces

pub expr_part-Brackets : (x : Expr) → expr_part (e.Brackets x) ≡ expr_step (Expr-F.Brackets (expr_part x))
unfolding expr_part
expr_part-Brackets x = fold_expr-Brackets Part steps x

pub expr_part-Array : (arguments : List Argument) → expr_part (e.Array arguments) ≡ expr_step (Expr-F.Expr::Array (map argument_part arguments))
unfolding expr_part argument_part
expr_part-Array arguments = fold_expr-Array Part steps arguments

pub expr_part-Object : (entries : List Entry) → expr_part (e.Object entries) ≡ expr_step (Expr-F.Expr::Object (map entry_part entries))
unfolding expr_part entry_part
expr_part-Object entries = fold_expr-Object Part steps entries

pub expr_part-SuperCall : (arguments : List Argument) → expr_part (e.SuperCall arguments) ≡ expr_step (Expr-F.SuperCall (map argument_part arguments))
unfolding expr_part argument_part
expr_part-SuperCall arguments = fold_expr-SuperCall Part steps arguments

pub expr_part-SuperMember : (name : Units) → expr_part (e.SuperMember name) ≡ expr_step (Expr-F.SuperMember name)
unfolding expr_part
expr_part-SuperMember name = fold_expr-SuperMember Part steps name

pub expr_part-Function : (f : Function) → expr_part (e.Function f) ≡ expr_step (Expr-F.Function (function_part f))
unfolding expr_part function_part
expr_part-Function f = fold_expr-Function Part steps f

pub expr_part-Class : (c : Class) → expr_part (e.Class c) ≡ expr_step (Expr-F.Class (class_part c))
unfolding expr_part class_part
expr_part-Class c = fold_expr-Class Part steps c

pub expr_part-New : (x : Expr) (suffixes : List Suffix) (arguments : Option (List Argument)) → expr_part (e.New x suffixes arguments) ≡ expr_step (Expr-F.New (expr_part x) (map suffix_part suffixes) (mapped (map argument_part) arguments))
unfolding expr_part suffix_part argument_part
expr_part-New x suffixes arguments = fold_expr-New Part steps x suffixes arguments

pub expr_part-Left : (x : Expr) (suffixes : List Suffix) → expr_part (e.Left x suffixes) ≡ expr_step (Expr-F.Left (expr_part x) (map suffix_part suffixes))
unfolding expr_part suffix_part
expr_part-Left x suffixes = fold_expr-Left Part steps x suffixes

pub expr_part-StepBefore : (op : StepOp) (x : Expr) → expr_part (e.StepBefore op x) ≡ expr_step (Expr-F.StepBefore op (expr_part x))
unfolding expr_part
expr_part-StepBefore op x = fold_expr-StepBefore Part steps op x

pub expr_part-StepAfter : (x : Expr) (op : StepOp) → expr_part (e.StepAfter x op) ≡ expr_step (Expr-F.StepAfter (expr_part x) op)
unfolding expr_part
expr_part-StepAfter x op = fold_expr-StepAfter Part steps x op

pub expr_part-Unary : (op : UnaryOp) (x : Expr) → expr_part (e.Unary op x) ≡ expr_step (Expr-F.Unary op (expr_part x))
unfolding expr_part
expr_part-Unary op x = fold_expr-Unary Part steps op x

pub expr_part-Chain : (x : Expr) (operands : List Operand) → expr_part (e.Chain x operands) ≡ expr_step (Expr-F.Chain (expr_part x) (map operand_part operands))
unfolding expr_part operand_part
expr_part-Chain x operands = fold_expr-Chain Part steps x operands

pub expr_part-Conditional : (test : Expr) (first : Expr) (other : Expr) → expr_part (e.Conditional test first other) ≡ expr_step (Expr-F.Conditional (expr_part test) (expr_part first) (expr_part other))
unfolding expr_part
expr_part-Conditional test first other = fold_expr-Conditional Part steps test first other

pub expr_part-Assign : (place : Expr) (op : AssignOp) (x : Expr) → expr_part (e.Assign place op x) ≡ expr_step (Expr-F.Assign (expr_part place) op (expr_part x))
unfolding expr_part
expr_part-Assign place op x = fold_expr-Assign Part steps place op x

pub expr_part-Yield : (x : Option Expr) → expr_part (e.Yield x) ≡ expr_step (Expr-F.Yield (mapped expr_part x))
unfolding expr_part
expr_part-Yield x = fold_expr-Yield Part steps x

pub expr_part-Arrow : (is_async : Bool) (params : Params) (x : Expr) → expr_part (e.Arrow is_async params x) ≡ expr_step (Expr-F.Arrow is_async (params_part params) (expr_part x))
unfolding expr_part params_part
expr_part-Arrow is_async params x = fold_expr-Arrow Part steps is_async params x

pub expr_part-ArrowBlock : (is_async : Bool) (params : Params) (body : Unread) → expr_part (e.ArrowBlock is_async params body) ≡ expr_step (Expr-F.ArrowBlock is_async (params_part params) body)
unfolding expr_part params_part
expr_part-ArrowBlock is_async params body = fold_expr-ArrowBlock Part steps is_async params body

pub expr_part-Comma : (x : Expr) (xs : List Expr) → expr_part (e.Comma x xs) ≡ expr_step (Expr-F.Comma (expr_part x) (map expr_part xs))
unfolding expr_part
expr_part-Comma x xs = fold_expr-Comma Part steps x xs

pub piece_part-Piece : (value : Expr) (after : Units) → piece_part (piece_of value after) ≡ piece_step (record { value = (expr_part value); after = after })
unfolding piece_part expr_part
piece_part-Piece value after = fold_piece-Piece Part steps value after

pub argument_part-One : (x : Expr) → argument_part (argument.One x) ≡ argument_step (Argument-F.One (expr_part x))
unfolding argument_part expr_part
argument_part-One x = fold_argument-One Part steps x

pub argument_part-Spread : (x : Expr) → argument_part (argument.Spread x) ≡ argument_step (Argument-F.Argument::Spread (expr_part x))
unfolding argument_part expr_part
argument_part-Spread x = fold_argument-Spread Part steps x

pub entry_part-Spread : (x : Expr) → entry_part (entry.Spread x) ≡ entry_step (Entry-F.Entry::Spread (expr_part x))
unfolding entry_part expr_part
entry_part-Spread x = fold_entry-Spread Part steps x

pub entry_part-Shorthand : (name : Units) → entry_part (entry.Shorthand name) ≡ entry_step (Entry-F.Entry::Shorthand name)
unfolding entry_part
entry_part-Shorthand name = fold_entry-Shorthand Part steps name

pub entry_part-Pair : (k : Key) (x : Expr) → entry_part (entry.Pair k x) ≡ entry_step (Entry-F.Entry::Pair (key_part k) (expr_part x))
unfolding entry_part key_part expr_part
entry_part-Pair k x = fold_entry-Pair Part steps k x

pub entry_part-Method : (m : Method) → entry_part (entry.Method m) ≡ entry_step (Entry-F.Method (method_part m))
unfolding entry_part method_part
entry_part-Method m = fold_entry-Method Part steps m

pub key_part-Word : (name : Units) → key_part (key.Word name) ≡ key_step (Key-F.Word name)
unfolding key_part
key_part-Word name = fold_key-Word Part steps name

pub key_part-Text : (text : Units) → key_part (key.Text text) ≡ key_step (Key-F.Key::Text text)
unfolding key_part
key_part-Text text = fold_key-Text Part steps text

pub key_part-Number : (value : ℤ) → key_part (key.Number value) ≡ key_step (Key-F.Key::Number value)
unfolding key_part
key_part-Number value = fold_key-Number Part steps value

pub key_part-Computed : (x : Expr) → key_part (key.Computed x) ≡ key_step (Key-F.Computed (expr_part x))
unfolding key_part expr_part
key_part-Computed x = fold_key-Computed Part steps x

pub suffix_part-Member : (is_optional : Bool) (name : Units) → suffix_part (suffix.Member is_optional name) ≡ suffix_step (Suffix-F.Member is_optional name)
unfolding suffix_part
suffix_part-Member is_optional name = fold_suffix-Member Part steps is_optional name

pub suffix_part-Index : (is_optional : Bool) (x : Expr) → suffix_part (suffix.Index is_optional x) ≡ suffix_step (Suffix-F.Index is_optional (expr_part x))
unfolding suffix_part expr_part
suffix_part-Index is_optional x = fold_suffix-Index Part steps is_optional x

pub suffix_part-Call : (is_optional : Bool) (arguments : List Argument) → suffix_part (suffix.Call is_optional arguments) ≡ suffix_step (Suffix-F.Call is_optional (map argument_part arguments))
unfolding suffix_part argument_part
suffix_part-Call is_optional arguments = fold_suffix-Call Part steps is_optional arguments

pub operand_part-Operand : (op : BinaryOp) (right : Expr) → operand_part (operand_of op right) ≡ operand_step (record { op = op; right = (expr_part right) })
unfolding operand_part expr_part
operand_part-Operand op right = fold_operand-Operand Part steps op right

pub function_part-Function : (flow : Flow) (name : Option Units) (params : Params) (body : Unread) → function_part (function_of flow name params body) ≡ function_step (record { flow = flow; name = name; params = (params_part params); body = body })
unfolding function_part params_part
function_part-Function flow name params body = fold_function-Function Part steps flow name params body

pub method_part-Method : (flow : Flow) (key : Key) (params : Params) (body : Unread) → method_part (method_of flow key params body) ≡ method_step (record { flow = flow; key = (key_part key); params = (params_part params); body = body })
unfolding method_part key_part params_part
method_part-Method flow key params body = fold_method-Method Part steps flow key params body

pub class_part-Class : (name : Option Units) (parent : Option Expr) (members : List Member) → class_part (class_of name parent members) ≡ class_step (record { name = name; parent = (mapped expr_part parent); members = (map member_part_of members) })
unfolding class_part expr_part member_part_of
class_part-Class name parent members = fold_class-Class Part steps name parent members

pub member_part_of-Member : (is_static : Bool) (method : Method) → member_part_of (member_of is_static method) ≡ member_step (record { is_static = is_static; method = (method_part method) })
unfolding member_part_of method_part
member_part_of-Member is_static method = fold_member-Member Part steps is_static method

pub target_part-Name : (name : Units) → target_part (target.Name name) ≡ target_step (Target-F.Target::Name name)
unfolding target_part
target_part-Name name = fold_target-Name Part steps name

pub target_part-Object : (props : List Prop) (rest : Option Units) → target_part (target.Object props rest) ≡ target_step (Target-F.Target::Object (map prop_part props) rest)
unfolding target_part prop_part
target_part-Object props rest = fold_target-Object Part steps props rest

pub target_part-Array : (elems : List Elem) (rest : Option Units) → target_part (target.Array elems rest) ≡ target_step (Target-F.Target::Array (map elem_part elems) rest)
unfolding target_part elem_part
target_part-Array elems rest = fold_target-Array Part steps elems rest

pub prop_part-Shorthand : (name : Units) (default : Option Expr) → prop_part (prop.Shorthand name default) ≡ prop_step (Prop-F.Prop::Shorthand name (mapped expr_part default))
unfolding prop_part expr_part
prop_part-Shorthand name default = fold_prop-Shorthand Part steps name default

pub prop_part-Pair : (k : Key) (elem : Elem) → prop_part (prop.Pair k elem) ≡ prop_step (Prop-F.Prop::Pair (key_part k) (elem_part elem))
unfolding prop_part key_part elem_part
prop_part-Pair k elem = fold_prop-Pair Part steps k elem

pub elem_part-Elem : (target : Target) (default : Option Expr) → elem_part (elem_of target default) ≡ elem_step (record { target = (target_part target); default = (mapped expr_part default) })
unfolding elem_part target_part expr_part
elem_part-Elem target default = fold_elem-Elem Part steps target default

pub params_part-Params : (elems : List Elem) (rest : Option Target) → params_part (params_of elems rest) ≡ params_step (record { elems = (map elem_part elems); rest = (mapped target_part rest) })
unfolding params_part elem_part target_part
params_part-Params elems rest = fold_params-Params Part steps elems rest

-- ---- structs, by their fields

pub piece_part-fields : (whole : Piece) → piece_part whole ≡ piece_step (record { value = (expr_part (out-Piece whole).value); after = (out-Piece whole).after })
piece_part-fields whole = let e = piece_part-Piece (out-Piece whole).value (out-Piece whole).after in subst (λ (z : Piece). piece_part z ≡ piece_step (record { value = (expr_part (out-Piece whole).value); after = (out-Piece whole).after })) (roll-out-Piece whole) e

pub operand_part-fields : (whole : Operand) → operand_part whole ≡ operand_step (record { op = (out-Operand whole).op; right = (expr_part (out-Operand whole).right) })
operand_part-fields whole = let e = operand_part-Operand (out-Operand whole).op (out-Operand whole).right in subst (λ (z : Operand). operand_part z ≡ operand_step (record { op = (out-Operand whole).op; right = (expr_part (out-Operand whole).right) })) (roll-out-Operand whole) e

pub function_part-fields : (whole : Function) → function_part whole ≡ function_step (record { flow = (out-Function whole).flow; name = (out-Function whole).name; params = (params_part (out-Function whole).params); body = (out-Function whole).body })
function_part-fields whole = let e = function_part-Function (out-Function whole).flow (out-Function whole).name (out-Function whole).params (out-Function whole).body in subst (λ (z : Function). function_part z ≡ function_step (record { flow = (out-Function whole).flow; name = (out-Function whole).name; params = (params_part (out-Function whole).params); body = (out-Function whole).body })) (roll-out-Function whole) e

pub method_part-fields : (whole : Method) → method_part whole ≡ method_step (record { flow = (out-Method whole).flow; key = (key_part (out-Method whole).key); params = (params_part (out-Method whole).params); body = (out-Method whole).body })
method_part-fields whole = let e = method_part-Method (out-Method whole).flow (out-Method whole).key (out-Method whole).params (out-Method whole).body in subst (λ (z : Method). method_part z ≡ method_step (record { flow = (out-Method whole).flow; key = (key_part (out-Method whole).key); params = (params_part (out-Method whole).params); body = (out-Method whole).body })) (roll-out-Method whole) e

pub class_part-fields : (whole : Class) → class_part whole ≡ class_step (record { name = (out-Class whole).name; parent = (mapped expr_part (out-Class whole).parent); members = (map member_part_of (out-Class whole).members) })
class_part-fields whole = let e = class_part-Class (out-Class whole).name (out-Class whole).parent (out-Class whole).members in subst (λ (z : Class). class_part z ≡ class_step (record { name = (out-Class whole).name; parent = (mapped expr_part (out-Class whole).parent); members = (map member_part_of (out-Class whole).members) })) (roll-out-Class whole) e

pub member_part_of-fields : (whole : Member) → member_part_of whole ≡ member_step (record { is_static = (out-Member whole).is_static; method = (method_part (out-Member whole).method) })
member_part_of-fields whole = let e = member_part_of-Member (out-Member whole).is_static (out-Member whole).method in subst (λ (z : Member). member_part_of z ≡ member_step (record { is_static = (out-Member whole).is_static; method = (method_part (out-Member whole).method) })) (roll-out-Member whole) e

pub elem_part-fields : (whole : Elem) → elem_part whole ≡ elem_step (record { target = (target_part (out-Elem whole).target); default = (mapped expr_part (out-Elem whole).default) })
elem_part-fields whole = let e = elem_part-Elem (out-Elem whole).target (out-Elem whole).default in subst (λ (z : Elem). elem_part z ≡ elem_step (record { target = (target_part (out-Elem whole).target); default = (mapped expr_part (out-Elem whole).default) })) (roll-out-Elem whole) e

pub params_part-fields : (whole : Params) → params_part whole ≡ params_step (record { elems = (map elem_part (out-Params whole).elems); rest = (mapped target_part (out-Params whole).rest) })
params_part-fields whole = let e = params_part-Params (out-Params whole).elems (out-Params whole).rest in subst (λ (z : Params). params_part z ≡ params_step (record { elems = (map elem_part (out-Params whole).elems); rest = (mapped target_part (out-Params whole).rest) })) (roll-out-Params whole) e

-- all of these
pub ruleset part_equations = (
  expr_part-Name,
  expr_part-Number,
  expr_part-Text,
  expr_part-Bool,
  expr_part-Null,
  expr_part-This,
  expr_part-Template,
  expr_part-Brackets,
  expr_part-Array,
  expr_part-Object,
  expr_part-SuperCall,
  expr_part-SuperMember,
  expr_part-Function,
  expr_part-Class,
  expr_part-New,
  expr_part-Left,
  expr_part-StepBefore,
  expr_part-StepAfter,
  expr_part-Unary,
  expr_part-Chain,
  expr_part-Conditional,
  expr_part-Assign,
  expr_part-Yield,
  expr_part-Arrow,
  expr_part-ArrowBlock,
  expr_part-Comma,
  piece_part-Piece,
  argument_part-One,
  argument_part-Spread,
  entry_part-Spread,
  entry_part-Shorthand,
  entry_part-Pair,
  entry_part-Method,
  key_part-Word,
  key_part-Text,
  key_part-Number,
  key_part-Computed,
  suffix_part-Member,
  suffix_part-Index,
  suffix_part-Call,
  operand_part-Operand,
  function_part-Function,
  method_part-Method,
  class_part-Class,
  member_part_of-Member,
  target_part-Name,
  target_part-Object,
  target_part-Array,
  prop_part-Shorthand,
  prop_part-Pair,
  elem_part-Elem,
  params_part-Params,
  piece_part-fields,
  operand_part-fields,
  function_part-fields,
  method_part-fields,
  class_part-fields,
  member_part_of-fields,
  elem_part-fields,
  params_part-fields,
)
