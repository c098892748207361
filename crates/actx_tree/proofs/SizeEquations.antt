-- What the size of each kind of expression, pattern, function and class, and of their parts is.
use Rattle.std.proofs.Common.{◌≡◌, subst, ℤ, Bool, suc, ◌+◌, List, Option, Some, None, map}
use Rattle.actx_text.specs.declared.units.Units.{Units}
use Rattle.actx_tree.specs.declared.expr.Expr.{Expr, the_lemmas}
use Rattle.actx_tree.specs.declared.expr.Expr.TheVariants as e
use Rattle.actx_tree.specs.declared.expr.Piece.{Piece, out-Piece, roll-out-Piece}
use Rattle.actx_tree.specs.declared.expr.Argument.{Argument}
use Rattle.actx_tree.specs.declared.expr.Argument.TheVariants as argument
use Rattle.actx_tree.specs.declared.expr.Entry.{Entry}
use Rattle.actx_tree.specs.declared.expr.Entry.TheVariants as entry
use Rattle.actx_tree.specs.declared.expr.Key.{Key}
use Rattle.actx_tree.specs.declared.expr.Key.TheVariants as key
use Rattle.actx_tree.specs.declared.expr.Suffix.{Suffix}
use Rattle.actx_tree.specs.declared.expr.Suffix.TheVariants as suffix
use Rattle.actx_tree.specs.declared.expr.Operand.{Operand, out-Operand, roll-out-Operand}
use Rattle.actx_tree.specs.declared.function.Function.{Function, out-Function, roll-out-Function}
use Rattle.actx_tree.specs.declared.function.Method.{Method, out-Method, roll-out-Method}
use Rattle.actx_tree.specs.declared.function.Class.{Class, out-Class, roll-out-Class}
use Rattle.actx_tree.specs.declared.function.Member.{Member, out-Member, roll-out-Member}
use Rattle.actx_tree.specs.declared.pattern.Target.{Target}
use Rattle.actx_tree.specs.declared.pattern.Target.TheVariants as target
use Rattle.actx_tree.specs.declared.pattern.Prop.{Prop}
use Rattle.actx_tree.specs.declared.pattern.Prop.TheVariants as prop
use Rattle.actx_tree.specs.declared.pattern.Elem.{Elem, out-Elem, roll-out-Elem}
use Rattle.actx_tree.specs.declared.pattern.Params.{Params, out-Params, roll-out-Params}
use Rattle.actx_tree.specs.declared.operator.BinaryOp.{BinaryOp}
use Rattle.actx_tree.specs.declared.operator.UnaryOp.{UnaryOp}
use Rattle.actx_tree.specs.declared.operator.StepOp.{StepOp}
use Rattle.actx_tree.specs.declared.operator.AssignOp.{AssignOp}
use Rattle.actx_tree.specs.declared.function.Flow.{Flow}
use Rattle.actx_tree.specs.declared.function.Unread.{Unread}
use Rattle.actx_tree.specs.Parts.{piece_of, operand_of, function_of, method_of, class_of, member_of, elem_of, params_of}
use Rattle.actx_tree.specs.Levels.{or_zero}
use Rattle.actx_tree.specs.Sizes.{expr_size, piece_size, argument_size, entry_size, key_size, suffix_size, operand_size, function_size, method_size, class_size, member_size, target_size, prop_size, elem_size, params_size, arguments_size, total, rest_size}

-- ---- expressions

pub expr_size-Name : (name : Units) → expr_size (e.Name name) ≡ 1
unfolding expr_size
expr_size-Name name = simp the_lemmas

pub expr_size-Number : (value : ℤ) → expr_size (e.Number value) ≡ 1
unfolding expr_size
expr_size-Number value = simp the_lemmas

pub expr_size-Text : (text : Units) → expr_size (e.Text text) ≡ 1
unfolding expr_size
expr_size-Text text = simp the_lemmas

pub expr_size-Bool : (value : Bool) → expr_size (e.Bool value) ≡ 1
unfolding expr_size
expr_size-Bool value = simp the_lemmas

pub expr_size-Null : expr_size e.Null ≡ 1
unfolding expr_size
expr_size-Null = simp the_lemmas

pub expr_size-This : expr_size e.This ≡ 1
unfolding expr_size
expr_size-This = simp the_lemmas

pub expr_size-Template : (text : Units) (pieces : List Piece) → expr_size (e.Template text pieces) ≡ suc (suc (total (map piece_size pieces)))
unfolding expr_size piece_size
expr_size-Template text pieces = simp the_lemmas

pub expr_size-Brackets : (x : Expr) → expr_size (e.Brackets x) ≡ suc (expr_size x)
unfolding expr_size
expr_size-Brackets x = simp the_lemmas

pub expr_size-Array : (arguments : List Argument) → expr_size (e.Array arguments) ≡ suc (total (map argument_size arguments))
unfolding expr_size argument_size
expr_size-Array arguments = simp the_lemmas

pub expr_size-Object : (entries : List Entry) → expr_size (e.Object entries) ≡ suc (total (map entry_size entries))
unfolding expr_size entry_size
expr_size-Object entries = simp the_lemmas

pub expr_size-SuperCall : (arguments : List Argument) → expr_size (e.SuperCall arguments) ≡ suc (total (map argument_size arguments))
unfolding expr_size argument_size
expr_size-SuperCall arguments = simp the_lemmas

pub expr_size-SuperMember : (name : Units) → expr_size (e.SuperMember name) ≡ 1
unfolding expr_size
expr_size-SuperMember name = simp the_lemmas

pub expr_size-Function : (f : Function) → expr_size (e.Function f) ≡ function_size f
unfolding expr_size function_size
expr_size-Function f = simp the_lemmas

pub expr_size-Class : (c : Class) → expr_size (e.Class c) ≡ class_size c
unfolding expr_size class_size
expr_size-Class c = simp the_lemmas

pub expr_size-New : (x : Expr) (suffixes : List Suffix) (arguments : Option (List Argument)) → expr_size (e.New x suffixes arguments) ≡ suc (expr_size x + (total (map suffix_size suffixes) + or_zero arguments_size arguments))
unfolding expr_size suffix_size argument_size
expr_size-New x suffixes None = simp the_lemmas
expr_size-New x suffixes (Some arguments) = simp the_lemmas

pub expr_size-Left : (x : Expr) (suffixes : List Suffix) → expr_size (e.Left x suffixes) ≡ suc (expr_size x + total (map suffix_size suffixes))
unfolding expr_size suffix_size
expr_size-Left x suffixes = simp the_lemmas

pub expr_size-StepBefore : (op : StepOp) (x : Expr) → expr_size (e.StepBefore op x) ≡ suc (expr_size x)
unfolding expr_size
expr_size-StepBefore op x = simp the_lemmas

pub expr_size-StepAfter : (x : Expr) (op : StepOp) → expr_size (e.StepAfter x op) ≡ suc (expr_size x)
unfolding expr_size
expr_size-StepAfter x op = simp the_lemmas

pub expr_size-Unary : (op : UnaryOp) (x : Expr) → expr_size (e.Unary op x) ≡ suc (expr_size x)
unfolding expr_size
expr_size-Unary op x = simp the_lemmas

pub expr_size-Chain : (x : Expr) (operands : List Operand) → expr_size (e.Chain x operands) ≡ suc (expr_size x + total (map operand_size operands))
unfolding expr_size operand_size
expr_size-Chain x operands = simp the_lemmas

pub expr_size-Conditional : (test : Expr) (then : Expr) (other : Expr) → expr_size (e.Conditional test then other) ≡ suc (expr_size test + (expr_size then + expr_size other))
unfolding expr_size
expr_size-Conditional test then other = simp the_lemmas

pub expr_size-Assign : (place : Expr) (op : AssignOp) (x : Expr) → expr_size (e.Assign place op x) ≡ suc (expr_size place + expr_size x)
unfolding expr_size
expr_size-Assign place op x = simp the_lemmas

pub expr_size-Yield : (x : Option Expr) → expr_size (e.Yield x) ≡ suc (or_zero expr_size x)
unfolding expr_size
expr_size-Yield None = simp the_lemmas
expr_size-Yield (Some x) = simp the_lemmas

pub expr_size-Arrow : (is_async : Bool) (params : Params) (x : Expr) → expr_size (e.Arrow is_async params x) ≡ suc (params_size params + expr_size x)
unfolding expr_size params_size
expr_size-Arrow is_async params x = simp the_lemmas

pub expr_size-ArrowBlock : (is_async : Bool) (params : Params) (body : Unread) → expr_size (e.ArrowBlock is_async params body) ≡ suc (params_size params)
unfolding expr_size params_size
expr_size-ArrowBlock is_async params body = simp the_lemmas

pub expr_size-Comma : (x : Expr) (xs : List Expr) → expr_size (e.Comma x xs) ≡ suc (expr_size x + total (map expr_size xs))
unfolding expr_size
expr_size-Comma x xs = simp the_lemmas

pub piece_size-Piece : (value : Expr) (after : Units) → piece_size (piece_of value after) ≡ expr_size value
unfolding piece_size expr_size
piece_size-Piece value after = simp the_lemmas

pub argument_size-One : (x : Expr) → argument_size (argument.One x) ≡ expr_size x
unfolding argument_size expr_size
argument_size-One x = simp the_lemmas

pub argument_size-Spread : (x : Expr) → argument_size (argument.Spread x) ≡ expr_size x
unfolding argument_size expr_size
argument_size-Spread x = simp the_lemmas

pub entry_size-Spread : (x : Expr) → entry_size (entry.Spread x) ≡ expr_size x
unfolding entry_size expr_size
entry_size-Spread x = simp the_lemmas

pub entry_size-Shorthand : (name : Units) → entry_size (entry.Shorthand name) ≡ 1
unfolding entry_size
entry_size-Shorthand name = simp the_lemmas

pub entry_size-Pair : (k : Key) (x : Expr) → entry_size (entry.Pair k x) ≡ key_size k + expr_size x
unfolding entry_size key_size expr_size
entry_size-Pair k x = simp the_lemmas

pub entry_size-Method : (m : Method) → entry_size (entry.Method m) ≡ method_size m
unfolding entry_size method_size
entry_size-Method m = simp the_lemmas

pub key_size-Word : (name : Units) → key_size (key.Word name) ≡ 1
unfolding key_size
key_size-Word name = simp the_lemmas

pub key_size-Text : (text : Units) → key_size (key.Text text) ≡ 1
unfolding key_size
key_size-Text text = simp the_lemmas

pub key_size-Number : (value : ℤ) → key_size (key.Number value) ≡ 1
unfolding key_size
key_size-Number value = simp the_lemmas

pub key_size-Computed : (x : Expr) → key_size (key.Computed x) ≡ suc (expr_size x)
unfolding key_size expr_size
key_size-Computed x = simp the_lemmas

pub suffix_size-Member : (is_optional : Bool) (name : Units) → suffix_size (suffix.Member is_optional name) ≡ 0
unfolding suffix_size
suffix_size-Member is_optional name = simp the_lemmas

pub suffix_size-Index : (is_optional : Bool) (x : Expr) → suffix_size (suffix.Index is_optional x) ≡ expr_size x
unfolding suffix_size expr_size
suffix_size-Index is_optional x = simp the_lemmas

pub suffix_size-Call : (is_optional : Bool) (arguments : List Argument) → suffix_size (suffix.Call is_optional arguments) ≡ total (map argument_size arguments)
unfolding suffix_size argument_size
suffix_size-Call is_optional arguments = simp the_lemmas

pub operand_size-Operand : (op : BinaryOp) (right : Expr) → operand_size (operand_of op right) ≡ expr_size right
unfolding operand_size expr_size
operand_size-Operand op right = simp the_lemmas

-- ---- functions and classes

pub function_size-Function : (flow : Flow) (name : Option Units) (params : Params) (body : Unread) → function_size (function_of flow name params body) ≡ suc (params_size params)
unfolding function_size params_size
function_size-Function flow name params body = simp the_lemmas

pub method_size-Method : (flow : Flow) (k : Key) (params : Params) (body : Unread) → method_size (method_of flow k params body) ≡ suc (key_size k + params_size params)
unfolding method_size key_size params_size
method_size-Method flow k params body = simp the_lemmas

pub class_size-Class : (name : Option Units) (parent : Option Expr) (members : List Member) → class_size (class_of name parent members) ≡ suc (or_zero expr_size parent + total (map member_size members))
unfolding class_size expr_size member_size
class_size-Class name None members = simp the_lemmas
class_size-Class name (Some parent) members = simp the_lemmas

pub member_size-Member : (is_static : Bool) (m : Method) → member_size (member_of is_static m) ≡ method_size m
unfolding member_size method_size
member_size-Member is_static m = simp the_lemmas

-- ---- patterns

pub target_size-Name : (name : Units) → target_size (target.Name name) ≡ 0
unfolding target_size
target_size-Name name = simp the_lemmas

pub target_size-Object : (props : List Prop) (rest : Option Units) → target_size (target.Object props rest) ≡ suc (total (map prop_size props) + rest_size rest)
unfolding target_size prop_size
target_size-Object props rest = simp the_lemmas

pub target_size-Array : (elems : List Elem) (rest : Option Units) → target_size (target.Array elems rest) ≡ suc (total (map elem_size elems) + rest_size rest)
unfolding target_size elem_size
target_size-Array elems rest = simp the_lemmas

pub prop_size-Shorthand : (name : Units) (default : Option Expr) → prop_size (prop.Shorthand name default) ≡ or_zero expr_size default
unfolding prop_size expr_size
prop_size-Shorthand name None = simp the_lemmas
prop_size-Shorthand name (Some default) = simp the_lemmas

pub prop_size-Pair : (k : Key) (elem : Elem) → prop_size (prop.Pair k elem) ≡ key_size k + elem_size elem
unfolding prop_size key_size elem_size
prop_size-Pair k elem = simp the_lemmas

pub elem_size-Elem : (target : Target) (default : Option Expr) → elem_size (elem_of target default) ≡ target_size target + or_zero expr_size default
unfolding elem_size target_size expr_size
elem_size-Elem target None = simp the_lemmas
elem_size-Elem target (Some default) = simp the_lemmas

pub params_size-Params : (elems : List Elem) (rest : Option Target) → params_size (params_of elems rest) ≡ total (map elem_size elems) + or_zero (λ (t : Target). suc (target_size t)) rest
unfolding params_size elem_size target_size
params_size-Params elems None = simp the_lemmas
params_size-Params elems (Some rest) = simp the_lemmas

-- ---- structs, by their fields

pub piece_size-fields : (whole : Piece) → piece_size whole ≡ expr_size (out-Piece whole).value
piece_size-fields whole = let e = piece_size-Piece (out-Piece whole).value (out-Piece whole).after in subst (λ (z : Piece). piece_size z ≡ expr_size (out-Piece whole).value) (roll-out-Piece whole) e

pub operand_size-fields : (whole : Operand) → operand_size whole ≡ expr_size (out-Operand whole).right
operand_size-fields whole = let e = operand_size-Operand (out-Operand whole).op (out-Operand whole).right in subst (λ (z : Operand). operand_size z ≡ expr_size (out-Operand whole).right) (roll-out-Operand whole) e

pub function_size-fields : (whole : Function) → function_size whole ≡ suc (params_size (out-Function whole).params)
function_size-fields whole = let e = function_size-Function (out-Function whole).flow (out-Function whole).name (out-Function whole).params (out-Function whole).body in subst (λ (z : Function). function_size z ≡ suc (params_size (out-Function whole).params)) (roll-out-Function whole) e

pub method_size-fields : (whole : Method) → method_size whole ≡ suc (key_size (out-Method whole).key + params_size (out-Method whole).params)
method_size-fields whole = let e = method_size-Method (out-Method whole).flow (out-Method whole).key (out-Method whole).params (out-Method whole).body in subst (λ (z : Method). method_size z ≡ suc (key_size (out-Method whole).key + params_size (out-Method whole).params)) (roll-out-Method whole) e

pub class_size-fields : (whole : Class) → class_size whole ≡ suc (or_zero expr_size (out-Class whole).parent + total (map member_size (out-Class whole).members))
class_size-fields whole = let e = class_size-Class (out-Class whole).name (out-Class whole).parent (out-Class whole).members in subst (λ (z : Class). class_size z ≡ suc (or_zero expr_size (out-Class whole).parent + total (map member_size (out-Class whole).members))) (roll-out-Class whole) e

pub member_size-fields : (whole : Member) → member_size whole ≡ method_size (out-Member whole).method
member_size-fields whole = let e = member_size-Member (out-Member whole).is_static (out-Member whole).method in subst (λ (z : Member). member_size z ≡ method_size (out-Member whole).method) (roll-out-Member whole) e

pub elem_size-fields : (whole : Elem) → elem_size whole ≡ target_size (out-Elem whole).target + or_zero expr_size (out-Elem whole).default
elem_size-fields whole = let e = elem_size-Elem (out-Elem whole).target (out-Elem whole).default in subst (λ (z : Elem). elem_size z ≡ target_size (out-Elem whole).target + or_zero expr_size (out-Elem whole).default) (roll-out-Elem whole) e

pub params_size-fields : (whole : Params) → params_size whole ≡ total (map elem_size (out-Params whole).elems) + or_zero (λ (t : Target). suc (target_size t)) (out-Params whole).rest
params_size-fields whole = let e = params_size-Params (out-Params whole).elems (out-Params whole).rest in subst (λ (z : Params). params_size z ≡ total (map elem_size (out-Params whole).elems) + or_zero (λ (t : Target). suc (target_size t)) (out-Params whole).rest) (roll-out-Params whole) e

-- all of these
pub ruleset size_equations = (
  expr_size-Name,
  expr_size-Number,
  expr_size-Text,
  expr_size-Bool,
  expr_size-Null,
  expr_size-This,
  expr_size-Template,
  expr_size-Brackets,
  expr_size-Array,
  expr_size-Object,
  expr_size-SuperCall,
  expr_size-SuperMember,
  expr_size-Function,
  expr_size-Class,
  expr_size-New,
  expr_size-Left,
  expr_size-StepBefore,
  expr_size-StepAfter,
  expr_size-Unary,
  expr_size-Chain,
  expr_size-Conditional,
  expr_size-Assign,
  expr_size-Yield,
  expr_size-Arrow,
  expr_size-ArrowBlock,
  expr_size-Comma,
  piece_size-Piece,
  argument_size-One,
  argument_size-Spread,
  entry_size-Spread,
  entry_size-Shorthand,
  entry_size-Pair,
  entry_size-Method,
  key_size-Word,
  key_size-Text,
  key_size-Number,
  key_size-Computed,
  suffix_size-Member,
  suffix_size-Index,
  suffix_size-Call,
  operand_size-Operand,
  function_size-Function,
  method_size-Method,
  class_size-Class,
  member_size-Member,
  target_size-Name,
  target_size-Object,
  target_size-Array,
  prop_size-Shorthand,
  prop_size-Pair,
  elem_size-Elem,
  params_size-Params,
  piece_size-fields,
  operand_size-fields,
  function_size-fields,
  method_size-fields,
  class_size-fields,
  member_size-fields,
  elem_size-fields,
  params_size-fields,
)
