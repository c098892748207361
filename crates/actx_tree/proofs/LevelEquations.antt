-- What the levels of each kind of expression, pattern, function and class, and of their parts are.
use Rattle.std.proofs.Common.{◌≡◌, subst, ℤ, Bool, suc, max, List, Option, Some, None, map}
use Rattle.actx_text.specs.declared.units.Units.{Units}
use Rattle.actx_tree.specs.declared.expr.Expr.{Expr, the_lemmas}
use Rattle.actx_tree.specs.declared.expr.Expr.TheVariants as e
use Rattle.actx_tree.specs.declared.expr.Piece.{Piece, out-Piece, roll-out-Piece}
use Rattle.actx_tree.specs.declared.expr.Argument.{Argument}
use Rattle.actx_tree.specs.declared.expr.Argument.TheVariants as argument
use Rattle.actx_tree.specs.declared.expr.Entry.{Entry}
use Rattle.actx_tree.specs.declared.expr.Entry.TheVariants as entry
use Rattle.actx_tree.specs.declared.expr.Key.{Key}
use Rattle.actx_tree.specs.declared.expr.Key.TheVariants as key
use Rattle.actx_tree.specs.declared.expr.Suffix.{Suffix}
use Rattle.actx_tree.specs.declared.expr.Suffix.TheVariants as suffix
use Rattle.actx_tree.specs.declared.expr.Operand.{Operand, out-Operand, roll-out-Operand}
use Rattle.actx_tree.specs.declared.function.Function.{Function, out-Function, roll-out-Function}
use Rattle.actx_tree.specs.declared.function.Method.{Method, out-Method, roll-out-Method}
use Rattle.actx_tree.specs.declared.function.Class.{Class, out-Class, roll-out-Class}
use Rattle.actx_tree.specs.declared.function.Member.{Member, out-Member, roll-out-Member}
use Rattle.actx_tree.specs.declared.pattern.Target.{Target}
use Rattle.actx_tree.specs.declared.pattern.Target.TheVariants as target
use Rattle.actx_tree.specs.declared.pattern.Prop.{Prop}
use Rattle.actx_tree.specs.declared.pattern.Prop.TheVariants as prop
use Rattle.actx_tree.specs.declared.pattern.Elem.{Elem, out-Elem, roll-out-Elem}
use Rattle.actx_tree.specs.declared.pattern.Params.{Params, out-Params, roll-out-Params}
use Rattle.actx_tree.specs.declared.operator.BinaryOp.{BinaryOp}
use Rattle.actx_tree.specs.declared.operator.UnaryOp.{UnaryOp}
use Rattle.actx_tree.specs.declared.operator.StepOp.{StepOp}
use Rattle.actx_tree.specs.declared.operator.AssignOp.{AssignOp}
use Rattle.actx_tree.specs.declared.function.Flow.{Flow}
use Rattle.actx_tree.specs.declared.function.Unread.{Unread}
use Rattle.actx_tree.specs.Parts.{piece_of, operand_of, function_of, method_of, class_of, member_of, elem_of, params_of}
use Rattle.actx_tree.specs.Levels.{expr_levels, piece_levels, argument_levels, entry_levels, key_levels, suffix_levels, operand_levels, function_levels, method_levels, class_levels, member_levels, target_levels, prop_levels, elem_levels, params_levels, arguments_levels, highest, or_zero}

-- ---- expressions

pub expr_levels-Name : (name : Units) → expr_levels (e.Name name) ≡ 1
unfolding expr_levels
expr_levels-Name name = simp the_lemmas

pub expr_levels-Number : (value : ℤ) → expr_levels (e.Number value) ≡ 1
unfolding expr_levels
expr_levels-Number value = simp the_lemmas

pub expr_levels-Text : (text : Units) → expr_levels (e.Text text) ≡ 1
unfolding expr_levels
expr_levels-Text text = simp the_lemmas

pub expr_levels-Bool : (value : Bool) → expr_levels (e.Bool value) ≡ 1
unfolding expr_levels
expr_levels-Bool value = simp the_lemmas

pub expr_levels-Null : expr_levels e.Null ≡ 1
unfolding expr_levels
expr_levels-Null = simp the_lemmas

pub expr_levels-This : expr_levels e.This ≡ 1
unfolding expr_levels
expr_levels-This = simp the_lemmas

pub expr_levels-Template : (text : Units) (pieces : List Piece) → expr_levels (e.Template text pieces) ≡ suc (highest (map piece_levels pieces))
unfolding expr_levels piece_levels
expr_levels-Template text pieces = simp the_lemmas

pub expr_levels-Brackets : (x : Expr) → expr_levels (e.Brackets x) ≡ suc (expr_levels x)
unfolding expr_levels
expr_levels-Brackets x = simp the_lemmas

pub expr_levels-Array : (arguments : List Argument) → expr_levels (e.Array arguments) ≡ suc (highest (map argument_levels arguments))
unfolding expr_levels argument_levels
expr_levels-Array arguments = simp the_lemmas

pub expr_levels-Object : (entries : List Entry) → expr_levels (e.Object entries) ≡ suc (highest (map entry_levels entries))
unfolding expr_levels entry_levels
expr_levels-Object entries = simp the_lemmas

pub expr_levels-SuperCall : (arguments : List Argument) → expr_levels (e.SuperCall arguments) ≡ suc (highest (map argument_levels arguments))
unfolding expr_levels argument_levels
expr_levels-SuperCall arguments = simp the_lemmas

pub expr_levels-SuperMember : (name : Units) → expr_levels (e.SuperMember name) ≡ 1
unfolding expr_levels
expr_levels-SuperMember name = simp the_lemmas

pub expr_levels-Function : (f : Function) → expr_levels (e.Function f) ≡ function_levels f
unfolding expr_levels function_levels
expr_levels-Function f = simp the_lemmas

pub expr_levels-Class : (c : Class) → expr_levels (e.Class c) ≡ class_levels c
unfolding expr_levels class_levels
expr_levels-Class c = simp the_lemmas

pub expr_levels-New : (x : Expr) (suffixes : List Suffix) (arguments : Option (List Argument)) → expr_levels (e.New x suffixes arguments) ≡ suc (max (expr_levels x) (max (highest (map suffix_levels suffixes)) (or_zero arguments_levels arguments)))
unfolding expr_levels suffix_levels argument_levels
expr_levels-New x suffixes None = simp the_lemmas
expr_levels-New x suffixes (Some arguments) = simp the_lemmas

pub expr_levels-Left : (x : Expr) (suffixes : List Suffix) → expr_levels (e.Left x suffixes) ≡ suc (max (expr_levels x) (highest (map suffix_levels suffixes)))
unfolding expr_levels suffix_levels
expr_levels-Left x suffixes = simp the_lemmas

pub expr_levels-StepBefore : (op : StepOp) (x : Expr) → expr_levels (e.StepBefore op x) ≡ suc (expr_levels x)
unfolding expr_levels
expr_levels-StepBefore op x = simp the_lemmas

pub expr_levels-StepAfter : (x : Expr) (op : StepOp) → expr_levels (e.StepAfter x op) ≡ suc (expr_levels x)
unfolding expr_levels
expr_levels-StepAfter x op = simp the_lemmas

pub expr_levels-Unary : (op : UnaryOp) (x : Expr) → expr_levels (e.Unary op x) ≡ suc (expr_levels x)
unfolding expr_levels
expr_levels-Unary op x = simp the_lemmas

pub expr_levels-Chain : (x : Expr) (operands : List Operand) → expr_levels (e.Chain x operands) ≡ suc (max (expr_levels x) (highest (map operand_levels operands)))
unfolding expr_levels operand_levels
expr_levels-Chain x operands = simp the_lemmas

pub expr_levels-Conditional : (test : Expr) (then : Expr) (other : Expr) → expr_levels (e.Conditional test then other) ≡ suc (max (expr_levels test) (max (expr_levels then) (expr_levels other)))
unfolding expr_levels
expr_levels-Conditional test then other = simp the_lemmas

pub expr_levels-Assign : (place : Expr) (op : AssignOp) (x : Expr) → expr_levels (e.Assign place op x) ≡ suc (max (expr_levels place) (expr_levels x))
unfolding expr_levels
expr_levels-Assign place op x = simp the_lemmas

pub expr_levels-Yield : (x : Option Expr) → expr_levels (e.Yield x) ≡ suc (or_zero expr_levels x)
unfolding expr_levels
expr_levels-Yield None = simp the_lemmas
expr_levels-Yield (Some x) = simp the_lemmas

pub expr_levels-Arrow : (is_async : Bool) (params : Params) (x : Expr) → expr_levels (e.Arrow is_async params x) ≡ suc (max (params_levels params) (expr_levels x))
unfolding expr_levels params_levels
expr_levels-Arrow is_async params x = simp the_lemmas

pub expr_levels-ArrowBlock : (is_async : Bool) (params : Params) (body : Unread) → expr_levels (e.ArrowBlock is_async params body) ≡ suc (params_levels params)
unfolding expr_levels params_levels
expr_levels-ArrowBlock is_async params body = simp the_lemmas

pub expr_levels-Comma : (x : Expr) (xs : List Expr) → expr_levels (e.Comma x xs) ≡ suc (max (expr_levels x) (highest (map expr_levels xs)))
unfolding expr_levels
expr_levels-Comma x xs = simp the_lemmas

pub piece_levels-Piece : (value : Expr) (after : Units) → piece_levels (piece_of value after) ≡ expr_levels value
unfolding piece_levels expr_levels
piece_levels-Piece value after = simp the_lemmas

pub argument_levels-One : (x : Expr) → argument_levels (argument.One x) ≡ expr_levels x
unfolding argument_levels expr_levels
argument_levels-One x = simp the_lemmas

pub argument_levels-Spread : (x : Expr) → argument_levels (argument.Spread x) ≡ expr_levels x
unfolding argument_levels expr_levels
argument_levels-Spread x = simp the_lemmas

pub entry_levels-Spread : (x : Expr) → entry_levels (entry.Spread x) ≡ expr_levels x
unfolding entry_levels expr_levels
entry_levels-Spread x = simp the_lemmas

pub entry_levels-Shorthand : (name : Units) → entry_levels (entry.Shorthand name) ≡ 1
unfolding entry_levels
entry_levels-Shorthand name = simp the_lemmas

pub entry_levels-Pair : (k : Key) (x : Expr) → entry_levels (entry.Pair k x) ≡ max (key_levels k) (expr_levels x)
unfolding entry_levels key_levels expr_levels
entry_levels-Pair k x = simp the_lemmas

pub entry_levels-Method : (m : Method) → entry_levels (entry.Method m) ≡ method_levels m
unfolding entry_levels method_levels
entry_levels-Method m = simp the_lemmas

pub key_levels-Word : (name : Units) → key_levels (key.Word name) ≡ 0
unfolding key_levels
key_levels-Word name = simp the_lemmas

pub key_levels-Text : (text : Units) → key_levels (key.Text text) ≡ 0
unfolding key_levels
key_levels-Text text = simp the_lemmas

pub key_levels-Number : (value : ℤ) → key_levels (key.Number value) ≡ 0
unfolding key_levels
key_levels-Number value = simp the_lemmas

pub key_levels-Computed : (x : Expr) → key_levels (key.Computed x) ≡ expr_levels x
unfolding key_levels expr_levels
key_levels-Computed x = simp the_lemmas

pub suffix_levels-Member : (is_optional : Bool) (name : Units) → suffix_levels (suffix.Member is_optional name) ≡ 0
unfolding suffix_levels
suffix_levels-Member is_optional name = simp the_lemmas

pub suffix_levels-Index : (is_optional : Bool) (x : Expr) → suffix_levels (suffix.Index is_optional x) ≡ expr_levels x
unfolding suffix_levels expr_levels
suffix_levels-Index is_optional x = simp the_lemmas

pub suffix_levels-Call : (is_optional : Bool) (arguments : List Argument) → suffix_levels (suffix.Call is_optional arguments) ≡ highest (map argument_levels arguments)
unfolding suffix_levels argument_levels
suffix_levels-Call is_optional arguments = simp the_lemmas

pub operand_levels-Operand : (op : BinaryOp) (right : Expr) → operand_levels (operand_of op right) ≡ expr_levels right
unfolding operand_levels expr_levels
operand_levels-Operand op right = simp the_lemmas

-- ---- functions and classes

pub function_levels-Function : (flow : Flow) (name : Option Units) (params : Params) (body : Unread) → function_levels (function_of flow name params body) ≡ suc (params_levels params)
unfolding function_levels params_levels
function_levels-Function flow name params body = simp the_lemmas

pub method_levels-Method : (flow : Flow) (k : Key) (params : Params) (body : Unread) → method_levels (method_of flow k params body) ≡ suc (max (key_levels k) (params_levels params))
unfolding method_levels key_levels params_levels
method_levels-Method flow k params body = simp the_lemmas

pub class_levels-Class : (name : Option Units) (parent : Option Expr) (members : List Member) → class_levels (class_of name parent members) ≡ suc (max (or_zero expr_levels parent) (highest (map member_levels members)))
unfolding class_levels expr_levels member_levels
class_levels-Class name None members = simp the_lemmas
class_levels-Class name (Some parent) members = simp the_lemmas

pub member_levels-Member : (is_static : Bool) (m : Method) → member_levels (member_of is_static m) ≡ method_levels m
unfolding member_levels method_levels
member_levels-Member is_static m = simp the_lemmas

-- ---- patterns

pub target_levels-Name : (name : Units) → target_levels (target.Name name) ≡ 0
unfolding target_levels
target_levels-Name name = simp the_lemmas

pub target_levels-Object : (props : List Prop) (rest : Option Units) → target_levels (target.Object props rest) ≡ suc (highest (map prop_levels props))
unfolding target_levels prop_levels
target_levels-Object props rest = simp the_lemmas

pub target_levels-Array : (elems : List Elem) (rest : Option Units) → target_levels (target.Array elems rest) ≡ suc (highest (map elem_levels elems))
unfolding target_levels elem_levels
target_levels-Array elems rest = simp the_lemmas

pub prop_levels-Shorthand : (name : Units) (default : Option Expr) → prop_levels (prop.Shorthand name default) ≡ or_zero expr_levels default
unfolding prop_levels expr_levels
prop_levels-Shorthand name None = simp the_lemmas
prop_levels-Shorthand name (Some default) = simp the_lemmas

pub prop_levels-Pair : (k : Key) (elem : Elem) → prop_levels (prop.Pair k elem) ≡ max (key_levels k) (elem_levels elem)
unfolding prop_levels key_levels elem_levels
prop_levels-Pair k elem = simp the_lemmas

pub elem_levels-Elem : (target : Target) (default : Option Expr) → elem_levels (elem_of target default) ≡ max (target_levels target) (or_zero expr_levels default)
unfolding elem_levels target_levels expr_levels
elem_levels-Elem target None = simp the_lemmas
elem_levels-Elem target (Some default) = simp the_lemmas

pub params_levels-Params : (elems : List Elem) (rest : Option Target) → params_levels (params_of elems rest) ≡ max (highest (map elem_levels elems)) (or_zero target_levels rest)
unfolding params_levels elem_levels target_levels
params_levels-Params elems None = simp the_lemmas
params_levels-Params elems (Some rest) = simp the_lemmas

-- ---- structs, by their fields

pub piece_levels-fields : (whole : Piece) → piece_levels whole ≡ expr_levels (out-Piece whole).value
piece_levels-fields whole = let e = piece_levels-Piece (out-Piece whole).value (out-Piece whole).after in subst (λ (z : Piece). piece_levels z ≡ expr_levels (out-Piece whole).value) (roll-out-Piece whole) e

pub operand_levels-fields : (whole : Operand) → operand_levels whole ≡ expr_levels (out-Operand whole).right
operand_levels-fields whole = let e = operand_levels-Operand (out-Operand whole).op (out-Operand whole).right in subst (λ (z : Operand). operand_levels z ≡ expr_levels (out-Operand whole).right) (roll-out-Operand whole) e

pub function_levels-fields : (whole : Function) → function_levels whole ≡ suc (params_levels (out-Function whole).params)
function_levels-fields whole = let e = function_levels-Function (out-Function whole).flow (out-Function whole).name (out-Function whole).params (out-Function whole).body in subst (λ (z : Function). function_levels z ≡ suc (params_levels (out-Function whole).params)) (roll-out-Function whole) e

pub method_levels-fields : (whole : Method) → method_levels whole ≡ suc (max (key_levels (out-Method whole).key) (params_levels (out-Method whole).params))
method_levels-fields whole = let e = method_levels-Method (out-Method whole).flow (out-Method whole).key (out-Method whole).params (out-Method whole).body in subst (λ (z : Method). method_levels z ≡ suc (max (key_levels (out-Method whole).key) (params_levels (out-Method whole).params))) (roll-out-Method whole) e

pub class_levels-fields : (whole : Class) → class_levels whole ≡ suc (max (or_zero expr_levels (out-Class whole).parent) (highest (map member_levels (out-Class whole).members)))
class_levels-fields whole = let e = class_levels-Class (out-Class whole).name (out-Class whole).parent (out-Class whole).members in subst (λ (z : Class). class_levels z ≡ suc (max (or_zero expr_levels (out-Class whole).parent) (highest (map member_levels (out-Class whole).members)))) (roll-out-Class whole) e

pub member_levels-fields : (whole : Member) → member_levels whole ≡ method_levels (out-Member whole).method
member_levels-fields whole = let e = member_levels-Member (out-Member whole).is_static (out-Member whole).method in subst (λ (z : Member). member_levels z ≡ method_levels (out-Member whole).method) (roll-out-Member whole) e

pub elem_levels-fields : (whole : Elem) → elem_levels whole ≡ max (target_levels (out-Elem whole).target) (or_zero expr_levels (out-Elem whole).default)
elem_levels-fields whole = let e = elem_levels-Elem (out-Elem whole).target (out-Elem whole).default in subst (λ (z : Elem). elem_levels z ≡ max (target_levels (out-Elem whole).target) (or_zero expr_levels (out-Elem whole).default)) (roll-out-Elem whole) e

pub params_levels-fields : (whole : Params) → params_levels whole ≡ max (highest (map elem_levels (out-Params whole).elems)) (or_zero target_levels (out-Params whole).rest)
params_levels-fields whole = let e = params_levels-Params (out-Params whole).elems (out-Params whole).rest in subst (λ (z : Params). params_levels z ≡ max (highest (map elem_levels (out-Params whole).elems)) (or_zero target_levels (out-Params whole).rest)) (roll-out-Params whole) e

-- all of these
pub ruleset levels_equations = (
  expr_levels-Name,
  expr_levels-Number,
  expr_levels-Text,
  expr_levels-Bool,
  expr_levels-Null,
  expr_levels-This,
  expr_levels-Template,
  expr_levels-Brackets,
  expr_levels-Array,
  expr_levels-Object,
  expr_levels-SuperCall,
  expr_levels-SuperMember,
  expr_levels-Function,
  expr_levels-Class,
  expr_levels-New,
  expr_levels-Left,
  expr_levels-StepBefore,
  expr_levels-StepAfter,
  expr_levels-Unary,
  expr_levels-Chain,
  expr_levels-Conditional,
  expr_levels-Assign,
  expr_levels-Yield,
  expr_levels-Arrow,
  expr_levels-ArrowBlock,
  expr_levels-Comma,
  piece_levels-Piece,
  argument_levels-One,
  argument_levels-Spread,
  entry_levels-Spread,
  entry_levels-Shorthand,
  entry_levels-Pair,
  entry_levels-Method,
  key_levels-Word,
  key_levels-Text,
  key_levels-Number,
  key_levels-Computed,
  suffix_levels-Member,
  suffix_levels-Index,
  suffix_levels-Call,
  operand_levels-Operand,
  function_levels-Function,
  method_levels-Method,
  class_levels-Class,
  member_levels-Member,
  target_levels-Name,
  target_levels-Object,
  target_levels-Array,
  prop_levels-Shorthand,
  prop_levels-Pair,
  elem_levels-Elem,
  params_levels-Params,
  piece_levels-fields,
  operand_levels-fields,
  function_levels-fields,
  method_levels-fields,
  class_levels-fields,
  member_levels-fields,
  elem_levels-fields,
  params_levels-fields,
)
