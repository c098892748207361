-- Which bodies are in each kind of expression, pattern, function and class, and of their parts.
use Rattle.std.proofs.Common.{◌≡◌, subst, ℕ, ℤ, Bool, ◌+◌, ◌++◌, [], ap, List, Option, Some, None, map}
use Rattle.actx_text.specs.declared.units.Units.{Units}
use Rattle.actx_tree.specs.declared.expr.Expr.{Expr, Expr-F, the_lemmas}
use Rattle.actx_tree.specs.declared.expr.Expr.TheVariants as e
use Rattle.actx_tree.specs.declared.expr.Piece.{Piece, out-Piece, roll-out-Piece}
use Rattle.actx_tree.specs.declared.expr.Argument.{Argument, Argument-F}
use Rattle.actx_tree.specs.declared.expr.Argument.TheVariants as argument
use Rattle.actx_tree.specs.declared.expr.Entry.{Entry, Entry-F}
use Rattle.actx_tree.specs.declared.expr.Entry.TheVariants as entry
use Rattle.actx_tree.specs.declared.expr.Key.{Key, Key-F}
use Rattle.actx_tree.specs.declared.expr.Key.TheVariants as key
use Rattle.actx_tree.specs.declared.expr.Suffix.{Suffix, Suffix-F}
use Rattle.actx_tree.specs.declared.expr.Suffix.TheVariants as suffix
use Rattle.actx_tree.specs.declared.expr.Operand.{Operand, out-Operand, roll-out-Operand}
use Rattle.actx_tree.specs.declared.function.Function.{Function, out-Function, roll-out-Function}
use Rattle.actx_tree.specs.declared.function.Method.{Method, out-Method, roll-out-Method}
use Rattle.actx_tree.specs.declared.function.Class.{Class, out-Class, roll-out-Class}
use Rattle.actx_tree.specs.declared.function.Member.{Member, out-Member, roll-out-Member}
use Rattle.actx_tree.specs.declared.pattern.Target.{Target, Target-F}
use Rattle.actx_tree.specs.declared.pattern.Target.TheVariants as target
use Rattle.actx_tree.specs.declared.pattern.Prop.{Prop, Prop-F}
use Rattle.actx_tree.specs.declared.pattern.Prop.TheVariants as prop
use Rattle.actx_tree.specs.declared.pattern.Elem.{Elem, out-Elem, roll-out-Elem}
use Rattle.actx_tree.specs.declared.pattern.Params.{Params, out-Params, roll-out-Params}
use Rattle.actx_tree.specs.declared.operator.BinaryOp.{BinaryOp}
use Rattle.actx_tree.specs.declared.operator.UnaryOp.{UnaryOp}
use Rattle.actx_tree.specs.declared.operator.StepOp.{StepOp}
use Rattle.actx_tree.specs.declared.operator.AssignOp.{AssignOp}
use Rattle.actx_tree.specs.declared.function.Flow.{Flow}
use Rattle.actx_tree.specs.declared.function.Unread.{Unread}
use Rattle.actx_tree.specs.Parts.{piece_of, operand_of, function_of, method_of, class_of, member_of, elem_of, params_of}
use Rattle.actx_tree.specs.Bodies.{expr_bodies, piece_bodies, argument_bodies, entry_bodies, key_bodies, suffix_bodies, operand_bodies, function_bodies, method_bodies, class_bodies, member_bodies, target_bodies, prop_bodies, elem_bodies, params_bodies, arguments_bodies, all, or_none, Found, expr_step, piece_step, argument_step, entry_step, key_step, suffix_step, operand_step, function_step, method_step, class_step, member_step, target_step, prop_step, elem_step, params_step, body_at}

-- ---- expressions

pub expr_bodies-Name : (name : Units) (d : ℕ) → expr_bodies (e.Name name) d ≡ []
unfolding expr_bodies
expr_bodies-Name name d = let q : expr_bodies (e.Name name) ≡ expr_step (Expr-F.Expr::Name name) = simp the_lemmas in ap (λ (g : Found). g d) q

pub expr_bodies-Number : (value : ℤ) (d : ℕ) → expr_bodies (e.Number value) d ≡ []
unfolding expr_bodies
expr_bodies-Number value d = let q : expr_bodies (e.Number value) ≡ expr_step (Expr-F.Expr::Number value) = simp the_lemmas in ap (λ (g : Found). g d) q

pub expr_bodies-Text : (text : Units) (d : ℕ) → expr_bodies (e.Text text) d ≡ []
unfolding expr_bodies
expr_bodies-Text text d = let q : expr_bodies (e.Text text) ≡ expr_step (Expr-F.Expr::Text text) = simp the_lemmas in ap (λ (g : Found). g d) q

pub expr_bodies-Bool : (value : Bool) (d : ℕ) → expr_bodies (e.Bool value) d ≡ []
unfolding expr_bodies
expr_bodies-Bool value d = let q : expr_bodies (e.Bool value) ≡ expr_step (Expr-F.Bool value) = simp the_lemmas in ap (λ (g : Found). g d) q

pub expr_bodies-Null : (d : ℕ) → expr_bodies e.Null d ≡ []
unfolding expr_bodies
expr_bodies-Null d = let q : expr_bodies e.Null ≡ expr_step Expr-F.Null = simp the_lemmas in ap (λ (g : Found). g d) q

pub expr_bodies-This : (d : ℕ) → expr_bodies e.This d ≡ []
unfolding expr_bodies
expr_bodies-This d = let q : expr_bodies e.This ≡ expr_step Expr-F.This = simp the_lemmas in ap (λ (g : Found). g d) q

pub expr_bodies-Template : (text : Units) (pieces : List Piece) (d : ℕ) → expr_bodies (e.Template text pieces) d ≡ all (map piece_bodies pieces) (d + 1)
unfolding expr_bodies piece_bodies
expr_bodies-Template text pieces d = let q : expr_bodies (e.Template text pieces) ≡ expr_step (Expr-F.Template text (map piece_bodies pieces)) = simp the_lemmas in ap (λ (g : Found). g d) q

pub expr_bodies-Brackets : (x : Expr) (d : ℕ) → expr_bodies (e.Brackets x) d ≡ expr_bodies x (d + 1)
unfolding expr_bodies
expr_bodies-Brackets x d = let q : expr_bodies (e.Brackets x) ≡ expr_step (Expr-F.Brackets (expr_bodies x)) = simp the_lemmas in ap (λ (g : Found). g d) q

pub expr_bodies-Array : (arguments : List Argument) (d : ℕ) → expr_bodies (e.Array arguments) d ≡ all (map argument_bodies arguments) (d + 1)
unfolding expr_bodies argument_bodies
expr_bodies-Array arguments d = let q : expr_bodies (e.Array arguments) ≡ expr_step (Expr-F.Expr::Array (map argument_bodies arguments)) = simp the_lemmas in ap (λ (g : Found). g d) q

pub expr_bodies-Object : (entries : List Entry) (d : ℕ) → expr_bodies (e.Object entries) d ≡ all (map entry_bodies entries) (d + 1)
unfolding expr_bodies entry_bodies
expr_bodies-Object entries d = let q : expr_bodies (e.Object entries) ≡ expr_step (Expr-F.Expr::Object (map entry_bodies entries)) = simp the_lemmas in ap (λ (g : Found). g d) q

pub expr_bodies-SuperCall : (arguments : List Argument) (d : ℕ) → expr_bodies (e.SuperCall arguments) d ≡ all (map argument_bodies arguments) (d + 1)
unfolding expr_bodies argument_bodies
expr_bodies-SuperCall arguments d = let q : expr_bodies (e.SuperCall arguments) ≡ expr_step (Expr-F.SuperCall (map argument_bodies arguments)) = simp the_lemmas in ap (λ (g : Found). g d) q

pub expr_bodies-SuperMember : (name : Units) (d : ℕ) → expr_bodies (e.SuperMember name) d ≡ []
unfolding expr_bodies
expr_bodies-SuperMember name d = let q : expr_bodies (e.SuperMember name) ≡ expr_step (Expr-F.SuperMember name) = simp the_lemmas in ap (λ (g : Found). g d) q

pub expr_bodies-Function : (f : Function) (d : ℕ) → expr_bodies (e.Function f) d ≡ function_bodies f d
unfolding expr_bodies function_bodies
expr_bodies-Function f d = let q : expr_bodies (e.Function f) ≡ expr_step (Expr-F.Function (function_bodies f)) = simp the_lemmas in ap (λ (g : Found). g d) q

pub expr_bodies-Class : (c : Class) (d : ℕ) → expr_bodies (e.Class c) d ≡ class_bodies c d
unfolding expr_bodies class_bodies
expr_bodies-Class c d = let q : expr_bodies (e.Class c) ≡ expr_step (Expr-F.Class (class_bodies c)) = simp the_lemmas in ap (λ (g : Found). g d) q

pub expr_bodies-New : (x : Expr) (suffixes : List Suffix) (arguments : Option (List Argument)) (d : ℕ) → expr_bodies (e.New x suffixes arguments) d ≡ expr_bodies x (d + 1) ++ (all (map suffix_bodies suffixes) (d + 1) ++ or_none arguments_bodies arguments (d + 1))
unfolding expr_bodies suffix_bodies argument_bodies
expr_bodies-New x suffixes None d = let q : expr_bodies (e.New x suffixes None) ≡ expr_step (Expr-F.New (expr_bodies x) (map suffix_bodies suffixes) None) = simp the_lemmas in ap (λ (g : Found). g d) q
expr_bodies-New x suffixes (Some arguments) d = let q : expr_bodies (e.New x suffixes (Some arguments)) ≡ expr_step (Expr-F.New (expr_bodies x) (map suffix_bodies suffixes) (Some (map argument_bodies arguments))) = simp the_lemmas in ap (λ (g : Found). g d) q

pub expr_bodies-Left : (x : Expr) (suffixes : List Suffix) (d : ℕ) → expr_bodies (e.Left x suffixes) d ≡ expr_bodies x (d + 1) ++ all (map suffix_bodies suffixes) (d + 1)
unfolding expr_bodies suffix_bodies
expr_bodies-Left x suffixes d = let q : expr_bodies (e.Left x suffixes) ≡ expr_step (Expr-F.Left (expr_bodies x) (map suffix_bodies suffixes)) = simp the_lemmas in ap (λ (g : Found). g d) q

pub expr_bodies-StepBefore : (op : StepOp) (x : Expr) (d : ℕ) → expr_bodies (e.StepBefore op x) d ≡ expr_bodies x (d + 1)
unfolding expr_bodies
expr_bodies-StepBefore op x d = let q : expr_bodies (e.StepBefore op x) ≡ expr_step (Expr-F.StepBefore op (expr_bodies x)) = simp the_lemmas in ap (λ (g : Found). g d) q

pub expr_bodies-StepAfter : (x : Expr) (op : StepOp) (d : ℕ) → expr_bodies (e.StepAfter x op) d ≡ expr_bodies x (d + 1)
unfolding expr_bodies
expr_bodies-StepAfter x op d = let q : expr_bodies (e.StepAfter x op) ≡ expr_step (Expr-F.StepAfter (expr_bodies x) op) = simp the_lemmas in ap (λ (g : Found). g d) q

pub expr_bodies-Unary : (op : UnaryOp) (x : Expr) (d : ℕ) → expr_bodies (e.Unary op x) d ≡ expr_bodies x (d + 1)
unfolding expr_bodies
expr_bodies-Unary op x d = let q : expr_bodies (e.Unary op x) ≡ expr_step (Expr-F.Unary op (expr_bodies x)) = simp the_lemmas in ap (λ (g : Found). g d) q

pub expr_bodies-Chain : (x : Expr) (operands : List Operand) (d : ℕ) → expr_bodies (e.Chain x operands) d ≡ expr_bodies x (d + 1) ++ all (map operand_bodies operands) (d + 1)
unfolding expr_bodies operand_bodies
expr_bodies-Chain x operands d = let q : expr_bodies (e.Chain x operands) ≡ expr_step (Expr-F.Chain (expr_bodies x) (map operand_bodies operands)) = simp the_lemmas in ap (λ (g : Found). g d) q

pub expr_bodies-Conditional : (test : Expr) (then : Expr) (other : Expr) (d : ℕ) → expr_bodies (e.Conditional test then other) d ≡ expr_bodies test (d + 1) ++ (expr_bodies then (d + 1) ++ expr_bodies other (d + 1))
unfolding expr_bodies
expr_bodies-Conditional test then other d = let q : expr_bodies (e.Conditional test then other) ≡ expr_step (Expr-F.Conditional (expr_bodies test) (expr_bodies then) (expr_bodies other)) = simp the_lemmas in ap (λ (g : Found). g d) q

pub expr_bodies-Assign : (place : Expr) (op : AssignOp) (x : Expr) (d : ℕ) → expr_bodies (e.Assign place op x) d ≡ expr_bodies place (d + 1) ++ expr_bodies x (d + 1)
unfolding expr_bodies
expr_bodies-Assign place op x d = let q : expr_bodies (e.Assign place op x) ≡ expr_step (Expr-F.Assign (expr_bodies place) op (expr_bodies x)) = simp the_lemmas in ap (λ (g : Found). g d) q

pub expr_bodies-Yield : (x : Option Expr) (d : ℕ) → expr_bodies (e.Yield x) d ≡ or_none expr_bodies x (d + 1)
unfolding expr_bodies
expr_bodies-Yield None d = let q : expr_bodies (e.Yield None) ≡ expr_step (Expr-F.Yield None) = simp the_lemmas in ap (λ (g : Found). g d) q
expr_bodies-Yield (Some x) d = let q : expr_bodies (e.Yield (Some x)) ≡ expr_step (Expr-F.Yield (Some (expr_bodies x))) = simp the_lemmas in ap (λ (g : Found). g d) q

pub expr_bodies-Arrow : (is_async : Bool) (params : Params) (x : Expr) (d : ℕ) → expr_bodies (e.Arrow is_async params x) d ≡ params_bodies params (d + 1) ++ expr_bodies x (d + 1)
unfolding expr_bodies params_bodies
expr_bodies-Arrow is_async params x d = let q : expr_bodies (e.Arrow is_async params x) ≡ expr_step (Expr-F.Arrow is_async (params_bodies params) (expr_bodies x)) = simp the_lemmas in ap (λ (g : Found). g d) q

pub expr_bodies-ArrowBlock : (is_async : Bool) (params : Params) (body : Unread) (d : ℕ) → expr_bodies (e.ArrowBlock is_async params body) d ≡ params_bodies params (d + 1) ++ body_at body d
unfolding expr_bodies params_bodies
expr_bodies-ArrowBlock is_async params body d = let q : expr_bodies (e.ArrowBlock is_async params body) ≡ expr_step (Expr-F.ArrowBlock is_async (params_bodies params) body) = simp the_lemmas in ap (λ (g : Found). g d) q

pub expr_bodies-Comma : (x : Expr) (xs : List Expr) (d : ℕ) → expr_bodies (e.Comma x xs) d ≡ expr_bodies x (d + 1) ++ all (map expr_bodies xs) (d + 1)
unfolding expr_bodies
expr_bodies-Comma x xs d = let q : expr_bodies (e.Comma x xs) ≡ expr_step (Expr-F.Comma (expr_bodies x) (map expr_bodies xs)) = simp the_lemmas in ap (λ (g : Found). g d) q

pub piece_bodies-Piece : (value : Expr) (after : Units) (d : ℕ) → piece_bodies (piece_of value after) d ≡ expr_bodies value d
unfolding piece_bodies expr_bodies
piece_bodies-Piece value after d = let q : piece_bodies (piece_of value after) ≡ piece_step (record { value = expr_bodies value; after = after }) = simp the_lemmas in ap (λ (g : Found). g d) q

pub argument_bodies-One : (x : Expr) (d : ℕ) → argument_bodies (argument.One x) d ≡ expr_bodies x d
unfolding argument_bodies expr_bodies
argument_bodies-One x d = let q : argument_bodies (argument.One x) ≡ argument_step (Argument-F.One (expr_bodies x)) = simp the_lemmas in ap (λ (g : Found). g d) q

pub argument_bodies-Spread : (x : Expr) (d : ℕ) → argument_bodies (argument.Spread x) d ≡ expr_bodies x d
unfolding argument_bodies expr_bodies
argument_bodies-Spread x d = let q : argument_bodies (argument.Spread x) ≡ argument_step (Argument-F.Argument::Spread (expr_bodies x)) = simp the_lemmas in ap (λ (g : Found). g d) q

pub entry_bodies-Spread : (x : Expr) (d : ℕ) → entry_bodies (entry.Spread x) d ≡ expr_bodies x d
unfolding entry_bodies expr_bodies
entry_bodies-Spread x d = let q : entry_bodies (entry.Spread x) ≡ entry_step (Entry-F.Entry::Spread (expr_bodies x)) = simp the_lemmas in ap (λ (g : Found). g d) q

pub entry_bodies-Shorthand : (name : Units) (d : ℕ) → entry_bodies (entry.Shorthand name) d ≡ []
unfolding entry_bodies
entry_bodies-Shorthand name d = let q : entry_bodies (entry.Shorthand name) ≡ entry_step (Entry-F.Entry::Shorthand name) = simp the_lemmas in ap (λ (g : Found). g d) q

pub entry_bodies-Pair : (k : Key) (x : Expr) (d : ℕ) → entry_bodies (entry.Pair k x) d ≡ key_bodies k d ++ expr_bodies x d
unfolding entry_bodies key_bodies expr_bodies
entry_bodies-Pair k x d = let q : entry_bodies (entry.Pair k x) ≡ entry_step (Entry-F.Entry::Pair (key_bodies k) (expr_bodies x)) = simp the_lemmas in ap (λ (g : Found). g d) q

pub entry_bodies-Method : (m : Method) (d : ℕ) → entry_bodies (entry.Method m) d ≡ method_bodies m d
unfolding entry_bodies method_bodies
entry_bodies-Method m d = let q : entry_bodies (entry.Method m) ≡ entry_step (Entry-F.Method (method_bodies m)) = simp the_lemmas in ap (λ (g : Found). g d) q

pub key_bodies-Word : (name : Units) (d : ℕ) → key_bodies (key.Word name) d ≡ []
unfolding key_bodies
key_bodies-Word name d = let q : key_bodies (key.Word name) ≡ key_step (Key-F.Word name) = simp the_lemmas in ap (λ (g : Found). g d) q

pub key_bodies-Text : (text : Units) (d : ℕ) → key_bodies (key.Text text) d ≡ []
unfolding key_bodies
key_bodies-Text text d = let q : key_bodies (key.Text text) ≡ key_step (Key-F.Key::Text text) = simp the_lemmas in ap (λ (g : Found). g d) q

pub key_bodies-Number : (value : ℤ) (d : ℕ) → key_bodies (key.Number value) d ≡ []
unfolding key_bodies
key_bodies-Number value d = let q : key_bodies (key.Number value) ≡ key_step (Key-F.Key::Number value) = simp the_lemmas in ap (λ (g : Found). g d) q

pub key_bodies-Computed : (x : Expr) (d : ℕ) → key_bodies (key.Computed x) d ≡ expr_bodies x d
unfolding key_bodies expr_bodies
key_bodies-Computed x d = let q : key_bodies (key.Computed x) ≡ key_step (Key-F.Computed (expr_bodies x)) = simp the_lemmas in ap (λ (g : Found). g d) q

pub suffix_bodies-Member : (is_optional : Bool) (name : Units) (d : ℕ) → suffix_bodies (suffix.Member is_optional name) d ≡ []
unfolding suffix_bodies
suffix_bodies-Member is_optional name d = let q : suffix_bodies (suffix.Member is_optional name) ≡ suffix_step (Suffix-F.Member is_optional name) = simp the_lemmas in ap (λ (g : Found). g d) q

pub suffix_bodies-Index : (is_optional : Bool) (x : Expr) (d : ℕ) → suffix_bodies (suffix.Index is_optional x) d ≡ expr_bodies x d
unfolding suffix_bodies expr_bodies
suffix_bodies-Index is_optional x d = let q : suffix_bodies (suffix.Index is_optional x) ≡ suffix_step (Suffix-F.Index is_optional (expr_bodies x)) = simp the_lemmas in ap (λ (g : Found). g d) q

pub suffix_bodies-Call : (is_optional : Bool) (arguments : List Argument) (d : ℕ) → suffix_bodies (suffix.Call is_optional arguments) d ≡ all (map argument_bodies arguments) d
unfolding suffix_bodies argument_bodies
suffix_bodies-Call is_optional arguments d = let q : suffix_bodies (suffix.Call is_optional arguments) ≡ suffix_step (Suffix-F.Call is_optional (map argument_bodies arguments)) = simp the_lemmas in ap (λ (g : Found). g d) q

pub operand_bodies-Operand : (op : BinaryOp) (right : Expr) (d : ℕ) → operand_bodies (operand_of op right) d ≡ expr_bodies right d
unfolding operand_bodies expr_bodies
operand_bodies-Operand op right d = let q : operand_bodies (operand_of op right) ≡ operand_step (record { op = op; right = expr_bodies right }) = simp the_lemmas in ap (λ (g : Found). g d) q

-- ---- functions and classes

pub function_bodies-Function : (flow : Flow) (name : Option Units) (params : Params) (body : Unread) (d : ℕ) → function_bodies (function_of flow name params body) d ≡ params_bodies params (d + 1) ++ body_at body d
unfolding function_bodies params_bodies
function_bodies-Function flow name params body d = let q : function_bodies (function_of flow name params body) ≡ function_step (record { flow = flow; name = name; params = params_bodies params; body = body }) = simp the_lemmas in ap (λ (g : Found). g d) q

pub method_bodies-Method : (flow : Flow) (k : Key) (params : Params) (body : Unread) (d : ℕ) → method_bodies (method_of flow k params body) d ≡ key_bodies k (d + 1) ++ (params_bodies params (d + 1) ++ body_at body d)
unfolding method_bodies key_bodies params_bodies
method_bodies-Method flow k params body d = let q : method_bodies (method_of flow k params body) ≡ method_step (record { flow = flow; key = key_bodies k; params = params_bodies params; body = body }) = simp the_lemmas in ap (λ (g : Found). g d) q

pub class_bodies-Class : (name : Option Units) (parent : Option Expr) (members : List Member) (d : ℕ) → class_bodies (class_of name parent members) d ≡ or_none expr_bodies parent (d + 1) ++ all (map member_bodies members) (d + 1)
unfolding class_bodies expr_bodies member_bodies
class_bodies-Class name None members d = let q : class_bodies (class_of name None members) ≡ class_step (record { name = name; parent = None; members = map member_bodies members }) = simp the_lemmas in ap (λ (g : Found). g d) q
class_bodies-Class name (Some parent) members d = let q : class_bodies (class_of name (Some parent) members) ≡ class_step (record { name = name; parent = Some (expr_bodies parent); members = map member_bodies members }) = simp the_lemmas in ap (λ (g : Found). g d) q

pub member_bodies-Member : (is_static : Bool) (m : Method) (d : ℕ) → member_bodies (member_of is_static m) d ≡ method_bodies m d
unfolding member_bodies method_bodies
member_bodies-Member is_static m d = let q : member_bodies (member_of is_static m) ≡ member_step (record { is_static = is_static; method = method_bodies m }) = simp the_lemmas in ap (λ (g : Found). g d) q

-- ---- patterns

pub target_bodies-Name : (name : Units) (d : ℕ) → target_bodies (target.Name name) d ≡ []
unfolding target_bodies
target_bodies-Name name d = let q : target_bodies (target.Name name) ≡ target_step (Target-F.Target::Name name) = simp the_lemmas in ap (λ (g : Found). g d) q

pub target_bodies-Object : (props : List Prop) (rest : Option Units) (d : ℕ) → target_bodies (target.Object props rest) d ≡ all (map prop_bodies props) (d + 1)
unfolding target_bodies prop_bodies
target_bodies-Object props rest d = let q : target_bodies (target.Object props rest) ≡ target_step (Target-F.Target::Object (map prop_bodies props) rest) = simp the_lemmas in ap (λ (g : Found). g d) q

pub target_bodies-Array : (elems : List Elem) (rest : Option Units) (d : ℕ) → target_bodies (target.Array elems rest) d ≡ all (map elem_bodies elems) (d + 1)
unfolding target_bodies elem_bodies
target_bodies-Array elems rest d = let q : target_bodies (target.Array elems rest) ≡ target_step (Target-F.Target::Array (map elem_bodies elems) rest) = simp the_lemmas in ap (λ (g : Found). g d) q

pub prop_bodies-Shorthand : (name : Units) (default : Option Expr) (d : ℕ) → prop_bodies (prop.Shorthand name default) d ≡ or_none expr_bodies default d
unfolding prop_bodies expr_bodies
prop_bodies-Shorthand name None d = let q : prop_bodies (prop.Shorthand name None) ≡ prop_step (Prop-F.Prop::Shorthand name None) = simp the_lemmas in ap (λ (g : Found). g d) q
prop_bodies-Shorthand name (Some default) d = let q : prop_bodies (prop.Shorthand name (Some default)) ≡ prop_step (Prop-F.Prop::Shorthand name (Some (expr_bodies default))) = simp the_lemmas in ap (λ (g : Found). g d) q

pub prop_bodies-Pair : (k : Key) (elem : Elem) (d : ℕ) → prop_bodies (prop.Pair k elem) d ≡ key_bodies k d ++ elem_bodies elem d
unfolding prop_bodies key_bodies elem_bodies
prop_bodies-Pair k elem d = let q : prop_bodies (prop.Pair k elem) ≡ prop_step (Prop-F.Prop::Pair (key_bodies k) (elem_bodies elem)) = simp the_lemmas in ap (λ (g : Found). g d) q

pub elem_bodies-Elem : (target : Target) (default : Option Expr) (d : ℕ) → elem_bodies (elem_of target default) d ≡ target_bodies target d ++ or_none expr_bodies default d
unfolding elem_bodies target_bodies expr_bodies
elem_bodies-Elem target None d = let q : elem_bodies (elem_of target None) ≡ elem_step (record { target = target_bodies target; default = None }) = simp the_lemmas in ap (λ (g : Found). g d) q
elem_bodies-Elem target (Some default) d = let q : elem_bodies (elem_of target (Some default)) ≡ elem_step (record { target = target_bodies target; default = Some (expr_bodies default) }) = simp the_lemmas in ap (λ (g : Found). g d) q

pub params_bodies-Params : (elems : List Elem) (rest : Option Target) (d : ℕ) → params_bodies (params_of elems rest) d ≡ all (map elem_bodies elems) d ++ or_none target_bodies rest d
unfolding params_bodies elem_bodies target_bodies
params_bodies-Params elems None d = let q : params_bodies (params_of elems None) ≡ params_step (record { elems = map elem_bodies elems; rest = None }) = simp the_lemmas in ap (λ (g : Found). g d) q
params_bodies-Params elems (Some rest) d = let q : params_bodies (params_of elems (Some rest)) ≡ params_step (record { elems = map elem_bodies elems; rest = Some (target_bodies rest) }) = simp the_lemmas in ap (λ (g : Found). g d) q

-- ---- structs, by their fields

pub piece_bodies-fields : (whole : Piece) (d : ℕ) → piece_bodies whole d ≡ expr_bodies (out-Piece whole).value d
piece_bodies-fields whole d = let e = piece_bodies-Piece (out-Piece whole).value (out-Piece whole).after d in subst (λ (z : Piece). piece_bodies z d ≡ expr_bodies (out-Piece whole).value d) (roll-out-Piece whole) e

pub operand_bodies-fields : (whole : Operand) (d : ℕ) → operand_bodies whole d ≡ expr_bodies (out-Operand whole).right d
operand_bodies-fields whole d = let e = operand_bodies-Operand (out-Operand whole).op (out-Operand whole).right d in subst (λ (z : Operand). operand_bodies z d ≡ expr_bodies (out-Operand whole).right d) (roll-out-Operand whole) e

pub function_bodies-fields : (whole : Function) (d : ℕ) → function_bodies whole d ≡ params_bodies (out-Function whole).params (d + 1) ++ body_at (out-Function whole).body d
function_bodies-fields whole d = let e = function_bodies-Function (out-Function whole).flow (out-Function whole).name (out-Function whole).params (out-Function whole).body d in subst (λ (z : Function). function_bodies z d ≡ params_bodies (out-Function whole).params (d + 1) ++ body_at (out-Function whole).body d) (roll-out-Function whole) e

pub method_bodies-fields : (whole : Method) (d : ℕ) → method_bodies whole d ≡ key_bodies (out-Method whole).key (d + 1) ++ (params_bodies (out-Method whole).params (d + 1) ++ body_at (out-Method whole).body d)
method_bodies-fields whole d = let e = method_bodies-Method (out-Method whole).flow (out-Method whole).key (out-Method whole).params (out-Method whole).body d in subst (λ (z : Method). method_bodies z d ≡ key_bodies (out-Method whole).key (d + 1) ++ (params_bodies (out-Method whole).params (d + 1) ++ body_at (out-Method whole).body d)) (roll-out-Method whole) e

pub class_bodies-fields : (whole : Class) (d : ℕ) → class_bodies whole d ≡ or_none expr_bodies (out-Class whole).parent (d + 1) ++ all (map member_bodies (out-Class whole).members) (d + 1)
class_bodies-fields whole d = let e = class_bodies-Class (out-Class whole).name (out-Class whole).parent (out-Class whole).members d in subst (λ (z : Class). class_bodies z d ≡ or_none expr_bodies (out-Class whole).parent (d + 1) ++ all (map member_bodies (out-Class whole).members) (d + 1)) (roll-out-Class whole) e

pub member_bodies-fields : (whole : Member) (d : ℕ) → member_bodies whole d ≡ method_bodies (out-Member whole).method d
member_bodies-fields whole d = let e = member_bodies-Member (out-Member whole).is_static (out-Member whole).method d in subst (λ (z : Member). member_bodies z d ≡ method_bodies (out-Member whole).method d) (roll-out-Member whole) e

pub elem_bodies-fields : (whole : Elem) (d : ℕ) → elem_bodies whole d ≡ target_bodies (out-Elem whole).target d ++ or_none expr_bodies (out-Elem whole).default d
elem_bodies-fields whole d = let e = elem_bodies-Elem (out-Elem whole).target (out-Elem whole).default d in subst (λ (z : Elem). elem_bodies z d ≡ target_bodies (out-Elem whole).target d ++ or_none expr_bodies (out-Elem whole).default d) (roll-out-Elem whole) e

pub params_bodies-fields : (whole : Params) (d : ℕ) → params_bodies whole d ≡ all (map elem_bodies (out-Params whole).elems) d ++ or_none target_bodies (out-Params whole).rest d
params_bodies-fields whole d = let e = params_bodies-Params (out-Params whole).elems (out-Params whole).rest d in subst (λ (z : Params). params_bodies z d ≡ all (map elem_bodies (out-Params whole).elems) d ++ or_none target_bodies (out-Params whole).rest d) (roll-out-Params whole) e

-- all of these
pub ruleset bodies_equations = (
  expr_bodies-Name,
  expr_bodies-Number,
  expr_bodies-Text,
  expr_bodies-Bool,
  expr_bodies-Null,
  expr_bodies-This,
  expr_bodies-Template,
  expr_bodies-Brackets,
  expr_bodies-Array,
  expr_bodies-Object,
  expr_bodies-SuperCall,
  expr_bodies-SuperMember,
  expr_bodies-Function,
  expr_bodies-Class,
  expr_bodies-New,
  expr_bodies-Left,
  expr_bodies-StepBefore,
  expr_bodies-StepAfter,
  expr_bodies-Unary,
  expr_bodies-Chain,
  expr_bodies-Conditional,
  expr_bodies-Assign,
  expr_bodies-Yield,
  expr_bodies-Arrow,
  expr_bodies-ArrowBlock,
  expr_bodies-Comma,
  piece_bodies-Piece,
  argument_bodies-One,
  argument_bodies-Spread,
  entry_bodies-Spread,
  entry_bodies-Shorthand,
  entry_bodies-Pair,
  entry_bodies-Method,
  key_bodies-Word,
  key_bodies-Text,
  key_bodies-Number,
  key_bodies-Computed,
  suffix_bodies-Member,
  suffix_bodies-Index,
  suffix_bodies-Call,
  operand_bodies-Operand,
  function_bodies-Function,
  method_bodies-Method,
  class_bodies-Class,
  member_bodies-Member,
  target_bodies-Name,
  target_bodies-Object,
  target_bodies-Array,
  prop_bodies-Shorthand,
  prop_bodies-Pair,
  elem_bodies-Elem,
  params_bodies-Params,
  piece_bodies-fields,
  operand_bodies-fields,
  function_bodies-fields,
  method_bodies-fields,
  class_bodies-fields,
  member_bodies-fields,
  elem_bodies-fields,
  params_bodies-fields,
)
