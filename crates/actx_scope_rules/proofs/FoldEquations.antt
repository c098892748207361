-- What a fold gives at each kind of expression, pattern, function and class.
use Rattle.std.proofs.Common.{◌≡◌, ℤ, Bool, List, Option, Some, None, map}
use Rattle.actx_text.specs.declared.units.Units.{Units}
use Rattle.actx_tree.specs.declared.expr.Expr.{Expr, Expr-F, the_lemmas}
use Rattle.actx_tree.specs.declared.expr.Expr.TheVariants as e
use Rattle.actx_tree.specs.declared.expr.Piece.{Piece}
use Rattle.actx_tree.specs.declared.expr.Argument.{Argument, Argument-F}
use Rattle.actx_tree.specs.declared.expr.Argument.TheVariants as argument
use Rattle.actx_tree.specs.declared.expr.Entry.{Entry, Entry-F}
use Rattle.actx_tree.specs.declared.expr.Entry.TheVariants as entry
use Rattle.actx_tree.specs.declared.expr.Key.{Key, Key-F}
use Rattle.actx_tree.specs.declared.expr.Key.TheVariants as key
use Rattle.actx_tree.specs.declared.expr.Suffix.{Suffix, Suffix-F}
use Rattle.actx_tree.specs.declared.expr.Suffix.TheVariants as suffix
use Rattle.actx_tree.specs.declared.expr.Operand.{Operand}
use Rattle.actx_tree.specs.declared.function.Function.{Function}
use Rattle.actx_tree.specs.declared.function.Method.{Method}
use Rattle.actx_tree.specs.declared.function.Class.{Class}
use Rattle.actx_tree.specs.declared.function.Member.{Member}
use Rattle.actx_tree.specs.declared.pattern.Target.{Target, Target-F}
use Rattle.actx_tree.specs.declared.pattern.Target.TheVariants as target
use Rattle.actx_tree.specs.declared.pattern.Prop.{Prop, Prop-F}
use Rattle.actx_tree.specs.declared.pattern.Prop.TheVariants as prop
use Rattle.actx_tree.specs.declared.pattern.Elem.{Elem}
use Rattle.actx_tree.specs.declared.pattern.Params.{Params}
use Rattle.actx_tree.specs.declared.operator.BinaryOp.{BinaryOp}
use Rattle.actx_tree.specs.declared.operator.UnaryOp.{UnaryOp}
use Rattle.actx_tree.specs.declared.operator.StepOp.{StepOp}
use Rattle.actx_tree.specs.declared.operator.AssignOp.{AssignOp}
use Rattle.actx_tree.specs.declared.function.Flow.{Flow}
use Rattle.actx_tree.specs.declared.function.Unread.{Unread}
use Rattle.actx_tree.specs.Parts.{piece_of, operand_of, function_of, method_of, class_of, member_of, elem_of, params_of}
use Rattle.actx_scope_rules.specs.Nodes.{mapped}
use Rattle.actx_tree.specs.Folds.{Steps, fold_expr, fold_piece, fold_argument, fold_entry, fold_key, fold_suffix, fold_operand, fold_function, fold_method, fold_class, fold_member, fold_target, fold_prop, fold_elem, fold_params}

pub fold_expr-Name : (A : Type 0) (s : Steps A) (name : Units) → fold_expr A s (e.Name name) ≡ s.expr (Expr-F.Expr::Name name)
fold_expr-Name A s name = simp the_lemmas

pub fold_expr-Number : (A : Type 0) (s : Steps A) (value : ℤ) → fold_expr A s (e.Number value) ≡ s.expr (Expr-F.Expr::Number value)
fold_expr-Number A s value = simp the_lemmas

pub fold_expr-Text : (A : Type 0) (s : Steps A) (text : Units) → fold_expr A s (e.Text text) ≡ s.expr (Expr-F.Expr::Text text)
fold_expr-Text A s text = simp the_lemmas

pub fold_expr-Bool : (A : Type 0) (s : Steps A) (value : Bool) → fold_expr A s (e.Bool value) ≡ s.expr (Expr-F.Bool value)
fold_expr-Bool A s value = simp the_lemmas

pub fold_expr-Null : (A : Type 0) (s : Steps A) → fold_expr A s e.Null ≡ s.expr Expr-F.Null
fold_expr-Null A s = simp the_lemmas

pub fold_expr-This : (A : Type 0) (s : Steps A) → fold_expr A s e.This ≡ s.expr Expr-F.This
fold_expr-This A s = simp the_lemmas

pub fold_expr-Template : (A : Type 0) (s : Steps A) (text : Units) (pieces : List Piece) → fold_expr A s (e.Template text pieces) ≡ s.expr (Expr-F.Template text (map (fold_piece A s) pieces))
fold_expr-Template A s text pieces = simp the_lemmas

pub fold_expr-Brackets : (A : Type 0) (s : Steps A) (x : Expr) → fold_expr A s (e.Brackets x) ≡ s.expr (Expr-F.Brackets (fold_expr A s x))
fold_expr-Brackets A s x = simp the_lemmas

pub fold_expr-Array : (A : Type 0) (s : Steps A) (arguments : List Argument) → fold_expr A s (e.Array arguments) ≡ s.expr (Expr-F.Expr::Array (map (fold_argument A s) arguments))
fold_expr-Array A s arguments = simp the_lemmas

pub fold_expr-Object : (A : Type 0) (s : Steps A) (entries : List Entry) → fold_expr A s (e.Object entries) ≡ s.expr (Expr-F.Expr::Object (map (fold_entry A s) entries))
fold_expr-Object A s entries = simp the_lemmas

pub fold_expr-SuperCall : (A : Type 0) (s : Steps A) (arguments : List Argument) → fold_expr A s (e.SuperCall arguments) ≡ s.expr (Expr-F.SuperCall (map (fold_argument A s) arguments))
fold_expr-SuperCall A s arguments = simp the_lemmas

pub fold_expr-SuperMember : (A : Type 0) (s : Steps A) (name : Units) → fold_expr A s (e.SuperMember name) ≡ s.expr (Expr-F.SuperMember name)
fold_expr-SuperMember A s name = simp the_lemmas

pub fold_expr-Function : (A : Type 0) (s : Steps A) (f : Function) → fold_expr A s (e.Function f) ≡ s.expr (Expr-F.Function (fold_function A s f))
fold_expr-Function A s f = simp the_lemmas

pub fold_expr-Class : (A : Type 0) (s : Steps A) (c : Class) → fold_expr A s (e.Class c) ≡ s.expr (Expr-F.Class (fold_class A s c))
fold_expr-Class A s c = simp the_lemmas

pub fold_expr-New : (A : Type 0) (s : Steps A) (x : Expr) (suffixes : List Suffix) (arguments : Option (List Argument)) → fold_expr A s (e.New x suffixes arguments) ≡ s.expr (Expr-F.New (fold_expr A s x) (map (fold_suffix A s) suffixes) (mapped (map (fold_argument A s)) arguments))
fold_expr-New A s x suffixes None = simp the_lemmas
fold_expr-New A s x suffixes (Some arguments) = simp the_lemmas

pub fold_expr-Left : (A : Type 0) (s : Steps A) (x : Expr) (suffixes : List Suffix) → fold_expr A s (e.Left x suffixes) ≡ s.expr (Expr-F.Left (fold_expr A s x) (map (fold_suffix A s) suffixes))
fold_expr-Left A s x suffixes = simp the_lemmas

pub fold_expr-StepBefore : (A : Type 0) (s : Steps A) (op : StepOp) (x : Expr) → fold_expr A s (e.StepBefore op x) ≡ s.expr (Expr-F.StepBefore op (fold_expr A s x))
fold_expr-StepBefore A s op x = simp the_lemmas

pub fold_expr-StepAfter : (A : Type 0) (s : Steps A) (x : Expr) (op : StepOp) → fold_expr A s (e.StepAfter x op) ≡ s.expr (Expr-F.StepAfter (fold_expr A s x) op)
fold_expr-StepAfter A s x op = simp the_lemmas

pub fold_expr-Unary : (A : Type 0) (s : Steps A) (op : UnaryOp) (x : Expr) → fold_expr A s (e.Unary op x) ≡ s.expr (Expr-F.Unary op (fold_expr A s x))
fold_expr-Unary A s op x = simp the_lemmas

pub fold_expr-Chain : (A : Type 0) (s : Steps A) (x : Expr) (operands : List Operand) → fold_expr A s (e.Chain x operands) ≡ s.expr (Expr-F.Chain (fold_expr A s x) (map (fold_operand A s) operands))
fold_expr-Chain A s x operands = simp the_lemmas

pub fold_expr-Conditional : (A : Type 0) (s : Steps A) (test : Expr) (first : Expr) (other : Expr) → fold_expr A s (e.Conditional test first other) ≡ s.expr (Expr-F.Conditional (fold_expr A s test) (fold_expr A s first) (fold_expr A s other))
fold_expr-Conditional A s test first other = simp the_lemmas

pub fold_expr-Assign : (A : Type 0) (s : Steps A) (place : Expr) (op : AssignOp) (x : Expr) → fold_expr A s (e.Assign place op x) ≡ s.expr (Expr-F.Assign (fold_expr A s place) op (fold_expr A s x))
fold_expr-Assign A s place op x = simp the_lemmas

pub fold_expr-Yield : (A : Type 0) (s : Steps A) (x : Option Expr) → fold_expr A s (e.Yield x) ≡ s.expr (Expr-F.Yield (mapped (fold_expr A s) x))
fold_expr-Yield A s None = simp the_lemmas
fold_expr-Yield A s (Some x) = simp the_lemmas

pub fold_expr-Arrow : (A : Type 0) (s : Steps A) (is_async : Bool) (params : Params) (x : Expr) → fold_expr A s (e.Arrow is_async params x) ≡ s.expr (Expr-F.Arrow is_async (fold_params A s params) (fold_expr A s x))
fold_expr-Arrow A s is_async params x = simp the_lemmas

pub fold_expr-ArrowBlock : (A : Type 0) (s : Steps A) (is_async : Bool) (params : Params) (body : Unread) → fold_expr A s (e.ArrowBlock is_async params body) ≡ s.expr (Expr-F.ArrowBlock is_async (fold_params A s params) body)
fold_expr-ArrowBlock A s is_async params body = simp the_lemmas

pub fold_expr-Comma : (A : Type 0) (s : Steps A) (x : Expr) (xs : List Expr) → fold_expr A s (e.Comma x xs) ≡ s.expr (Expr-F.Comma (fold_expr A s x) (map (fold_expr A s) xs))
fold_expr-Comma A s x xs = simp the_lemmas

pub fold_piece-Piece : (A : Type 0) (s : Steps A) (value : Expr) (after : Units) → fold_piece A s (piece_of value after) ≡ s.piece (record { value = (fold_expr A s value); after = after })
fold_piece-Piece A s value after = simp the_lemmas

pub fold_argument-One : (A : Type 0) (s : Steps A) (x : Expr) → fold_argument A s (argument.One x) ≡ s.argument (Argument-F.One (fold_expr A s x))
fold_argument-One A s x = simp the_lemmas

pub fold_argument-Spread : (A : Type 0) (s : Steps A) (x : Expr) → fold_argument A s (argument.Spread x) ≡ s.argument (Argument-F.Argument::Spread (fold_expr A s x))
fold_argument-Spread A s x = simp the_lemmas

pub fold_entry-Spread : (A : Type 0) (s : Steps A) (x : Expr) → fold_entry A s (entry.Spread x) ≡ s.entry (Entry-F.Entry::Spread (fold_expr A s x))
fold_entry-Spread A s x = simp the_lemmas

pub fold_entry-Shorthand : (A : Type 0) (s : Steps A) (name : Units) → fold_entry A s (entry.Shorthand name) ≡ s.entry (Entry-F.Entry::Shorthand name)
fold_entry-Shorthand A s name = simp the_lemmas

pub fold_entry-Pair : (A : Type 0) (s : Steps A) (k : Key) (x : Expr) → fold_entry A s (entry.Pair k x) ≡ s.entry (Entry-F.Entry::Pair (fold_key A s k) (fold_expr A s x))
fold_entry-Pair A s k x = simp the_lemmas

pub fold_entry-Method : (A : Type 0) (s : Steps A) (m : Method) → fold_entry A s (entry.Method m) ≡ s.entry (Entry-F.Method (fold_method A s m))
fold_entry-Method A s m = simp the_lemmas

pub fold_key-Word : (A : Type 0) (s : Steps A) (name : Units) → fold_key A s (key.Word name) ≡ s.key (Key-F.Word name)
fold_key-Word A s name = simp the_lemmas

pub fold_key-Text : (A : Type 0) (s : Steps A) (text : Units) → fold_key A s (key.Text text) ≡ s.key (Key-F.Key::Text text)
fold_key-Text A s text = simp the_lemmas

pub fold_key-Number : (A : Type 0) (s : Steps A) (value : ℤ) → fold_key A s (key.Number value) ≡ s.key (Key-F.Key::Number value)
fold_key-Number A s value = simp the_lemmas

pub fold_key-Computed : (A : Type 0) (s : Steps A) (x : Expr) → fold_key A s (key.Computed x) ≡ s.key (Key-F.Computed (fold_expr A s x))
fold_key-Computed A s x = simp the_lemmas

pub fold_suffix-Member : (A : Type 0) (s : Steps A) (is_optional : Bool) (name : Units) → fold_suffix A s (suffix.Member is_optional name) ≡ s.suffix (Suffix-F.Member is_optional name)
fold_suffix-Member A s is_optional name = simp the_lemmas

pub fold_suffix-Index : (A : Type 0) (s : Steps A) (is_optional : Bool) (x : Expr) → fold_suffix A s (suffix.Index is_optional x) ≡ s.suffix (Suffix-F.Index is_optional (fold_expr A s x))
fold_suffix-Index A s is_optional x = simp the_lemmas

pub fold_suffix-Call : (A : Type 0) (s : Steps A) (is_optional : Bool) (arguments : List Argument) → fold_suffix A s (suffix.Call is_optional arguments) ≡ s.suffix (Suffix-F.Call is_optional (map (fold_argument A s) arguments))
fold_suffix-Call A s is_optional arguments = simp the_lemmas

pub fold_operand-Operand : (A : Type 0) (s : Steps A) (op : BinaryOp) (right : Expr) → fold_operand A s (operand_of op right) ≡ s.operand (record { op = op; right = (fold_expr A s right) })
fold_operand-Operand A s op right = simp the_lemmas

pub fold_function-Function : (A : Type 0) (s : Steps A) (flow : Flow) (name : Option Units) (params : Params) (body : Unread) → fold_function A s (function_of flow name params body) ≡ s.function (record { flow = flow; name = name; params = (fold_params A s params); body = body })
fold_function-Function A s flow name params body = simp the_lemmas

pub fold_method-Method : (A : Type 0) (s : Steps A) (flow : Flow) (key : Key) (params : Params) (body : Unread) → fold_method A s (method_of flow key params body) ≡ s.method (record { flow = flow; key = (fold_key A s key); params = (fold_params A s params); body = body })
fold_method-Method A s flow key params body = simp the_lemmas

pub fold_class-Class : (A : Type 0) (s : Steps A) (name : Option Units) (parent : Option Expr) (members : List Member) → fold_class A s (class_of name parent members) ≡ s.class (record { name = name; parent = (mapped (fold_expr A s) parent); members = (map (fold_member A s) members) })
fold_class-Class A s name None members = simp the_lemmas
fold_class-Class A s name (Some parent) members = simp the_lemmas

pub fold_member-Member : (A : Type 0) (s : Steps A) (is_static : Bool) (method : Method) → fold_member A s (member_of is_static method) ≡ s.member (record { is_static = is_static; method = (fold_method A s method) })
fold_member-Member A s is_static method = simp the_lemmas

pub fold_target-Name : (A : Type 0) (s : Steps A) (name : Units) → fold_target A s (target.Name name) ≡ s.target (Target-F.Target::Name name)
fold_target-Name A s name = simp the_lemmas

pub fold_target-Object : (A : Type 0) (s : Steps A) (props : List Prop) (rest : Option Units) → fold_target A s (target.Object props rest) ≡ s.target (Target-F.Target::Object (map (fold_prop A s) props) rest)
fold_target-Object A s props rest = simp the_lemmas

pub fold_target-Array : (A : Type 0) (s : Steps A) (elems : List Elem) (rest : Option Units) → fold_target A s (target.Array elems rest) ≡ s.target (Target-F.Target::Array (map (fold_elem A s) elems) rest)
fold_target-Array A s elems rest = simp the_lemmas

pub fold_prop-Shorthand : (A : Type 0) (s : Steps A) (name : Units) (default : Option Expr) → fold_prop A s (prop.Shorthand name default) ≡ s.prop (Prop-F.Prop::Shorthand name (mapped (fold_expr A s) default))
fold_prop-Shorthand A s name None = simp the_lemmas
fold_prop-Shorthand A s name (Some default) = simp the_lemmas

pub fold_prop-Pair : (A : Type 0) (s : Steps A) (k : Key) (elem : Elem) → fold_prop A s (prop.Pair k elem) ≡ s.prop (Prop-F.Prop::Pair (fold_key A s k) (fold_elem A s elem))
fold_prop-Pair A s k elem = simp the_lemmas

pub fold_elem-Elem : (A : Type 0) (s : Steps A) (target : Target) (default : Option Expr) → fold_elem A s (elem_of target default) ≡ s.elem (record { target = (fold_target A s target); default = (mapped (fold_expr A s) default) })
fold_elem-Elem A s target None = simp the_lemmas
fold_elem-Elem A s target (Some default) = simp the_lemmas

pub fold_params-Params : (A : Type 0) (s : Steps A) (elems : List Elem) (rest : Option Target) → fold_params A s (params_of elems rest) ≡ s.params (record { elems = (map (fold_elem A s) elems); rest = (mapped (fold_target A s) rest) })
fold_params-Params A s elems None = simp the_lemmas
fold_params-Params A s elems (Some rest) = simp the_lemmas
