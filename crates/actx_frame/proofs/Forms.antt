-- The equations of forms: what each form does, by what its parts do.
use Rattle.std.proofs.Common.{◌≡◌, ℕ, zero, suc, ◌+◌, ◌<◌, ◌≤◌, Bool, true, false, not, List, [], ◌∷◌, ◌++◌, length, map, drop, get_or, Option, Some, None, Result, Ok, Err, refl, sym, ap, ◌∙◌, subst, arith}
use Rattle.std.specs.Prelude.{if◌then◌else◌, pos}
use Rattle.std.specs.declared.rc.Rc.{Rc}
use Rattle.std.specs.declared.alloc.Global.{Global}
use Rattle.std.specs.declared.alloc.AllocError.{AllocError}
use Rattle.std.specs.declared.vec.Vec.{Vec}
use Rattle.actx_text.specs.declared.body_id.BodyId.{BodyId}
use Rattle.actx_value.specs.declared.ids.ScopeId.{ScopeId}
use Rattle.actx_value.specs.declared.value.Value.{Value}
use Rattle.actx_value.specs.declared.value.Value.TheVariants as values
use Rattle.actx_value.specs.declared.request.Request.{Request}
use Rattle.actx_value.specs.declared.request.Request.TheVariants as requests
use Rattle.actx_value.specs.declared.operator.BinaryOp.{BinaryOp}
use Rattle.actx_value.specs.declared.operator.BinaryOp.TheVariants as binary
use Rattle.actx_value.specs.declared.operator.UnaryOp.{UnaryOp}
use Rattle.actx_value.specs.declared.operator.UnaryOp.TheVariants as unary
use Rattle.actx_value.specs.Truth.{truth_of}
use Rattle.actx_tree.specs.declared.operator.StepOp.{StepOp}
use Rattle.actx_code.specs.declared.item.Logic.{Logic}
use Rattle.actx_want.specs.declared.completion.Completion.{Completion}
use Rattle.actx_want.specs.declared.completion.Completion.TheVariants.{Normal, Break, Continue, Return, Throw}
use Rattle.actx_code.specs.declared.form.Form.{Form-F}
use Rattle.actx_code.specs.declared.form.Form.TheFolds.{map-Form}
use Rattle.actx_code.specs.declared.pattern.Property.{Property}
use Rattle.actx_want.specs.Lists.{Listed, Filling}
use Rattle.actx_want.specs.Members.{Suffixed}
use Rattle.actx_want.specs.Patterns.{PropertyBinding}
use Rattle.actx_want.specs.Bodies.{form_step}
use Rattle.actx_code.specs.declared.form.Form.{Form, the_lemmas, Literal, Name, ChangeName, ChangeMember, Delete, Unary, Not, Void, Operators, Logical, If, Sequence, Template, Suffixes, SuperMember, New, SuperCall, Array, Object, Function, Class, Init, Bind, Block, While, DoWhile, For, ForLet, ForOf, Break as BreakForm, Continue as ContinueForm, Return as ReturnForm, Throw as ThrowForm, Try, Yield, Await, Parameter, RestParameter, Begin}
use Rattle.actx_code.specs.declared.item.Argument.{Argument}
use Rattle.actx_code.specs.declared.item.Caught.{Caught}
use Rattle.actx_code.specs.declared.item.ClassMember.{ClassMember}
use Rattle.actx_code.specs.declared.item.Declared.{Declared}
use Rattle.actx_code.specs.declared.item.Entry.{Entry}
use Rattle.actx_code.specs.declared.item.Operand.{Operand}
use Rattle.actx_code.specs.declared.item.Piece.{Piece}
use Rattle.actx_code.specs.declared.member.Change.{Change}
use Rattle.actx_code.specs.declared.member.Key.{Key}
use Rattle.actx_code.specs.declared.member.Suffix.{Suffix}
use Rattle.actx_code.specs.declared.pattern.Element.{Element}
use Rattle.actx_code.specs.declared.pattern.Pattern.{Pattern}
use Rattle.actx_want.specs.Run.{Next', Meaning}
use Rattle.actx_want.specs.Names.{Changing, name, change_name}
use Rattle.actx_want.specs.Operators.{Chained, unary as unary_form, negation, nothing_of, operators as operators_form, logical, template}
use Rattle.actx_want.specs.Lists.{Keyed, array, object}
use Rattle.actx_want.specs.Members.{change_member, suffixes, delete, super_member}
use Rattle.actx_want.specs.Calls.{new, super_call}
use Rattle.actx_want.specs.Functions.{Binding, function, parameter, rest_parameter, begin, yielded, awaited}
use Rattle.actx_want.specs.Patterns.{bind}
use Rattle.actx_want.specs.Classes.{class}
use Rattle.actx_want.specs.Statements.{sequence, if_else, init, block, returned, thrown}
use Rattle.actx_want.specs.Loops.{while_loop, do_loop, for_loop, let_loop, of_loop}
use Rattle.actx_want.specs.Tries.{try}
use Rattle.actx_want.specs.Bodies.{values_of, eval, eval_argument, eval_caught, eval_entry, eval_change, eval_key, eval_suffix, eval_pattern, eval_operand, eval_piece, eval_element, eval_property}
use Rattle.actx_frame_items.specs.Work.{forms, form_in}
use Rattle.actx_frame.specs.Begins.{clause_in}

shared : (f : Rc Form Global → Rc Meaning Global) → ((e : Rc Form Global) → (f e).value ≡ eval e.value) → (es : List (Rc Form Global)) → values_of (map f es) ≡ forms es
shared f h [] = refl
shared f h (e ∷ es) = ap (λ m. m ∷ values_of (map f es)) (h e) ∙ ap (λ ms. eval e.value ∷ ms) (shared f h es)

pub form_literal : (v : Value) → eval (Literal v) ≡ (λ p k. k (Normal v))
unfolding eval eval_argument eval_caught eval_entry eval_change eval_key eval_suffix eval_pattern eval_operand eval_piece eval_element eval_property
form_literal v = simp the_lemmas

pub form_name : (hops i : ℕ) → eval (Name hops i) ≡ name hops i
unfolding eval eval_argument eval_caught eval_entry eval_change eval_key eval_suffix eval_pattern eval_operand eval_piece eval_element eval_property
form_name hops i = simp the_lemmas

pub form_change_name : (hops i : ℕ) (c : Change) → eval (ChangeName hops i c) ≡ change_name hops i (eval_change c)
unfolding eval eval_argument eval_caught eval_entry eval_change eval_key eval_suffix eval_pattern eval_operand eval_piece eval_element eval_property
form_change_name hops i c = simp the_lemmas

pub form_change_member : (o : Rc Form Global) (key : Key) (c : Change) → eval (ChangeMember o key c) ≡ change_member (eval o.value) (eval_key key) (eval_change c)
unfolding eval eval_argument eval_caught eval_entry eval_change eval_key eval_suffix eval_pattern eval_operand eval_piece eval_element eval_property
form_change_member o key c = simp the_lemmas

pub form_delete : (b : Rc Form Global) (ss : Rc (Vec Suffix Global) Global) (optional : Bool) (key : Key) → eval (Delete b ss optional key) ≡ delete (eval b.value) (map eval_suffix ss.value.items) optional (eval_key key)
unfolding eval eval_argument eval_caught eval_entry eval_change eval_key eval_suffix eval_pattern eval_operand eval_piece eval_element eval_property
form_delete b ss optional key = simp the_lemmas

pub form_unary : (op : UnaryOp) (e : Rc Form Global) → eval (Unary op e) ≡ unary_form op (eval e.value)
unfolding eval eval_argument eval_caught eval_entry eval_change eval_key eval_suffix eval_pattern eval_operand eval_piece eval_element eval_property
form_unary op e = simp the_lemmas

pub form_not : (e : Rc Form Global) → eval (Not e) ≡ negation (eval e.value)
unfolding eval eval_argument eval_caught eval_entry eval_change eval_key eval_suffix eval_pattern eval_operand eval_piece eval_element eval_property
form_not e = simp the_lemmas

pub form_void : (e : Rc Form Global) → eval (Void e) ≡ nothing_of (eval e.value)
unfolding eval eval_argument eval_caught eval_entry eval_change eval_key eval_suffix eval_pattern eval_operand eval_piece eval_element eval_property
form_void e = simp the_lemmas

pub form_operators : (e : Rc Form Global) (os : Rc (Vec Operand Global) Global) → eval (Operators e os) ≡ operators_form (eval e.value) (map eval_operand os.value.items)
unfolding eval eval_argument eval_caught eval_entry eval_change eval_key eval_suffix eval_pattern eval_operand eval_piece eval_element eval_property
form_operators e os = simp the_lemmas

pub form_if : (t a b : Rc Form Global) → eval (If t a b) ≡ if_else (eval t.value) (eval a.value) (eval b.value)
unfolding eval eval_argument eval_caught eval_entry eval_change eval_key eval_suffix eval_pattern eval_operand eval_piece eval_element eval_property
form_if t a b = simp the_lemmas

pub form_template : (v : Value) (ps : Rc (Vec Piece Global) Global) → eval (Template v ps) ≡ template v (map eval_piece ps.value.items)
unfolding eval eval_argument eval_caught eval_entry eval_change eval_key eval_suffix eval_pattern eval_operand eval_piece eval_element eval_property
form_template v ps = simp the_lemmas

pub form_suffixes : (b : Rc Form Global) (ss : Rc (Vec Suffix Global) Global) → eval (Suffixes b ss) ≡ suffixes (eval b.value) (map eval_suffix ss.value.items)
unfolding eval eval_argument eval_caught eval_entry eval_change eval_key eval_suffix eval_pattern eval_operand eval_piece eval_element eval_property
form_suffixes b ss = simp the_lemmas

pub form_super_member : (hops : ℕ) (key : Value) (ss : Rc (Vec Suffix Global) Global) → eval (SuperMember hops key ss) ≡ super_member hops key (map eval_suffix ss.value.items)
unfolding eval eval_argument eval_caught eval_entry eval_change eval_key eval_suffix eval_pattern eval_operand eval_piece eval_element eval_property
form_super_member hops key ss = simp the_lemmas

pub form_new : (f : Rc Form Global) (ms : Rc (Vec Argument Global) Global) → eval (New f ms) ≡ new (eval f.value) (map eval_argument ms.value.items)
unfolding eval eval_argument eval_caught eval_entry eval_change eval_key eval_suffix eval_pattern eval_operand eval_piece eval_element eval_property
form_new f ms = simp the_lemmas

pub form_super_call : (hops : ℕ) (ms : Rc (Vec Argument Global) Global) → eval (SuperCall hops ms) ≡ super_call hops (map eval_argument ms.value.items)
unfolding eval eval_argument eval_caught eval_entry eval_change eval_key eval_suffix eval_pattern eval_operand eval_piece eval_element eval_property
form_super_call hops ms = simp the_lemmas

pub form_array : (ms : Rc (Vec Argument Global) Global) → eval (Array ms) ≡ array (map eval_argument ms.value.items)
unfolding eval eval_argument eval_caught eval_entry eval_change eval_key eval_suffix eval_pattern eval_operand eval_piece eval_element eval_property
form_array ms = simp the_lemmas

pub form_object : (es : Rc (Vec Entry Global) Global) → eval (Object es) ≡ object (map eval_entry es.value.items)
unfolding eval eval_argument eval_caught eval_entry eval_change eval_key eval_suffix eval_pattern eval_operand eval_piece eval_element eval_property
form_object es = simp the_lemmas

pub form_function : (body : BodyId) → eval (Function body) ≡ function body
unfolding eval eval_argument eval_caught eval_entry eval_change eval_key eval_suffix eval_pattern eval_operand eval_piece eval_element eval_property
form_function body = simp the_lemmas

pub form_init : (i : ℕ) (e : Rc Form Global) → eval (Init i e) ≡ init i (eval e.value)
unfolding eval eval_argument eval_caught eval_entry eval_change eval_key eval_suffix eval_pattern eval_operand eval_piece eval_element eval_property
form_init i e = simp the_lemmas

pub form_bind : (x : Rc Pattern Global) (e : Rc Form Global) → eval (Bind x e) ≡ bind (eval_pattern x.value) (eval e.value)
unfolding eval eval_argument eval_caught eval_entry eval_change eval_key eval_suffix eval_pattern eval_operand eval_piece eval_element eval_property
form_bind x e = simp the_lemmas

pub form_block : (cells : ℕ) (fs : Rc (Vec Declared Global) Global) (e : Rc Form Global) → eval (Block cells fs e) ≡ block cells fs.value.items (eval e.value)
unfolding eval eval_argument eval_caught eval_entry eval_change eval_key eval_suffix eval_pattern eval_operand eval_piece eval_element eval_property
form_block cells fs e = simp the_lemmas

pub form_while : (t b : Rc Form Global) → eval (While t b) ≡ while_loop (eval t.value) (eval b.value)
unfolding eval eval_argument eval_caught eval_entry eval_change eval_key eval_suffix eval_pattern eval_operand eval_piece eval_element eval_property
form_while t b = simp the_lemmas

pub form_do : (b t : Rc Form Global) → eval (DoWhile b t) ≡ do_loop (eval b.value) (eval t.value)
unfolding eval eval_argument eval_caught eval_entry eval_change eval_key eval_suffix eval_pattern eval_operand eval_piece eval_element eval_property
form_do b t = simp the_lemmas

pub form_for : (e t u b : Rc Form Global) → eval (For e t u b) ≡ for_loop (eval e.value) (eval t.value) (eval u.value) (eval b.value)
unfolding eval eval_argument eval_caught eval_entry eval_change eval_key eval_suffix eval_pattern eval_operand eval_piece eval_element eval_property
form_for e t u b = simp the_lemmas

pub form_let : (cells : ℕ) (e t u b : Rc Form Global) → eval (ForLet cells e t u b) ≡ let_loop cells (eval e.value) (eval t.value) (eval u.value) (eval b.value)
unfolding eval eval_argument eval_caught eval_entry eval_change eval_key eval_suffix eval_pattern eval_operand eval_piece eval_element eval_property
form_let cells e t u b = simp the_lemmas

pub form_of : (cells : ℕ) (x : Rc Pattern Global) (e b : Rc Form Global) → eval (ForOf cells x e b) ≡ of_loop cells (eval_pattern x.value) (eval e.value) (eval b.value)
unfolding eval eval_argument eval_caught eval_entry eval_change eval_key eval_suffix eval_pattern eval_operand eval_piece eval_element eval_property
form_of cells x e b = simp the_lemmas

pub form_break : (n : ℕ) → eval (BreakForm n) ≡ (λ p k. k (Break n))
unfolding eval eval_argument eval_caught eval_entry eval_change eval_key eval_suffix eval_pattern eval_operand eval_piece eval_element eval_property
form_break n = simp the_lemmas

pub form_continue : (n : ℕ) → eval (ContinueForm n) ≡ (λ p k. k (Continue n))
unfolding eval eval_argument eval_caught eval_entry eval_change eval_key eval_suffix eval_pattern eval_operand eval_piece eval_element eval_property
form_continue n = simp the_lemmas

pub form_return : (e : Rc Form Global) → eval (ReturnForm e) ≡ returned (eval e.value)
unfolding eval eval_argument eval_caught eval_entry eval_change eval_key eval_suffix eval_pattern eval_operand eval_piece eval_element eval_property
form_return e = simp the_lemmas

pub form_throw : (e : Rc Form Global) → eval (ThrowForm e) ≡ thrown (eval e.value)
unfolding eval eval_argument eval_caught eval_entry eval_change eval_key eval_suffix eval_pattern eval_operand eval_piece eval_element eval_property
form_throw e = simp the_lemmas

pub form_yield : (e : Rc Form Global) → eval (Yield e) ≡ yielded (eval e.value)
unfolding eval eval_argument eval_caught eval_entry eval_change eval_key eval_suffix eval_pattern eval_operand eval_piece eval_element eval_property
form_yield e = simp the_lemmas

pub form_await : (e : Rc Form Global) → eval (Await e) ≡ awaited (eval e.value)
unfolding eval eval_argument eval_caught eval_entry eval_change eval_key eval_suffix eval_pattern eval_operand eval_piece eval_element eval_property
form_await e = simp the_lemmas

pub form_parameter : (i : ℕ) (x : Rc Element Global) → eval (Parameter i x) ≡ parameter i (eval_element x.value)
unfolding eval eval_argument eval_caught eval_entry eval_change eval_key eval_suffix eval_pattern eval_operand eval_piece eval_element eval_property
form_parameter i x = simp the_lemmas

pub form_rest_parameter : (i : ℕ) (x : Rc Pattern Global) → eval (RestParameter i x) ≡ rest_parameter i (eval_pattern x.value)
unfolding eval eval_argument eval_caught eval_entry eval_change eval_key eval_suffix eval_pattern eval_operand eval_piece eval_element eval_property
form_rest_parameter i x = simp the_lemmas

pub form_begin : eval (Begin) ≡ begin
unfolding eval eval_argument eval_caught eval_entry eval_change eval_key eval_suffix eval_pattern eval_operand eval_piece eval_element eval_property
form_begin = simp the_lemmas

-- a form's layer, with what the parts do in their place
abbrev done : Form-F Form Argument Caught Entry Change Key Suffix Pattern Operand Piece Element Property → Form-F Meaning Listed Binding Filling Changing Keyed Suffixed Binding Chained Chained Binding PropertyBinding
done y = map-Form Form Argument Caught Entry Change Key Suffix Pattern Operand Piece Element Property Meaning Listed Binding Filling Changing Keyed Suffixed Binding Chained Chained Binding PropertyBinding eval eval_argument eval_caught eval_entry eval_change eval_key eval_suffix eval_pattern eval_operand eval_piece eval_element eval_property y

logical_step : (op : Logic) (e : Rc Form Global) (es : Rc (Vec (Rc Form Global) Global) Global) → form_step (done (Form-F.Logical op e es)) ≡ logical op (eval e.value) (forms es.value.items)
logical_step op e es = ap (λ ms. logical op (eval e.value) ms) (shared _ (λ x. refl) es.value.items)

sequence_step : (es : Rc (Vec (Rc Form Global) Global) Global) → form_step (done (Form-F.Sequence es)) ≡ sequence (forms es.value.items)
sequence_step es = ap (λ ms. sequence ms) (shared _ (λ x. refl) es.value.items)

pub form_logical : (op : Logic) (e : Rc Form Global) (es : Rc (Vec (Rc Form Global) Global) Global) → eval (Logical op e es) ≡ logical op (eval e.value) (forms es.value.items)
unfolding eval eval_argument eval_caught eval_entry eval_change eval_key eval_suffix eval_pattern eval_operand eval_piece eval_element eval_property
form_logical op e es = let q : eval (Logical op e es) ≡ form_step (done (Form-F.Logical op e es)) = simp the_lemmas in q ∙ logical_step op e es

pub form_sequence : (es : Rc (Vec (Rc Form Global) Global) Global) → eval (Sequence es) ≡ sequence (forms es.value.items)
unfolding eval eval_argument eval_caught eval_entry eval_change eval_key eval_suffix eval_pattern eval_operand eval_piece eval_element eval_property
form_sequence es = let q : eval (Sequence es) ≡ form_step (done (Form-F.Sequence es)) = simp the_lemmas in q ∙ sequence_step es

pub form_class : (c : BodyId) (e : Option (Rc Form Global)) (key : Value) (ms : Rc (Vec ClassMember Global) Global) → eval (Class c e key ms) ≡ class c (form_in e) key ms.value.items
unfolding eval eval_argument eval_caught eval_entry eval_change eval_key eval_suffix eval_pattern eval_operand eval_piece eval_element eval_property
form_class c None key ms = simp the_lemmas
form_class c (Some e) key ms = simp the_lemmas

pub form_try : (b : Rc Form Global) (c : Option (Rc Caught Global)) (f : Option (Rc Form Global)) → eval (Try b c f) ≡ try (eval b.value) (clause_in c) (form_in f)
unfolding eval eval_argument eval_caught eval_entry eval_change eval_key eval_suffix eval_pattern eval_operand eval_piece eval_element eval_property
form_try b None None = simp the_lemmas
form_try b None (Some f) = simp the_lemmas
form_try b (Some c) None = simp the_lemmas
form_try b (Some c) (Some f) = simp the_lemmas
