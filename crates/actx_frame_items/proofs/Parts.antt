-- The equations of the parts of forms: what each kind of part does, by what the parts in it do.
use Rattle.std.proofs.Common.{◌≡◌, ℕ, Bool, map, Option, Some, None}
use Rattle.std.specs.declared.rc.Rc.{Rc}
use Rattle.std.specs.declared.alloc.Global.{Global}
use Rattle.std.specs.declared.vec.Vec.{Vec}
use Rattle.actx_text.specs.declared.body_id.BodyId.{BodyId}
use Rattle.actx_value.specs.declared.value.Value.{Value}
use Rattle.actx_value.specs.declared.operator.BinaryOp.{BinaryOp}
use Rattle.actx_tree.specs.declared.operator.StepOp.{StepOp}
use Rattle.actx_code.specs.declared.item.Logic.{Logic}
use Rattle.actx_code.specs.declared.form.Form.{Form, the_lemmas}
use Rattle.actx_code.specs.declared.item.Argument.{Argument, One, Spread}
use Rattle.actx_code.specs.declared.item.Caught.{Unbound, Bound}
use Rattle.actx_code.specs.declared.item.Entry.{Pair, Method, Copied}
use Rattle.actx_code.specs.declared.member.Change.{Plainly, WithOperator, WithLogic, StepBefore, StepAfter}
use Rattle.actx_code.specs.declared.member.Key.{Key, Plain, Computed}
use Rattle.actx_code.specs.declared.member.Suffix.{Member, Call}
use Rattle.actx_code.specs.declared.pattern.Pattern.{Pattern, Slot, Properties, Elements}
use Rattle.actx_code.specs.declared.item.Operand.{Operand}
use Rattle.actx_code.specs.declared.item.Piece.{Piece}
use Rattle.actx_code.specs.declared.pattern.Element.{Element}
use Rattle.actx_code.specs.declared.pattern.Property.{Property}
use Rattle.actx_want.specs.Names.{changed_plainly, changed_by_operator, changed_by_logic, changed_before, changed_after}
use Rattle.actx_want.specs.Operators.{operand, piece}
use Rattle.actx_want.specs.Lists.{single, spread, pair, method, copied}
use Rattle.actx_want.specs.Members.{plain, computed, member}
use Rattle.actx_want.specs.Calls.{call}
use Rattle.actx_want.specs.Patterns.{slot, element, properties, elements}
use Rattle.actx_want.specs.Tries.{unbound, bound}
use Rattle.actx_frame_items.specs.Work.{form_in}
use Rattle.actx_want.specs.Bodies.{eval, eval_argument, eval_caught, eval_entry, eval_change, eval_key, eval_suffix, eval_pattern, eval_operand, eval_piece, eval_element, eval_property}

pub change_plainly : (e : Rc Form Global) → eval_change (Plainly e) ≡ changed_plainly (eval e.value)
unfolding eval eval_argument eval_caught eval_entry eval_change eval_key eval_suffix eval_pattern eval_operand eval_piece eval_element eval_property
change_plainly e = simp the_lemmas

pub change_operator : (op : BinaryOp) (e : Rc Form Global) → eval_change (WithOperator op e) ≡ changed_by_operator op (eval e.value)
unfolding eval eval_argument eval_caught eval_entry eval_change eval_key eval_suffix eval_pattern eval_operand eval_piece eval_element eval_property
change_operator op e = simp the_lemmas

pub change_logic : (op : Logic) (e : Rc Form Global) → eval_change (WithLogic op e) ≡ changed_by_logic op (eval e.value)
unfolding eval eval_argument eval_caught eval_entry eval_change eval_key eval_suffix eval_pattern eval_operand eval_piece eval_element eval_property
change_logic op e = simp the_lemmas

pub change_before : (op : StepOp) → eval_change (StepBefore op) ≡ changed_before op
unfolding eval eval_argument eval_caught eval_entry eval_change eval_key eval_suffix eval_pattern eval_operand eval_piece eval_element eval_property
change_before op = simp the_lemmas

pub change_after : (op : StepOp) → eval_change (StepAfter op) ≡ changed_after op
unfolding eval eval_argument eval_caught eval_entry eval_change eval_key eval_suffix eval_pattern eval_operand eval_piece eval_element eval_property
change_after op = simp the_lemmas

pub argument_one : (e : Rc Form Global) → eval_argument (One e) ≡ single (eval e.value)
unfolding eval eval_argument eval_caught eval_entry eval_change eval_key eval_suffix eval_pattern eval_operand eval_piece eval_element eval_property
argument_one e = simp the_lemmas

pub argument_spread : (e : Rc Form Global) → eval_argument (Spread e) ≡ spread (eval e.value)
unfolding eval eval_argument eval_caught eval_entry eval_change eval_key eval_suffix eval_pattern eval_operand eval_piece eval_element eval_property
argument_spread e = simp the_lemmas

pub caught_unbound : (b : Rc Form Global) → eval_caught (Unbound b) ≡ unbound (eval b.value)
unfolding eval eval_argument eval_caught eval_entry eval_change eval_key eval_suffix eval_pattern eval_operand eval_piece eval_element eval_property
caught_unbound b = simp the_lemmas

pub caught_bound : (cells : ℕ) (x : Rc Pattern Global) (b : Rc Form Global) → eval_caught (Bound cells x b) ≡ bound cells (eval_pattern x.value) (eval b.value)
unfolding eval eval_argument eval_caught eval_entry eval_change eval_key eval_suffix eval_pattern eval_operand eval_piece eval_element eval_property
caught_bound cells x b = simp the_lemmas

pub entry_pair : (key : Key) (e : Rc Form Global) → eval_entry (Pair key e) ≡ pair (eval_key key) (eval e.value)
unfolding eval eval_argument eval_caught eval_entry eval_change eval_key eval_suffix eval_pattern eval_operand eval_piece eval_element eval_property
entry_pair key e = simp the_lemmas

pub entry_method : (key : Key) (body : BodyId) → eval_entry (Method key body) ≡ method (eval_key key) body
unfolding eval eval_argument eval_caught eval_entry eval_change eval_key eval_suffix eval_pattern eval_operand eval_piece eval_element eval_property
entry_method key body = simp the_lemmas

pub entry_copied : (e : Rc Form Global) → eval_entry (Copied e) ≡ copied (eval e.value)
unfolding eval eval_argument eval_caught eval_entry eval_change eval_key eval_suffix eval_pattern eval_operand eval_piece eval_element eval_property
entry_copied e = simp the_lemmas

pub key_plain : (v : Value) → eval_key (Plain v) ≡ plain v
unfolding eval eval_argument eval_caught eval_entry eval_change eval_key eval_suffix eval_pattern eval_operand eval_piece eval_element eval_property
key_plain v = simp the_lemmas

pub key_computed : (e : Rc Form Global) → eval_key (Computed e) ≡ computed (eval e.value)
unfolding eval eval_argument eval_caught eval_entry eval_change eval_key eval_suffix eval_pattern eval_operand eval_piece eval_element eval_property
key_computed e = simp the_lemmas

pub suffix_member : (optional : Bool) (key : Key) → eval_suffix (Member optional key) ≡ member optional (eval_key key)
unfolding eval eval_argument eval_caught eval_entry eval_change eval_key eval_suffix eval_pattern eval_operand eval_piece eval_element eval_property
suffix_member optional key = simp the_lemmas

pub suffix_call : (optional : Bool) (ms : Rc (Vec Argument Global) Global) → eval_suffix (Call optional ms) ≡ call optional (map eval_argument ms.value.items)
unfolding eval eval_argument eval_caught eval_entry eval_change eval_key eval_suffix eval_pattern eval_operand eval_piece eval_element eval_property
suffix_call optional ms = simp the_lemmas

pub pattern_slot : (i : ℕ) → eval_pattern (Slot i) ≡ slot i
unfolding eval eval_argument eval_caught eval_entry eval_change eval_key eval_suffix eval_pattern eval_operand eval_piece eval_element eval_property
pattern_slot i = simp the_lemmas

pub pattern_properties : (qs : Rc (Vec Property Global) Global) (rest : Option ℕ) → eval_pattern (Properties qs rest) ≡ properties (map eval_property qs.value.items) rest
unfolding eval eval_argument eval_caught eval_entry eval_change eval_key eval_suffix eval_pattern eval_operand eval_piece eval_element eval_property
pattern_properties qs rest = simp the_lemmas

pub pattern_elements : (es : Rc (Vec Element Global) Global) (rest : Option ℕ) → eval_pattern (Elements es rest) ≡ elements (map eval_element es.value.items) rest
unfolding eval eval_argument eval_caught eval_entry eval_change eval_key eval_suffix eval_pattern eval_operand eval_piece eval_element eval_property
pattern_elements es rest = simp the_lemmas

pub operand_is : (x : Operand) → eval_operand (x) ≡ operand x.op (eval x.right.value)
unfolding eval eval_argument eval_caught eval_entry eval_change eval_key eval_suffix eval_pattern eval_operand eval_piece eval_element eval_property
operand_is x = simp the_lemmas

pub piece_is : (x : Piece) → eval_piece (x) ≡ piece (eval x.value.value) x.after
unfolding eval eval_argument eval_caught eval_entry eval_change eval_key eval_suffix eval_pattern eval_operand eval_piece eval_element eval_property
piece_is x = simp the_lemmas

element_of : (x : Rc Pattern Global) (d : Option (Rc Form Global)) → eval_element (record { target = x; default = d }) ≡ element (eval_pattern x.value) (form_in d)
unfolding eval eval_argument eval_caught eval_entry eval_change eval_key eval_suffix eval_pattern eval_operand eval_piece eval_element eval_property
element_of x None = simp the_lemmas
element_of x (Some e) = simp the_lemmas

pub element_is : (x : Element) → eval_element x ≡ element (eval_pattern x.target.value) (form_in x.default)
element_is x = element_of x.target x.default

pub property_is : (x : Property) → eval_property (x) ≡ record { key = x.key; element = eval_element x.element }
unfolding eval eval_argument eval_caught eval_entry eval_change eval_key eval_suffix eval_pattern eval_operand eval_piece eval_element eval_property
property_is x = simp the_lemmas
