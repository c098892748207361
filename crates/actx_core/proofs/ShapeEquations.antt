-- What each kind of form says, from what its parts say.
use Rattle.std.proofs.Common.{◌≡◌, ◌∙◌, ap, ℕ, Bool, List, Option, Some, None, map}
use Rattle.std.proofs.lemmas.Simd.{map-map}
use Rattle.std.specs.Prelude.{Vec}
use Rattle.std.specs.declared.rc.Rc.{Rc}
use Rattle.std.specs.declared.alloc.Global.{Global}
use Rattle.actx_text.specs.declared.body_id.BodyId.{BodyId}
use Rattle.actx_tree.specs.declared.operator.StepOp.{StepOp}
use Rattle.actx_value.specs.declared.operator.BinaryOp.{BinaryOp}
use Rattle.actx_value.specs.declared.operator.UnaryOp.{UnaryOp}
use Rattle.actx_value.specs.declared.value.Value.{Value}
use Rattle.actx_code.specs.declared.item.ClassMember.{ClassMember}
use Rattle.actx_code.specs.declared.item.Declared.{Declared}
use Rattle.actx_code.specs.declared.item.Logic.{Logic}
use Rattle.actx_code.specs.declared.form.Form.{Form, Form-F, roll-Form, the_lemmas}
use Rattle.actx_code.specs.declared.form.Form.TheFolds.{fold-roll-Form}
use Rattle.actx_code.specs.declared.form.Form.TheVariants as f
use Rattle.actx_code.specs.declared.item.Argument.{Argument}
use Rattle.actx_code.specs.declared.item.Argument.TheVariants as f_argument
use Rattle.actx_code.specs.declared.item.Caught.{Caught}
use Rattle.actx_code.specs.declared.item.Caught.TheVariants as f_caught
use Rattle.actx_code.specs.declared.item.Entry.{Entry}
use Rattle.actx_code.specs.declared.item.Entry.TheVariants as f_entry
use Rattle.actx_code.specs.declared.member.Change.{Change}
use Rattle.actx_code.specs.declared.member.Change.TheVariants as f_change
use Rattle.actx_code.specs.declared.member.Key.{Key}
use Rattle.actx_code.specs.declared.member.Key.TheVariants as f_key
use Rattle.actx_code.specs.declared.member.Suffix.{Suffix}
use Rattle.actx_code.specs.declared.member.Suffix.TheVariants as f_suffix
use Rattle.actx_code.specs.declared.pattern.Pattern.{Pattern}
use Rattle.actx_code.specs.declared.pattern.Pattern.TheVariants as f_pattern
use Rattle.actx_code.specs.declared.item.Operand.{Operand, roll-Operand}
use Rattle.actx_code.specs.declared.item.Piece.{Piece, roll-Piece}
use Rattle.actx_code.specs.declared.pattern.Element.{Element, roll-Element}
use Rattle.actx_code.specs.declared.pattern.Property.{Property, roll-Property}
use Rattle.actx_core.specs.declared.core_form.Core.{Core}
use Rattle.actx_core.specs.declared.core_form.Core.TheVariants as forms
use Rattle.actx_core.specs.declared.core_parts.CoreArgument.{CoreArgument}
use Rattle.actx_core.specs.declared.core_parts.CoreArgument.TheVariants as argument
use Rattle.actx_core.specs.declared.core_parts.CoreCaught.{CoreCaught}
use Rattle.actx_core.specs.declared.core_parts.CoreCaught.TheVariants as caught
use Rattle.actx_core.specs.declared.core_parts.CoreEntry.{CoreEntry}
use Rattle.actx_core.specs.declared.core_parts.CoreEntry.TheVariants as entry
use Rattle.actx_core.specs.declared.core_parts.CoreChange.{CoreChange}
use Rattle.actx_core.specs.declared.core_parts.CoreChange.TheVariants as change
use Rattle.actx_core.specs.declared.core_parts.CoreKey.{CoreKey}
use Rattle.actx_core.specs.declared.core_parts.CoreKey.TheVariants as key
use Rattle.actx_core.specs.declared.core_parts.CoreSuffix.{CoreSuffix}
use Rattle.actx_core.specs.declared.core_parts.CoreSuffix.TheVariants as suffix
use Rattle.actx_core.specs.declared.core_parts.CorePattern.{CorePattern}
use Rattle.actx_core.specs.declared.core_parts.CorePattern.TheVariants as pattern
use Rattle.actx_core.specs.declared.core_parts.CoreOperand.{CoreOperand}
use Rattle.actx_core.specs.declared.core_parts.CoreOperand.TheVariants as operand
use Rattle.actx_core.specs.declared.core_parts.CorePiece.{CorePiece}
use Rattle.actx_core.specs.declared.core_parts.CorePiece.TheVariants as piece
use Rattle.actx_core.specs.declared.core_parts.CoreElement.{CoreElement}
use Rattle.actx_core.specs.declared.core_parts.CoreElement.TheVariants as element
use Rattle.actx_core.specs.declared.core_parts.CoreProperty.{CoreProperty}
use Rattle.actx_core.specs.declared.core_parts.CoreProperty.TheVariants as property
use Rattle.actx_core.specs.Shapes.{core_form, core_argument, core_caught, core_entry, core_change, core_key, core_suffix, core_pattern, core_operand, core_piece, core_element, core_property, shared_form, forms_of, caught_of, form_step, argument_step, caught_step, entry_step, change_step, key_step, suffix_step, pattern_step, operand_step, piece_step, element_step, property_step}

pub core_form-Literal : (v : Value) → core_form (f.Literal v) ≡ (forms.Literal v)
unfolding core_form core_argument core_caught core_entry core_change core_key core_suffix core_pattern core_operand core_piece core_element core_property
core_form-Literal v = simp the_lemmas

pub core_form-Name : (hops : ℕ) (slot : ℕ) → core_form (f.Name hops slot) ≡ (forms.Name hops slot)
unfolding core_form core_argument core_caught core_entry core_change core_key core_suffix core_pattern core_operand core_piece core_element core_property
core_form-Name hops slot = simp the_lemmas

pub core_form-ChangeName : (hops : ℕ) (slot : ℕ) (c : Change) → core_form (f.ChangeName hops slot c) ≡ (forms.ChangeName hops slot (core_change c))
unfolding core_form core_argument core_caught core_entry core_change core_key core_suffix core_pattern core_operand core_piece core_element core_property
core_form-ChangeName hops slot c = simp the_lemmas

pub core_form-ChangeMember : (o : Rc Form Global) (k : Key) (c : Change) → core_form (f.ChangeMember o k c) ≡ (forms.ChangeMember (core_form o.value) (core_key k) (core_change c))
unfolding core_form core_argument core_caught core_entry core_change core_key core_suffix core_pattern core_operand core_piece core_element core_property
core_form-ChangeMember o k c = simp the_lemmas

pub core_form-Delete : (base : Rc Form Global) (ss : Rc (Vec Suffix Global) Global) (optional : Bool) (k : Key) → core_form (f.Delete base ss optional k) ≡ (forms.Delete (core_form base.value) (map core_suffix ss.value.items) optional (core_key k))
unfolding core_form core_argument core_caught core_entry core_change core_key core_suffix core_pattern core_operand core_piece core_element core_property
core_form-Delete base ss optional k = simp the_lemmas

pub core_form-Unary : (op : UnaryOp) (x : Rc Form Global) → core_form (f.Unary op x) ≡ (forms.Unary op (core_form x.value))
unfolding core_form core_argument core_caught core_entry core_change core_key core_suffix core_pattern core_operand core_piece core_element core_property
core_form-Unary op x = simp the_lemmas

pub core_form-Not : (x : Rc Form Global) → core_form (f.Not x) ≡ (forms.Not (core_form x.value))
unfolding core_form core_argument core_caught core_entry core_change core_key core_suffix core_pattern core_operand core_piece core_element core_property
core_form-Not x = simp the_lemmas

pub core_form-Void : (x : Rc Form Global) → core_form (f.Void x) ≡ (forms.Void (core_form x.value))
unfolding core_form core_argument core_caught core_entry core_change core_key core_suffix core_pattern core_operand core_piece core_element core_property
core_form-Void x = simp the_lemmas

pub core_form-Operators : (first : Rc Form Global) (os : Rc (Vec Operand Global) Global) → core_form (f.Operators first os) ≡ (forms.Operators (core_form first.value) (map core_operand os.value.items))
unfolding core_form core_argument core_caught core_entry core_change core_key core_suffix core_pattern core_operand core_piece core_element core_property
core_form-Operators first os = simp the_lemmas

pub core_form-Logical : (op : Logic) (first : Rc Form Global) (xs : Rc (Vec (Rc Form Global) Global) Global) → core_form (f.Logical op first xs) ≡ (forms.Logical op (core_form first.value) (map shared_form xs.value.items))
unfolding core_form core_argument core_caught core_entry core_change core_key core_suffix core_pattern core_operand core_piece core_element core_property
core_form-Logical op first xs = let e : f.Logical op first xs ≡ roll-Form (Form-F.Logical op first xs) = simp the_lemmas in ap core_form e ∙ (fold-roll-Form Core CoreArgument CoreCaught CoreEntry CoreChange CoreKey CoreSuffix CorePattern CoreOperand CorePiece CoreElement CoreProperty form_step argument_step caught_step entry_step change_step key_step suffix_step pattern_step operand_step piece_step element_step property_step (Form-F.Logical op first xs) ∙ ap (λ ys. forms.Logical op (core_form first.value) ys) (map-map (λ r. r.value) _ xs.value.items))

pub core_form-If : (test : Rc Form Global) (chosen : Rc Form Global) (other : Rc Form Global) → core_form (f.If test chosen other) ≡ (forms.If (core_form test.value) (core_form chosen.value) (core_form other.value))
unfolding core_form core_argument core_caught core_entry core_change core_key core_suffix core_pattern core_operand core_piece core_element core_property
core_form-If test chosen other = simp the_lemmas

pub core_form-Sequence : (xs : Rc (Vec (Rc Form Global) Global) Global) → core_form (f.Sequence xs) ≡ (forms.Sequence (map shared_form xs.value.items))
unfolding core_form core_argument core_caught core_entry core_change core_key core_suffix core_pattern core_operand core_piece core_element core_property
core_form-Sequence xs = let e : f.Sequence xs ≡ roll-Form (Form-F.Sequence xs) = simp the_lemmas in ap core_form e ∙ (fold-roll-Form Core CoreArgument CoreCaught CoreEntry CoreChange CoreKey CoreSuffix CorePattern CoreOperand CorePiece CoreElement CoreProperty form_step argument_step caught_step entry_step change_step key_step suffix_step pattern_step operand_step piece_step element_step property_step (Form-F.Sequence xs) ∙ ap forms.Sequence (map-map (λ r. r.value) _ xs.value.items))

pub core_form-Template : (first : Value) (pieces : Rc (Vec Piece Global) Global) → core_form (f.Template first pieces) ≡ (forms.Template first (map core_piece pieces.value.items))
unfolding core_form core_argument core_caught core_entry core_change core_key core_suffix core_pattern core_operand core_piece core_element core_property
core_form-Template first pieces = simp the_lemmas

pub core_form-Suffixes : (base : Rc Form Global) (ss : Rc (Vec Suffix Global) Global) → core_form (f.Suffixes base ss) ≡ (forms.Suffixes (core_form base.value) (map core_suffix ss.value.items))
unfolding core_form core_argument core_caught core_entry core_change core_key core_suffix core_pattern core_operand core_piece core_element core_property
core_form-Suffixes base ss = simp the_lemmas

pub core_form-SuperMember : (hops : ℕ) (k : Value) (ss : Rc (Vec Suffix Global) Global) → core_form (f.SuperMember hops k ss) ≡ (forms.SuperMember hops k (map core_suffix ss.value.items))
unfolding core_form core_argument core_caught core_entry core_change core_key core_suffix core_pattern core_operand core_piece core_element core_property
core_form-SuperMember hops k ss = simp the_lemmas

pub core_form-New : (callee : Rc Form Global) (arguments : Rc (Vec Argument Global) Global) → core_form (f.New callee arguments) ≡ (forms.New (core_form callee.value) (map core_argument arguments.value.items))
unfolding core_form core_argument core_caught core_entry core_change core_key core_suffix core_pattern core_operand core_piece core_element core_property
core_form-New callee arguments = simp the_lemmas

pub core_form-SuperCall : (hops : ℕ) (arguments : Rc (Vec Argument Global) Global) → core_form (f.SuperCall hops arguments) ≡ (forms.SuperCall hops (map core_argument arguments.value.items))
unfolding core_form core_argument core_caught core_entry core_change core_key core_suffix core_pattern core_operand core_piece core_element core_property
core_form-SuperCall hops arguments = simp the_lemmas

pub core_form-Array : (ms : Rc (Vec Argument Global) Global) → core_form (f.Array ms) ≡ (forms.Array (map core_argument ms.value.items))
unfolding core_form core_argument core_caught core_entry core_change core_key core_suffix core_pattern core_operand core_piece core_element core_property
core_form-Array ms = simp the_lemmas

pub core_form-Object : (es : Rc (Vec Entry Global) Global) → core_form (f.Object es) ≡ (forms.Object (map core_entry es.value.items))
unfolding core_form core_argument core_caught core_entry core_change core_key core_suffix core_pattern core_operand core_piece core_element core_property
core_form-Object es = simp the_lemmas

pub core_form-Function : (body : BodyId) → core_form (f.Function body) ≡ (forms.Function body)
unfolding core_form core_argument core_caught core_entry core_change core_key core_suffix core_pattern core_operand core_piece core_element core_property
core_form-Function body = simp the_lemmas

pub core_form-Class : (constructor : BodyId) (parent : Option (Rc Form Global)) (prototype : Value) (ms : Rc (Vec ClassMember Global) Global) → core_form (f.Class constructor parent prototype ms) ≡ (forms.Class constructor (forms_of parent) prototype ms.value.items)
unfolding core_form core_argument core_caught core_entry core_change core_key core_suffix core_pattern core_operand core_piece core_element core_property
core_form-Class constructor None prototype ms = simp the_lemmas
core_form-Class constructor (Some parent) prototype ms = simp the_lemmas

pub core_form-Init : (slot : ℕ) (x : Rc Form Global) → core_form (f.Init slot x) ≡ (forms.Init slot (core_form x.value))
unfolding core_form core_argument core_caught core_entry core_change core_key core_suffix core_pattern core_operand core_piece core_element core_property
core_form-Init slot x = simp the_lemmas

pub core_form-Bind : (target : Rc Pattern Global) (x : Rc Form Global) → core_form (f.Bind target x) ≡ (forms.Bind (core_pattern target.value) (core_form x.value))
unfolding core_form core_argument core_caught core_entry core_change core_key core_suffix core_pattern core_operand core_piece core_element core_property
core_form-Bind target x = simp the_lemmas

pub core_form-Block : (cells : ℕ) (fs : Rc (Vec Declared Global) Global) (body : Rc Form Global) → core_form (f.Block cells fs body) ≡ (forms.Block cells fs.value.items (core_form body.value))
unfolding core_form core_argument core_caught core_entry core_change core_key core_suffix core_pattern core_operand core_piece core_element core_property
core_form-Block cells fs body = simp the_lemmas

pub core_form-While : (test : Rc Form Global) (body : Rc Form Global) → core_form (f.While test body) ≡ (forms.While (core_form test.value) (core_form body.value))
unfolding core_form core_argument core_caught core_entry core_change core_key core_suffix core_pattern core_operand core_piece core_element core_property
core_form-While test body = simp the_lemmas

pub core_form-DoWhile : (body : Rc Form Global) (test : Rc Form Global) → core_form (f.DoWhile body test) ≡ (forms.DoWhile (core_form body.value) (core_form test.value))
unfolding core_form core_argument core_caught core_entry core_change core_key core_suffix core_pattern core_operand core_piece core_element core_property
core_form-DoWhile body test = simp the_lemmas

pub core_form-For : (first : Rc Form Global) (test : Rc Form Global) (update : Rc Form Global) (body : Rc Form Global) → core_form (f.For first test update body) ≡ (forms.For (core_form first.value) (core_form test.value) (core_form update.value) (core_form body.value))
unfolding core_form core_argument core_caught core_entry core_change core_key core_suffix core_pattern core_operand core_piece core_element core_property
core_form-For first test update body = simp the_lemmas

pub core_form-ForLet : (cells : ℕ) (first : Rc Form Global) (test : Rc Form Global) (update : Rc Form Global) (body : Rc Form Global) → core_form (f.ForLet cells first test update body) ≡ (forms.ForLet cells (core_form first.value) (core_form test.value) (core_form update.value) (core_form body.value))
unfolding core_form core_argument core_caught core_entry core_change core_key core_suffix core_pattern core_operand core_piece core_element core_property
core_form-ForLet cells first test update body = simp the_lemmas

pub core_form-ForOf : (cells : ℕ) (target : Rc Pattern Global) (x : Rc Form Global) (body : Rc Form Global) → core_form (f.ForOf cells target x body) ≡ (forms.ForOf cells (core_pattern target.value) (core_form x.value) (core_form body.value))
unfolding core_form core_argument core_caught core_entry core_change core_key core_suffix core_pattern core_operand core_piece core_element core_property
core_form-ForOf cells target x body = simp the_lemmas

pub core_form-Break : (n : ℕ) → core_form (f.Break n) ≡ (forms.Break n)
unfolding core_form core_argument core_caught core_entry core_change core_key core_suffix core_pattern core_operand core_piece core_element core_property
core_form-Break n = simp the_lemmas

pub core_form-Continue : (n : ℕ) → core_form (f.Continue n) ≡ (forms.Continue n)
unfolding core_form core_argument core_caught core_entry core_change core_key core_suffix core_pattern core_operand core_piece core_element core_property
core_form-Continue n = simp the_lemmas

pub core_form-Return : (x : Rc Form Global) → core_form (f.Return x) ≡ (forms.Return (core_form x.value))
unfolding core_form core_argument core_caught core_entry core_change core_key core_suffix core_pattern core_operand core_piece core_element core_property
core_form-Return x = simp the_lemmas

pub core_form-Throw : (x : Rc Form Global) → core_form (f.Throw x) ≡ (forms.Throw (core_form x.value))
unfolding core_form core_argument core_caught core_entry core_change core_key core_suffix core_pattern core_operand core_piece core_element core_property
core_form-Throw x = simp the_lemmas

pub core_form-Try : (block : Rc Form Global) (clause : Option (Rc Caught Global)) (final : Option (Rc Form Global)) → core_form (f.Try block clause final) ≡ (forms.Try (core_form block.value) (caught_of clause) (forms_of final))
unfolding core_form core_argument core_caught core_entry core_change core_key core_suffix core_pattern core_operand core_piece core_element core_property
core_form-Try block None None = simp the_lemmas
core_form-Try block None (Some final) = simp the_lemmas
core_form-Try block (Some clause) None = simp the_lemmas
core_form-Try block (Some clause) (Some final) = simp the_lemmas

pub core_form-Yield : (x : Rc Form Global) → core_form (f.Yield x) ≡ (forms.Yield (core_form x.value))
unfolding core_form core_argument core_caught core_entry core_change core_key core_suffix core_pattern core_operand core_piece core_element core_property
core_form-Yield x = simp the_lemmas

pub core_form-Await : (x : Rc Form Global) → core_form (f.Await x) ≡ (forms.Await (core_form x.value))
unfolding core_form core_argument core_caught core_entry core_change core_key core_suffix core_pattern core_operand core_piece core_element core_property
core_form-Await x = simp the_lemmas

pub core_form-Parameter : (index : ℕ) (x : Rc Element Global) → core_form (f.Parameter index x) ≡ (forms.Parameter index (core_element x.value))
unfolding core_form core_argument core_caught core_entry core_change core_key core_suffix core_pattern core_operand core_piece core_element core_property
core_form-Parameter index x = simp the_lemmas

pub core_form-RestParameter : (index : ℕ) (target : Rc Pattern Global) → core_form (f.RestParameter index target) ≡ (forms.RestParameter index (core_pattern target.value))
unfolding core_form core_argument core_caught core_entry core_change core_key core_suffix core_pattern core_operand core_piece core_element core_property
core_form-RestParameter index target = simp the_lemmas

pub core_form-Begin : core_form f.Begin ≡ forms.Begin
unfolding core_form core_argument core_caught core_entry core_change core_key core_suffix core_pattern core_operand core_piece core_element core_property
core_form-Begin = simp the_lemmas

pub core_argument-One : (x : Rc Form Global) → core_argument (f_argument.One x) ≡ (argument.One (core_form x.value))
unfolding core_form core_argument core_caught core_entry core_change core_key core_suffix core_pattern core_operand core_piece core_element core_property
core_argument-One x = simp the_lemmas

pub core_argument-Spread : (x : Rc Form Global) → core_argument (f_argument.Spread x) ≡ (argument.Spread (core_form x.value))
unfolding core_form core_argument core_caught core_entry core_change core_key core_suffix core_pattern core_operand core_piece core_element core_property
core_argument-Spread x = simp the_lemmas

pub core_caught-Unbound : (b : Rc Form Global) → core_caught (f_caught.Unbound b) ≡ (caught.Unbound (core_form b.value))
unfolding core_form core_argument core_caught core_entry core_change core_key core_suffix core_pattern core_operand core_piece core_element core_property
core_caught-Unbound b = simp the_lemmas

pub core_caught-Bound : (cells : ℕ) (target : Rc Pattern Global) (b : Rc Form Global) → core_caught (f_caught.Bound cells target b) ≡ (caught.Bound cells (core_pattern target.value) (core_form b.value))
unfolding core_form core_argument core_caught core_entry core_change core_key core_suffix core_pattern core_operand core_piece core_element core_property
core_caught-Bound cells target b = simp the_lemmas

pub core_entry-Pair : (k : Key) (x : Rc Form Global) → core_entry (f_entry.Pair k x) ≡ (entry.Pair (core_key k) (core_form x.value))
unfolding core_form core_argument core_caught core_entry core_change core_key core_suffix core_pattern core_operand core_piece core_element core_property
core_entry-Pair k x = simp the_lemmas

pub core_entry-Method : (k : Key) (body : BodyId) → core_entry (f_entry.Method k body) ≡ (entry.Method (core_key k) body)
unfolding core_form core_argument core_caught core_entry core_change core_key core_suffix core_pattern core_operand core_piece core_element core_property
core_entry-Method k body = simp the_lemmas

pub core_entry-Copied : (x : Rc Form Global) → core_entry (f_entry.Copied x) ≡ (entry.Copied (core_form x.value))
unfolding core_form core_argument core_caught core_entry core_change core_key core_suffix core_pattern core_operand core_piece core_element core_property
core_entry-Copied x = simp the_lemmas

pub core_change-Plainly : (x : Rc Form Global) → core_change (f_change.Plainly x) ≡ (change.Plainly (core_form x.value))
unfolding core_form core_argument core_caught core_entry core_change core_key core_suffix core_pattern core_operand core_piece core_element core_property
core_change-Plainly x = simp the_lemmas

pub core_change-WithOperator : (op : BinaryOp) (x : Rc Form Global) → core_change (f_change.WithOperator op x) ≡ (change.WithOperator op (core_form x.value))
unfolding core_form core_argument core_caught core_entry core_change core_key core_suffix core_pattern core_operand core_piece core_element core_property
core_change-WithOperator op x = simp the_lemmas

pub core_change-WithLogic : (op : Logic) (x : Rc Form Global) → core_change (f_change.WithLogic op x) ≡ (change.WithLogic op (core_form x.value))
unfolding core_form core_argument core_caught core_entry core_change core_key core_suffix core_pattern core_operand core_piece core_element core_property
core_change-WithLogic op x = simp the_lemmas

pub core_change-StepBefore : (op : StepOp) → core_change (f_change.StepBefore op) ≡ (change.StepBefore op)
unfolding core_form core_argument core_caught core_entry core_change core_key core_suffix core_pattern core_operand core_piece core_element core_property
core_change-StepBefore op = simp the_lemmas

pub core_change-StepAfter : (op : StepOp) → core_change (f_change.StepAfter op) ≡ (change.StepAfter op)
unfolding core_form core_argument core_caught core_entry core_change core_key core_suffix core_pattern core_operand core_piece core_element core_property
core_change-StepAfter op = simp the_lemmas

pub core_key-Plain : (v : Value) → core_key (f_key.Plain v) ≡ (key.Plain v)
unfolding core_form core_argument core_caught core_entry core_change core_key core_suffix core_pattern core_operand core_piece core_element core_property
core_key-Plain v = simp the_lemmas

pub core_key-Computed : (x : Rc Form Global) → core_key (f_key.Computed x) ≡ (key.Computed (core_form x.value))
unfolding core_form core_argument core_caught core_entry core_change core_key core_suffix core_pattern core_operand core_piece core_element core_property
core_key-Computed x = simp the_lemmas

pub core_suffix-Member : (optional : Bool) (k : Key) → core_suffix (f_suffix.Member optional k) ≡ (suffix.Member optional (core_key k))
unfolding core_form core_argument core_caught core_entry core_change core_key core_suffix core_pattern core_operand core_piece core_element core_property
core_suffix-Member optional k = simp the_lemmas

pub core_suffix-Call : (optional : Bool) (arguments : Rc (Vec Argument Global) Global) → core_suffix (f_suffix.Call optional arguments) ≡ (suffix.Call optional (map core_argument arguments.value.items))
unfolding core_form core_argument core_caught core_entry core_change core_key core_suffix core_pattern core_operand core_piece core_element core_property
core_suffix-Call optional arguments = simp the_lemmas

pub core_pattern-Slot : (slot : ℕ) → core_pattern (f_pattern.Slot slot) ≡ (pattern.Slot slot)
unfolding core_form core_argument core_caught core_entry core_change core_key core_suffix core_pattern core_operand core_piece core_element core_property
core_pattern-Slot slot = simp the_lemmas

pub core_pattern-Properties : (qs : Rc (Vec Property Global) Global) (rest : Option ℕ) → core_pattern (f_pattern.Properties qs rest) ≡ (pattern.Properties (map core_property qs.value.items) rest)
unfolding core_form core_argument core_caught core_entry core_change core_key core_suffix core_pattern core_operand core_piece core_element core_property
core_pattern-Properties qs rest = simp the_lemmas

pub core_pattern-Elements : (es : Rc (Vec Element Global) Global) (rest : Option ℕ) → core_pattern (f_pattern.Elements es rest) ≡ (pattern.Elements (map core_element es.value.items) rest)
unfolding core_form core_argument core_caught core_entry core_change core_key core_suffix core_pattern core_operand core_piece core_element core_property
core_pattern-Elements es rest = simp the_lemmas

pub core_operand-Operand : (op : BinaryOp) (right : Rc Form Global) → core_operand (roll-Operand (record { op = op; right = right })) ≡ (operand.Operand op (core_form right.value))
unfolding core_form core_argument core_caught core_entry core_change core_key core_suffix core_pattern core_operand core_piece core_element core_property
core_operand-Operand op right = simp the_lemmas

pub core_piece-Piece : (value : Rc Form Global) (after : Option Value) → core_piece (roll-Piece (record { value = value; after = after })) ≡ (piece.Piece (core_form value.value) after)
unfolding core_form core_argument core_caught core_entry core_change core_key core_suffix core_pattern core_operand core_piece core_element core_property
core_piece-Piece value after = simp the_lemmas

pub core_element-Element : (target : Rc Pattern Global) (default : Option (Rc Form Global)) → core_element (roll-Element (record { target = target; default = default })) ≡ (element.Element (core_pattern target.value) (forms_of default))
unfolding core_form core_argument core_caught core_entry core_change core_key core_suffix core_pattern core_operand core_piece core_element core_property
core_element-Element target None = simp the_lemmas
core_element-Element target (Some default) = simp the_lemmas

pub core_property-Property : (key : Value) (element : Element) → core_property (roll-Property (record { key = key; element = element })) ≡ (property.Property key (core_element element))
unfolding core_form core_argument core_caught core_entry core_change core_key core_suffix core_pattern core_operand core_piece core_element core_property
core_property-Property key element = simp the_lemmas

-- what each kind of form says, from what its parts say
pub ruleset shape_equations = (
  core_form-Literal,
  core_form-Name,
  core_form-ChangeName,
  core_form-ChangeMember,
  core_form-Delete,
  core_form-Unary,
  core_form-Not,
  core_form-Void,
  core_form-Operators,
  core_form-Logical,
  core_form-If,
  core_form-Sequence,
  core_form-Template,
  core_form-Suffixes,
  core_form-SuperMember,
  core_form-New,
  core_form-SuperCall,
  core_form-Array,
  core_form-Object,
  core_form-Function,
  core_form-Class,
  core_form-Init,
  core_form-Bind,
  core_form-Block,
  core_form-While,
  core_form-DoWhile,
  core_form-For,
  core_form-ForLet,
  core_form-ForOf,
  core_form-Break,
  core_form-Continue,
  core_form-Return,
  core_form-Throw,
  core_form-Try,
  core_form-Yield,
  core_form-Await,
  core_form-Parameter,
  core_form-RestParameter,
  core_form-Begin,
  core_argument-One,
  core_argument-Spread,
  core_caught-Unbound,
  core_caught-Bound,
  core_entry-Pair,
  core_entry-Method,
  core_entry-Copied,
  core_change-Plainly,
  core_change-WithOperator,
  core_change-WithLogic,
  core_change-StepBefore,
  core_change-StepAfter,
  core_key-Plain,
  core_key-Computed,
  core_suffix-Member,
  core_suffix-Call,
  core_pattern-Slot,
  core_pattern-Properties,
  core_pattern-Elements,
  core_operand-Operand,
  core_piece-Piece,
  core_element-Element,
  core_property-Property,
)
