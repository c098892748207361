-- Every form is local.
use Rattle.std.proofs.Common.{List, [], ◌∷◌, map, Option, Some, None, subst, sym}
use Rattle.std.specs.declared.rc.Rc.{Rc}
use Rattle.std.specs.declared.alloc.Global.{Global}
use Rattle.actx_code.specs.declared.form.Form.{Form, Form-F}
use Rattle.actx_code.specs.declared.item.Argument.{Argument, Argument-F}
use Rattle.actx_code.specs.declared.item.Caught.{Caught, Caught-F}
use Rattle.actx_code.specs.declared.item.Entry.{Entry, Entry-F}
use Rattle.actx_code.specs.declared.member.Change.{Change, Change-F}
use Rattle.actx_code.specs.declared.member.Key.{Key, Key-F}
use Rattle.actx_code.specs.declared.member.Suffix.{Suffix, Suffix-F}
use Rattle.actx_code.specs.declared.pattern.Pattern.{Pattern, Pattern-F}
use Rattle.actx_code.specs.declared.item.Operand.{Operand, Operand-F}
use Rattle.actx_code.specs.declared.item.Piece.{Piece, Piece-F}
use Rattle.actx_code.specs.declared.pattern.Element.{Element, Element-F}
use Rattle.actx_code.specs.declared.pattern.Property.{Property, Property-F}
use Rattle.actx_code.specs.declared.form.Form.TheFolds.{ind-Form, ind-Pattern, map-Form, fold-roll-Form, map-Argument, fold-roll-Argument, map-Caught, fold-roll-Caught, map-Entry, fold-roll-Entry, map-Change, fold-roll-Change, map-Key, fold-roll-Key, map-Suffix, fold-roll-Suffix, map-Pattern, fold-roll-Pattern, map-Operand, fold-roll-Operand, map-Piece, fold-roll-Piece, map-Element, fold-roll-Element, map-Property, fold-roll-Property}
use Rattle.actx_code.specs.declared.form.Form.TheViews.{roll-Form, roll-Argument, roll-Caught, roll-Entry, roll-Change, roll-Key, roll-Suffix, roll-Pattern, roll-Operand, roll-Piece, roll-Element, roll-Property}
use Rattle.actx_want.specs.declared.completion.Completion.TheVariants.{Normal, Break, Continue}
use Rattle.actx_want.specs.Run.{Meaning}
use Rattle.actx_want.specs.Names.{Changing}
use Rattle.actx_want.specs.Operators.{Chained}
use Rattle.actx_want.specs.Lists.{Listed, Keyed, Filling}
use Rattle.actx_want.specs.Members.{Suffixed}
use Rattle.actx_want.specs.Functions.{Binding}
use Rattle.actx_want.specs.Patterns.{PropertyBinding}
use Rattle.actx_want.specs.Bodies.{values_of, form_step, argument_step, caught_step, entry_step, change_step, key_step, suffix_step, pattern_step, operand_step, piece_step, element_step, property_step, eval, eval_argument, eval_caught, eval_entry, eval_change, eval_key, eval_suffix, eval_pattern, eval_operand, eval_piece, eval_element, eval_property}
use Rattle.actx_want.specs.Locality.{IsLocal, IsLocalAt, IsLocalChange, IsLocalKey, IsLocalMember, IsLocalSuffix, IsLocalProperty}
use Rattle.actx_want.proofs.Local.{Alls}
use Rattle.actx_want.proofs.LocalNames.{name_local, change_name_local, plainly_local, operator_local, logic_local, step_before_local, step_after_local, unary_local, negation_local, nothing_local, operand_local, operators_local, logical_local, piece_local, template_local}
use Rattle.actx_want.proofs.LocalMembers.{one_local, spread_local, array_local, pair_local, method_local, copied_local, object_local, plain_local, computed_local, change_member_local, member_local, call_local, suffixes_local, super_member_local, delete_local, new_local, super_call_local}
use Rattle.actx_want.proofs.LocalPatterns.{function_local, parameter_local, rest_parameter_local, begin_local, yielded_local, awaited_local, slot_local, element_local, properties_local, elements_local, bind_local, class_local}
use Rattle.actx_want.proofs.LocalStatements.{sequence_local, if_local, init_local, block_local, returned_local, thrown_local, while_local, do_local, for_local, let_local, of_local, unbound_local, bound_local, try_local}

-- ---- what is to hold of each kind of part

abbrev FormIsLocal : Form → Type 0
FormIsLocal x = IsLocal (eval x)

abbrev ArgumentIsLocal : Argument → Type 0
ArgumentIsLocal x = IsLocalMember (eval_argument x)

abbrev CaughtIsLocal : Caught → Type 0
CaughtIsLocal x = IsLocalAt (eval_caught x)

abbrev EntryIsLocal : Entry → Type 0
EntryIsLocal x = IsLocalAt (eval_entry x)

abbrev ChangeIsLocal : Change → Type 0
ChangeIsLocal x = IsLocalChange (eval_change x)

abbrev KeyIsLocal : Key → Type 0
KeyIsLocal x = IsLocalKey (eval_key x)

abbrev SuffixIsLocal : Suffix → Type 0
SuffixIsLocal x = IsLocalSuffix (eval_suffix x)

abbrev PatternIsLocal : Pattern → Type 0
PatternIsLocal x = IsLocalAt (eval_pattern x)

abbrev OperandIsLocal : Operand → Type 0
OperandIsLocal x = IsLocalAt (eval_operand x)

abbrev PieceIsLocal : Piece → Type 0
PieceIsLocal x = IsLocalAt (eval_piece x)

abbrev ElementIsLocal : Element → Type 0
ElementIsLocal x = IsLocalAt (eval_element x)

abbrev PropertyIsLocal : Property → Type 0
PropertyIsLocal x = IsLocalProperty (eval_property x)

-- a part with what holds of it
abbrev FormWith : Type 0
FormWith = (x : Form) × FormIsLocal x

abbrev ArgumentWith : Type 0
ArgumentWith = (x : Argument) × ArgumentIsLocal x

abbrev CaughtWith : Type 0
CaughtWith = (x : Caught) × CaughtIsLocal x

abbrev EntryWith : Type 0
EntryWith = (x : Entry) × EntryIsLocal x

abbrev ChangeWith : Type 0
ChangeWith = (x : Change) × ChangeIsLocal x

abbrev KeyWith : Type 0
KeyWith = (x : Key) × KeyIsLocal x

abbrev SuffixWith : Type 0
SuffixWith = (x : Suffix) × SuffixIsLocal x

abbrev PatternWith : Type 0
PatternWith = (x : Pattern) × PatternIsLocal x

abbrev OperandWith : Type 0
OperandWith = (x : Operand) × OperandIsLocal x

abbrev PieceWith : Type 0
PieceWith = (x : Piece) × PieceIsLocal x

abbrev ElementWith : Type 0
ElementWith = (x : Element) × ElementIsLocal x

abbrev PropertyWith : Type 0
PropertyWith = (x : Property) × PropertyIsLocal x

-- a part, with what holds of the parts in it
abbrev FormLayer : Type 0
FormLayer = Form-F FormWith ArgumentWith CaughtWith EntryWith ChangeWith KeyWith SuffixWith PatternWith OperandWith PieceWith ElementWith PropertyWith

abbrev ArgumentLayer : Type 0
ArgumentLayer = Argument-F FormWith ArgumentWith CaughtWith EntryWith ChangeWith KeyWith SuffixWith PatternWith OperandWith PieceWith ElementWith PropertyWith

abbrev CaughtLayer : Type 0
CaughtLayer = Caught-F FormWith ArgumentWith CaughtWith EntryWith ChangeWith KeyWith SuffixWith PatternWith OperandWith PieceWith ElementWith PropertyWith

abbrev EntryLayer : Type 0
EntryLayer = Entry-F FormWith ArgumentWith CaughtWith EntryWith ChangeWith KeyWith SuffixWith PatternWith OperandWith PieceWith ElementWith PropertyWith

abbrev ChangeLayer : Type 0
ChangeLayer = Change-F FormWith ArgumentWith CaughtWith EntryWith ChangeWith KeyWith SuffixWith PatternWith OperandWith PieceWith ElementWith PropertyWith

abbrev KeyLayer : Type 0
KeyLayer = Key-F FormWith ArgumentWith CaughtWith EntryWith ChangeWith KeyWith SuffixWith PatternWith OperandWith PieceWith ElementWith PropertyWith

abbrev SuffixLayer : Type 0
SuffixLayer = Suffix-F FormWith ArgumentWith CaughtWith EntryWith ChangeWith KeyWith SuffixWith PatternWith OperandWith PieceWith ElementWith PropertyWith

abbrev PatternLayer : Type 0
PatternLayer = Pattern-F FormWith ArgumentWith CaughtWith EntryWith ChangeWith KeyWith SuffixWith PatternWith OperandWith PieceWith ElementWith PropertyWith

abbrev OperandLayer : Type 0
OperandLayer = Operand-F FormWith ArgumentWith CaughtWith EntryWith ChangeWith KeyWith SuffixWith PatternWith OperandWith PieceWith ElementWith PropertyWith

abbrev PieceLayer : Type 0
PieceLayer = Piece-F FormWith ArgumentWith CaughtWith EntryWith ChangeWith KeyWith SuffixWith PatternWith OperandWith PieceWith ElementWith PropertyWith

abbrev ElementLayer : Type 0
ElementLayer = Element-F FormWith ArgumentWith CaughtWith EntryWith ChangeWith KeyWith SuffixWith PatternWith OperandWith PieceWith ElementWith PropertyWith

abbrev PropertyLayer : Type 0
PropertyLayer = Property-F FormWith ArgumentWith CaughtWith EntryWith ChangeWith KeyWith SuffixWith PatternWith OperandWith PieceWith ElementWith PropertyWith

abbrev bare_form : FormLayer → Form-F Form Argument Caught Entry Change Key Suffix Pattern Operand Piece Element Property
bare_form y = map-Form FormWith ArgumentWith CaughtWith EntryWith ChangeWith KeyWith SuffixWith PatternWith OperandWith PieceWith ElementWith PropertyWith Form Argument Caught Entry Change Key Suffix Pattern Operand Piece Element Property (λ e. e.0) (λ e. e.0) (λ e. e.0) (λ e. e.0) (λ e. e.0) (λ e. e.0) (λ e. e.0) (λ e. e.0) (λ e. e.0) (λ e. e.0) (λ e. e.0) (λ e. e.0) y

abbrev done_form : Form-F Form Argument Caught Entry Change Key Suffix Pattern Operand Piece Element Property → Form-F Meaning Listed Binding Filling Changing Keyed Suffixed Binding Chained Chained Binding PropertyBinding
done_form y = map-Form Form Argument Caught Entry Change Key Suffix Pattern Operand Piece Element Property Meaning Listed Binding Filling Changing Keyed Suffixed Binding Chained Chained Binding PropertyBinding eval eval_argument eval_caught eval_entry eval_change eval_key eval_suffix eval_pattern eval_operand eval_piece eval_element eval_property y

abbrev bare_argument : ArgumentLayer → Argument-F Form Argument Caught Entry Change Key Suffix Pattern Operand Piece Element Property
bare_argument y = map-Argument FormWith ArgumentWith CaughtWith EntryWith ChangeWith KeyWith SuffixWith PatternWith OperandWith PieceWith ElementWith PropertyWith Form Argument Caught Entry Change Key Suffix Pattern Operand Piece Element Property (λ e. e.0) (λ e. e.0) (λ e. e.0) (λ e. e.0) (λ e. e.0) (λ e. e.0) (λ e. e.0) (λ e. e.0) (λ e. e.0) (λ e. e.0) (λ e. e.0) (λ e. e.0) y

abbrev done_argument : Argument-F Form Argument Caught Entry Change Key Suffix Pattern Operand Piece Element Property → Argument-F Meaning Listed Binding Filling Changing Keyed Suffixed Binding Chained Chained Binding PropertyBinding
done_argument y = map-Argument Form Argument Caught Entry Change Key Suffix Pattern Operand Piece Element Property Meaning Listed Binding Filling Changing Keyed Suffixed Binding Chained Chained Binding PropertyBinding eval eval_argument eval_caught eval_entry eval_change eval_key eval_suffix eval_pattern eval_operand eval_piece eval_element eval_property y

abbrev bare_caught : CaughtLayer → Caught-F Form Argument Caught Entry Change Key Suffix Pattern Operand Piece Element Property
bare_caught y = map-Caught FormWith ArgumentWith CaughtWith EntryWith ChangeWith KeyWith SuffixWith PatternWith OperandWith PieceWith ElementWith PropertyWith Form Argument Caught Entry Change Key Suffix Pattern Operand Piece Element Property (λ e. e.0) (λ e. e.0) (λ e. e.0) (λ e. e.0) (λ e. e.0) (λ e. e.0) (λ e. e.0) (λ e. e.0) (λ e. e.0) (λ e. e.0) (λ e. e.0) (λ e. e.0) y

abbrev done_caught : Caught-F Form Argument Caught Entry Change Key Suffix Pattern Operand Piece Element Property → Caught-F Meaning Listed Binding Filling Changing Keyed Suffixed Binding Chained Chained Binding PropertyBinding
done_caught y = map-Caught Form Argument Caught Entry Change Key Suffix Pattern Operand Piece Element Property Meaning Listed Binding Filling Changing Keyed Suffixed Binding Chained Chained Binding PropertyBinding eval eval_argument eval_caught eval_entry eval_change eval_key eval_suffix eval_pattern eval_operand eval_piece eval_element eval_property y

abbrev bare_entry : EntryLayer → Entry-F Form Argument Caught Entry Change Key Suffix Pattern Operand Piece Element Property
bare_entry y = map-Entry FormWith ArgumentWith CaughtWith EntryWith ChangeWith KeyWith SuffixWith PatternWith OperandWith PieceWith ElementWith PropertyWith Form Argument Caught Entry Change Key Suffix Pattern Operand Piece Element Property (λ e. e.0) (λ e. e.0) (λ e. e.0) (λ e. e.0) (λ e. e.0) (λ e. e.0) (λ e. e.0) (λ e. e.0) (λ e. e.0) (λ e. e.0) (λ e. e.0) (λ e. e.0) y

abbrev done_entry : Entry-F Form Argument Caught Entry Change Key Suffix Pattern Operand Piece Element Property → Entry-F Meaning Listed Binding Filling Changing Keyed Suffixed Binding Chained Chained Binding PropertyBinding
done_entry y = map-Entry Form Argument Caught Entry Change Key Suffix Pattern Operand Piece Element Property Meaning Listed Binding Filling Changing Keyed Suffixed Binding Chained Chained Binding PropertyBinding eval eval_argument eval_caught eval_entry eval_change eval_key eval_suffix eval_pattern eval_operand eval_piece eval_element eval_property y

abbrev bare_change : ChangeLayer → Change-F Form Argument Caught Entry Change Key Suffix Pattern Operand Piece Element Property
bare_change y = map-Change FormWith ArgumentWith CaughtWith EntryWith ChangeWith KeyWith SuffixWith PatternWith OperandWith PieceWith ElementWith PropertyWith Form Argument Caught Entry Change Key Suffix Pattern Operand Piece Element Property (λ e. e.0) (λ e. e.0) (λ e. e.0) (λ e. e.0) (λ e. e.0) (λ e. e.0) (λ e. e.0) (λ e. e.0) (λ e. e.0) (λ e. e.0) (λ e. e.0) (λ e. e.0) y

abbrev done_change : Change-F Form Argument Caught Entry Change Key Suffix Pattern Operand Piece Element Property → Change-F Meaning Listed Binding Filling Changing Keyed Suffixed Binding Chained Chained Binding PropertyBinding
done_change y = map-Change Form Argument Caught Entry Change Key Suffix Pattern Operand Piece Element Property Meaning Listed Binding Filling Changing Keyed Suffixed Binding Chained Chained Binding PropertyBinding eval eval_argument eval_caught eval_entry eval_change eval_key eval_suffix eval_pattern eval_operand eval_piece eval_element eval_property y

abbrev bare_key : KeyLayer → Key-F Form Argument Caught Entry Change Key Suffix Pattern Operand Piece Element Property
bare_key y = map-Key FormWith ArgumentWith CaughtWith EntryWith ChangeWith KeyWith SuffixWith PatternWith OperandWith PieceWith ElementWith PropertyWith Form Argument Caught Entry Change Key Suffix Pattern Operand Piece Element Property (λ e. e.0) (λ e. e.0) (λ e. e.0) (λ e. e.0) (λ e. e.0) (λ e. e.0) (λ e. e.0) (λ e. e.0) (λ e. e.0) (λ e. e.0) (λ e. e.0) (λ e. e.0) y

abbrev done_key : Key-F Form Argument Caught Entry Change Key Suffix Pattern Operand Piece Element Property → Key-F Meaning Listed Binding Filling Changing Keyed Suffixed Binding Chained Chained Binding PropertyBinding
done_key y = map-Key Form Argument Caught Entry Change Key Suffix Pattern Operand Piece Element Property Meaning Listed Binding Filling Changing Keyed Suffixed Binding Chained Chained Binding PropertyBinding eval eval_argument eval_caught eval_entry eval_change eval_key eval_suffix eval_pattern eval_operand eval_piece eval_element eval_property y

abbrev bare_suffix : SuffixLayer → Suffix-F Form Argument Caught Entry Change Key Suffix Pattern Operand Piece Element Property
bare_suffix y = map-Suffix FormWith ArgumentWith CaughtWith EntryWith ChangeWith KeyWith SuffixWith PatternWith OperandWith PieceWith ElementWith PropertyWith Form Argument Caught Entry Change Key Suffix Pattern Operand Piece Element Property (λ e. e.0) (λ e. e.0) (λ e. e.0) (λ e. e.0) (λ e. e.0) (λ e. e.0) (λ e. e.0) (λ e. e.0) (λ e. e.0) (λ e. e.0) (λ e. e.0) (λ e. e.0) y

abbrev done_suffix : Suffix-F Form Argument Caught Entry Change Key Suffix Pattern Operand Piece Element Property → Suffix-F Meaning Listed Binding Filling Changing Keyed Suffixed Binding Chained Chained Binding PropertyBinding
done_suffix y = map-Suffix Form Argument Caught Entry Change Key Suffix Pattern Operand Piece Element Property Meaning Listed Binding Filling Changing Keyed Suffixed Binding Chained Chained Binding PropertyBinding eval eval_argument eval_caught eval_entry eval_change eval_key eval_suffix eval_pattern eval_operand eval_piece eval_element eval_property y

abbrev bare_pattern : PatternLayer → Pattern-F Form Argument Caught Entry Change Key Suffix Pattern Operand Piece Element Property
bare_pattern y = map-Pattern FormWith ArgumentWith CaughtWith EntryWith ChangeWith KeyWith SuffixWith PatternWith OperandWith PieceWith ElementWith PropertyWith Form Argument Caught Entry Change Key Suffix Pattern Operand Piece Element Property (λ e. e.0) (λ e. e.0) (λ e. e.0) (λ e. e.0) (λ e. e.0) (λ e. e.0) (λ e. e.0) (λ e. e.0) (λ e. e.0) (λ e. e.0) (λ e. e.0) (λ e. e.0) y

abbrev done_pattern : Pattern-F Form Argument Caught Entry Change Key Suffix Pattern Operand Piece Element Property → Pattern-F Meaning Listed Binding Filling Changing Keyed Suffixed Binding Chained Chained Binding PropertyBinding
done_pattern y = map-Pattern Form Argument Caught Entry Change Key Suffix Pattern Operand Piece Element Property Meaning Listed Binding Filling Changing Keyed Suffixed Binding Chained Chained Binding PropertyBinding eval eval_argument eval_caught eval_entry eval_change eval_key eval_suffix eval_pattern eval_operand eval_piece eval_element eval_property y

abbrev bare_operand : OperandLayer → Operand-F Form Argument Caught Entry Change Key Suffix Pattern Operand Piece Element Property
bare_operand y = map-Operand FormWith ArgumentWith CaughtWith EntryWith ChangeWith KeyWith SuffixWith PatternWith OperandWith PieceWith ElementWith PropertyWith Form Argument Caught Entry Change Key Suffix Pattern Operand Piece Element Property (λ e. e.0) (λ e. e.0) (λ e. e.0) (λ e. e.0) (λ e. e.0) (λ e. e.0) (λ e. e.0) (λ e. e.0) (λ e. e.0) (λ e. e.0) (λ e. e.0) (λ e. e.0) y

abbrev done_operand : Operand-F Form Argument Caught Entry Change Key Suffix Pattern Operand Piece Element Property → Operand-F Meaning Listed Binding Filling Changing Keyed Suffixed Binding Chained Chained Binding PropertyBinding
done_operand y = map-Operand Form Argument Caught Entry Change Key Suffix Pattern Operand Piece Element Property Meaning Listed Binding Filling Changing Keyed Suffixed Binding Chained Chained Binding PropertyBinding eval eval_argument eval_caught eval_entry eval_change eval_key eval_suffix eval_pattern eval_operand eval_piece eval_element eval_property y

abbrev bare_piece : PieceLayer → Piece-F Form Argument Caught Entry Change Key Suffix Pattern Operand Piece Element Property
bare_piece y = map-Piece FormWith ArgumentWith CaughtWith EntryWith ChangeWith KeyWith SuffixWith PatternWith OperandWith PieceWith ElementWith PropertyWith Form Argument Caught Entry Change Key Suffix Pattern Operand Piece Element Property (λ e. e.0) (λ e. e.0) (λ e. e.0) (λ e. e.0) (λ e. e.0) (λ e. e.0) (λ e. e.0) (λ e. e.0) (λ e. e.0) (λ e. e.0) (λ e. e.0) (λ e. e.0) y

abbrev done_piece : Piece-F Form Argument Caught Entry Change Key Suffix Pattern Operand Piece Element Property → Piece-F Meaning Listed Binding Filling Changing Keyed Suffixed Binding Chained Chained Binding PropertyBinding
done_piece y = map-Piece Form Argument Caught Entry Change Key Suffix Pattern Operand Piece Element Property Meaning Listed Binding Filling Changing Keyed Suffixed Binding Chained Chained Binding PropertyBinding eval eval_argument eval_caught eval_entry eval_change eval_key eval_suffix eval_pattern eval_operand eval_piece eval_element eval_property y

abbrev bare_element : ElementLayer → Element-F Form Argument Caught Entry Change Key Suffix Pattern Operand Piece Element Property
bare_element y = map-Element FormWith ArgumentWith CaughtWith EntryWith ChangeWith KeyWith SuffixWith PatternWith OperandWith PieceWith ElementWith PropertyWith Form Argument Caught Entry Change Key Suffix Pattern Operand Piece Element Property (λ e. e.0) (λ e. e.0) (λ e. e.0) (λ e. e.0) (λ e. e.0) (λ e. e.0) (λ e. e.0) (λ e. e.0) (λ e. e.0) (λ e. e.0) (λ e. e.0) (λ e. e.0) y

abbrev done_element : Element-F Form Argument Caught Entry Change Key Suffix Pattern Operand Piece Element Property → Element-F Meaning Listed Binding Filling Changing Keyed Suffixed Binding Chained Chained Binding PropertyBinding
done_element y = map-Element Form Argument Caught Entry Change Key Suffix Pattern Operand Piece Element Property Meaning Listed Binding Filling Changing Keyed Suffixed Binding Chained Chained Binding PropertyBinding eval eval_argument eval_caught eval_entry eval_change eval_key eval_suffix eval_pattern eval_operand eval_piece eval_element eval_property y

abbrev bare_property : PropertyLayer → Property-F Form Argument Caught Entry Change Key Suffix Pattern Operand Piece Element Property
bare_property y = map-Property FormWith ArgumentWith CaughtWith EntryWith ChangeWith KeyWith SuffixWith PatternWith OperandWith PieceWith ElementWith PropertyWith Form Argument Caught Entry Change Key Suffix Pattern Operand Piece Element Property (λ e. e.0) (λ e. e.0) (λ e. e.0) (λ e. e.0) (λ e. e.0) (λ e. e.0) (λ e. e.0) (λ e. e.0) (λ e. e.0) (λ e. e.0) (λ e. e.0) (λ e. e.0) y

abbrev done_property : Property-F Form Argument Caught Entry Change Key Suffix Pattern Operand Piece Element Property → Property-F Meaning Listed Binding Filling Changing Keyed Suffixed Binding Chained Chained Binding PropertyBinding
done_property y = map-Property Form Argument Caught Entry Change Key Suffix Pattern Operand Piece Element Property Meaning Listed Binding Filling Changing Keyed Suffixed Binding Chained Chained Binding PropertyBinding eval eval_argument eval_caught eval_entry eval_change eval_key eval_suffix eval_pattern eval_operand eval_piece eval_element eval_property y

-- ---- lists of parts

parts_are : {T A : Type 0} (Q : A → Type 0) (f : T → A) (es : List ((x : T) × Q (f x))) → Alls Q (map f (map (λ e. e.0) es))
parts_are Q f [] = tt
parts_are Q f (e ∷ es) = (e.1, parts_are Q f es)

shared_are : (g : Rc FormWith Global → Rc Form Global) (f : Rc Form Global → Rc Meaning Global) → ((d : Rc FormWith Global) → IsLocal (f (g d)).value) → (es : List (Rc FormWith Global)) → Alls IsLocal (values_of (map f (map g es)))
shared_are g f h [] = tt
shared_are g f h (e ∷ es) = (h e, shared_are g f h es)

-- ---- one kind of part after the other

form_step_local : (y : FormLayer) → IsLocal (form_step (done_form (bare_form y)))
form_step_local (Form-F.Literal v) = λ n p k l h. h (Normal v)
form_step_local (Form-F.Name hops i) = name_local hops i
form_step_local (Form-F.ChangeName hops i c) = change_name_local hops i (eval_change c.0) c.1
form_step_local (Form-F.ChangeMember e key c) = change_member_local (eval e.value.0) (eval_key key.0) (eval_change c.0) e.value.1 key.1 c.1
form_step_local (Form-F.Delete e ss optional key) = delete_local (eval e.value.0) _ optional (eval_key key.0) e.value.1 (parts_are IsLocalSuffix eval_suffix ss.value.items) key.1
form_step_local (Form-F.Unary op e) = unary_local op (eval e.value.0) e.value.1
form_step_local (Form-F.Not e) = negation_local (eval e.value.0) e.value.1
form_step_local (Form-F.Void e) = nothing_local (eval e.value.0) e.value.1
form_step_local (Form-F.Operators e os) = operators_local (eval e.value.0) _ e.value.1 (parts_are IsLocalAt eval_operand os.value.items)
form_step_local (Form-F.Logical op e es) = logical_local op (eval e.value.0) _ e.value.1 (shared_are _ _ (λ d. d.value.1) es.value.items)
form_step_local (Form-F.If t a b) = if_local (eval t.value.0) (eval a.value.0) (eval b.value.0) t.value.1 a.value.1 b.value.1
form_step_local (Form-F.Sequence es) = sequence_local _ (shared_are _ _ (λ d. d.value.1) es.value.items)
form_step_local (Form-F.Template v cs) = template_local v _ (parts_are IsLocalAt eval_piece cs.value.items)
form_step_local (Form-F.Suffixes e ss) = suffixes_local (eval e.value.0) _ e.value.1 (parts_are IsLocalSuffix eval_suffix ss.value.items)
form_step_local (Form-F.SuperMember hops v ss) = super_member_local hops v _ (parts_are IsLocalSuffix eval_suffix ss.value.items)
form_step_local (Form-F.New e ms) = new_local (eval e.value.0) _ e.value.1 (parts_are IsLocalMember eval_argument ms.value.items)
form_step_local (Form-F.SuperCall hops ms) = super_call_local hops _ (parts_are IsLocalMember eval_argument ms.value.items)
form_step_local (Form-F.Array ms) = array_local _ (parts_are IsLocalMember eval_argument ms.value.items)
form_step_local (Form-F.Object es) = object_local _ (parts_are IsLocalAt eval_entry es.value.items)
form_step_local (Form-F.Function body) = function_local body
form_step_local (Form-F.Class c None v ms) = class_local c None v _ tt
form_step_local (Form-F.Class c (Some e) v ms) = class_local c (Some (eval e.value.0)) v _ e.value.1
form_step_local (Form-F.Init i e) = init_local i (eval e.value.0) e.value.1
form_step_local (Form-F.Bind x e) = bind_local (eval_pattern x.value.0) (eval e.value.0) x.value.1 e.value.1
form_step_local (Form-F.Block cells fs e) = block_local cells _ (eval e.value.0) e.value.1
form_step_local (Form-F.While t b) = while_local (eval t.value.0) (eval b.value.0) t.value.1 b.value.1
form_step_local (Form-F.DoWhile b t) = do_local (eval b.value.0) (eval t.value.0) b.value.1 t.value.1
form_step_local (Form-F.For e t u b) = for_local (eval e.value.0) (eval t.value.0) (eval u.value.0) (eval b.value.0) e.value.1 t.value.1 u.value.1 b.value.1
form_step_local (Form-F.ForLet cells e t u b) = let_local cells (eval e.value.0) (eval t.value.0) (eval u.value.0) (eval b.value.0) e.value.1 t.value.1 u.value.1 b.value.1
form_step_local (Form-F.ForOf cells x e b) = of_local cells (eval_pattern x.value.0) (eval e.value.0) (eval b.value.0) x.value.1 e.value.1 b.value.1
form_step_local (Form-F.Break m) = λ n p k l h. h (Break m)
form_step_local (Form-F.Continue m) = λ n p k l h. h (Continue m)
form_step_local (Form-F.Return e) = returned_local (eval e.value.0) e.value.1
form_step_local (Form-F.Throw e) = thrown_local (eval e.value.0) e.value.1
form_step_local (Form-F.Try e None None) = try_local (eval e.value.0) None None e.value.1 tt tt
form_step_local (Form-F.Try e None (Some f)) = try_local (eval e.value.0) None (Some (eval f.value.0)) e.value.1 tt f.value.1
form_step_local (Form-F.Try e (Some c) None) = try_local (eval e.value.0) (Some (eval_caught c.value.0)) None e.value.1 c.value.1 tt
form_step_local (Form-F.Try e (Some c) (Some f)) = try_local (eval e.value.0) (Some (eval_caught c.value.0)) (Some (eval f.value.0)) e.value.1 c.value.1 f.value.1
form_step_local (Form-F.Yield e) = yielded_local (eval e.value.0) e.value.1
form_step_local (Form-F.Await e) = awaited_local (eval e.value.0) e.value.1
form_step_local (Form-F.Parameter i x) = parameter_local i (eval_element x.value.0) x.value.1
form_step_local (Form-F.RestParameter i x) = rest_parameter_local i (eval_pattern x.value.0) x.value.1
form_step_local Form-F.Begin = begin_local

argument_step_local : (y : ArgumentLayer) → IsLocalMember (argument_step (done_argument (bare_argument y)))
argument_step_local (Argument-F.One e) = one_local (eval e.value.0) e.value.1
argument_step_local (Argument-F.Spread e) = spread_local (eval e.value.0) e.value.1

caught_step_local : (y : CaughtLayer) → IsLocalAt (caught_step (done_caught (bare_caught y)))
caught_step_local (Caught-F.Unbound e) = unbound_local (eval e.value.0) e.value.1
caught_step_local (Caught-F.Bound cells x e) = bound_local cells (eval_pattern x.value.0) (eval e.value.0) x.value.1 e.value.1

entry_step_local : (y : EntryLayer) → IsLocalAt (entry_step (done_entry (bare_entry y)))
entry_step_local (Entry-F.Pair key e) = pair_local (eval_key key.0) (eval e.value.0) key.1 e.value.1
entry_step_local (Entry-F.Method key body) = method_local (eval_key key.0) body key.1
entry_step_local (Entry-F.Copied e) = copied_local (eval e.value.0) e.value.1

change_step_local : (y : ChangeLayer) → IsLocalChange (change_step (done_change (bare_change y)))
change_step_local (Change-F.Plainly e) = plainly_local (eval e.value.0) e.value.1
change_step_local (Change-F.WithOperator op e) = operator_local op (eval e.value.0) e.value.1
change_step_local (Change-F.WithLogic op e) = logic_local op (eval e.value.0) e.value.1
change_step_local (Change-F.StepBefore op) = step_before_local op
change_step_local (Change-F.StepAfter op) = step_after_local op

key_step_local : (y : KeyLayer) → IsLocalKey (key_step (done_key (bare_key y)))
key_step_local (Key-F.Plain v) = plain_local v
key_step_local (Key-F.Computed e) = computed_local (eval e.value.0) e.value.1

suffix_step_local : (y : SuffixLayer) → IsLocalSuffix (suffix_step (done_suffix (bare_suffix y)))
suffix_step_local (Suffix-F.Member optional key) = member_local optional (eval_key key.0) key.1
suffix_step_local (Suffix-F.Call optional ms) = call_local optional _ (parts_are IsLocalMember eval_argument ms.value.items)

pattern_step_local : (y : PatternLayer) → IsLocalAt (pattern_step (done_pattern (bare_pattern y)))
pattern_step_local (Pattern-F.Slot i) = slot_local i
pattern_step_local (Pattern-F.Properties qs rest) = properties_local _ rest (parts_are IsLocalProperty eval_property qs.value.items)
pattern_step_local (Pattern-F.Elements es rest) = elements_local _ rest (parts_are IsLocalAt eval_element es.value.items)

operand_step_local : (y : OperandLayer) → IsLocalAt (operand_step (done_operand (bare_operand y)))
operand_step_local y = operand_local y.op (eval y.right.value.0) y.right.value.1

piece_step_local : (y : PieceLayer) → IsLocalAt (piece_step (done_piece (bare_piece y)))
piece_step_local y = piece_local (eval y.value.value.0) y.after y.value.value.1

element_of_local : (x : Rc PatternWith Global) (e : Option (Rc FormWith Global)) → IsLocalAt (element_step (done_element (bare_element (record { target = x; default = e }))))
element_of_local x None = element_local (eval_pattern x.value.0) None x.value.1 tt
element_of_local x (Some e) = element_local (eval_pattern x.value.0) (Some (eval e.value.0)) x.value.1 e.value.1

element_step_local : (y : ElementLayer) → IsLocalAt (element_step (done_element (bare_element y)))
element_step_local y = element_of_local y.target y.default

property_step_local : (y : PropertyLayer) → IsLocalProperty (property_step (done_property (bare_property y)))
property_step_local y = y.element.1

form_case : (y : FormLayer) → FormIsLocal (roll-Form (bare_form y))
unfolding eval eval_argument eval_caught eval_entry eval_change eval_key eval_suffix eval_pattern eval_operand eval_piece eval_element eval_property
form_case y = subst IsLocal (sym (fold-roll-Form Meaning Listed Binding Filling Changing Keyed Suffixed Binding Chained Chained Binding PropertyBinding form_step argument_step caught_step entry_step change_step key_step suffix_step pattern_step operand_step piece_step element_step property_step (bare_form y))) (form_step_local y)

argument_case : (y : ArgumentLayer) → ArgumentIsLocal (roll-Argument (bare_argument y))
unfolding eval eval_argument eval_caught eval_entry eval_change eval_key eval_suffix eval_pattern eval_operand eval_piece eval_element eval_property
argument_case y = subst IsLocalMember (sym (fold-roll-Argument Meaning Listed Binding Filling Changing Keyed Suffixed Binding Chained Chained Binding PropertyBinding form_step argument_step caught_step entry_step change_step key_step suffix_step pattern_step operand_step piece_step element_step property_step (bare_argument y))) (argument_step_local y)

caught_case : (y : CaughtLayer) → CaughtIsLocal (roll-Caught (bare_caught y))
unfolding eval eval_argument eval_caught eval_entry eval_change eval_key eval_suffix eval_pattern eval_operand eval_piece eval_element eval_property
caught_case y = subst IsLocalAt (sym (fold-roll-Caught Meaning Listed Binding Filling Changing Keyed Suffixed Binding Chained Chained Binding PropertyBinding form_step argument_step caught_step entry_step change_step key_step suffix_step pattern_step operand_step piece_step element_step property_step (bare_caught y))) (caught_step_local y)

entry_case : (y : EntryLayer) → EntryIsLocal (roll-Entry (bare_entry y))
unfolding eval eval_argument eval_caught eval_entry eval_change eval_key eval_suffix eval_pattern eval_operand eval_piece eval_element eval_property
entry_case y = subst IsLocalAt (sym (fold-roll-Entry Meaning Listed Binding Filling Changing Keyed Suffixed Binding Chained Chained Binding PropertyBinding form_step argument_step caught_step entry_step change_step key_step suffix_step pattern_step operand_step piece_step element_step property_step (bare_entry y))) (entry_step_local y)

change_case : (y : ChangeLayer) → ChangeIsLocal (roll-Change (bare_change y))
unfolding eval eval_argument eval_caught eval_entry eval_change eval_key eval_suffix eval_pattern eval_operand eval_piece eval_element eval_property
change_case y = subst IsLocalChange (sym (fold-roll-Change Meaning Listed Binding Filling Changing Keyed Suffixed Binding Chained Chained Binding PropertyBinding form_step argument_step caught_step entry_step change_step key_step suffix_step pattern_step operand_step piece_step element_step property_step (bare_change y))) (change_step_local y)

key_case : (y : KeyLayer) → KeyIsLocal (roll-Key (bare_key y))
unfolding eval eval_argument eval_caught eval_entry eval_change eval_key eval_suffix eval_pattern eval_operand eval_piece eval_element eval_property
key_case y = subst IsLocalKey (sym (fold-roll-Key Meaning Listed Binding Filling Changing Keyed Suffixed Binding Chained Chained Binding PropertyBinding form_step argument_step caught_step entry_step change_step key_step suffix_step pattern_step operand_step piece_step element_step property_step (bare_key y))) (key_step_local y)

suffix_case : (y : SuffixLayer) → SuffixIsLocal (roll-Suffix (bare_suffix y))
unfolding eval eval_argument eval_caught eval_entry eval_change eval_key eval_suffix eval_pattern eval_operand eval_piece eval_element eval_property
suffix_case y = subst IsLocalSuffix (sym (fold-roll-Suffix Meaning Listed Binding Filling Changing Keyed Suffixed Binding Chained Chained Binding PropertyBinding form_step argument_step caught_step entry_step change_step key_step suffix_step pattern_step operand_step piece_step element_step property_step (bare_suffix y))) (suffix_step_local y)

pattern_case : (y : PatternLayer) → PatternIsLocal (roll-Pattern (bare_pattern y))
unfolding eval eval_argument eval_caught eval_entry eval_change eval_key eval_suffix eval_pattern eval_operand eval_piece eval_element eval_property
pattern_case y = subst IsLocalAt (sym (fold-roll-Pattern Meaning Listed Binding Filling Changing Keyed Suffixed Binding Chained Chained Binding PropertyBinding form_step argument_step caught_step entry_step change_step key_step suffix_step pattern_step operand_step piece_step element_step property_step (bare_pattern y))) (pattern_step_local y)

operand_case : (y : OperandLayer) → OperandIsLocal (roll-Operand (bare_operand y))
unfolding eval eval_argument eval_caught eval_entry eval_change eval_key eval_suffix eval_pattern eval_operand eval_piece eval_element eval_property
operand_case y = subst IsLocalAt (sym (fold-roll-Operand Meaning Listed Binding Filling Changing Keyed Suffixed Binding Chained Chained Binding PropertyBinding form_step argument_step caught_step entry_step change_step key_step suffix_step pattern_step operand_step piece_step element_step property_step (bare_operand y))) (operand_step_local y)

piece_case : (y : PieceLayer) → PieceIsLocal (roll-Piece (bare_piece y))
unfolding eval eval_argument eval_caught eval_entry eval_change eval_key eval_suffix eval_pattern eval_operand eval_piece eval_element eval_property
piece_case y = subst IsLocalAt (sym (fold-roll-Piece Meaning Listed Binding Filling Changing Keyed Suffixed Binding Chained Chained Binding PropertyBinding form_step argument_step caught_step entry_step change_step key_step suffix_step pattern_step operand_step piece_step element_step property_step (bare_piece y))) (piece_step_local y)

element_case : (y : ElementLayer) → ElementIsLocal (roll-Element (bare_element y))
unfolding eval eval_argument eval_caught eval_entry eval_change eval_key eval_suffix eval_pattern eval_operand eval_piece eval_element eval_property
element_case y = subst IsLocalAt (sym (fold-roll-Element Meaning Listed Binding Filling Changing Keyed Suffixed Binding Chained Chained Binding PropertyBinding form_step argument_step caught_step entry_step change_step key_step suffix_step pattern_step operand_step piece_step element_step property_step (bare_element y))) (element_step_local y)

property_case : (y : PropertyLayer) → PropertyIsLocal (roll-Property (bare_property y))
unfolding eval eval_argument eval_caught eval_entry eval_change eval_key eval_suffix eval_pattern eval_operand eval_piece eval_element eval_property
property_case y = subst IsLocalProperty (sym (fold-roll-Property Meaning Listed Binding Filling Changing Keyed Suffixed Binding Chained Chained Binding PropertyBinding form_step argument_step caught_step entry_step change_step key_step suffix_step pattern_step operand_step piece_step element_step property_step (bare_property y))) (property_step_local y)

-- ---- all parts

pub form_local : (x : Form) → IsLocal (eval x)
form_local = ind-Form FormIsLocal ArgumentIsLocal CaughtIsLocal EntryIsLocal ChangeIsLocal KeyIsLocal SuffixIsLocal PatternIsLocal OperandIsLocal PieceIsLocal ElementIsLocal PropertyIsLocal
    (λ x y is. subst (λ z. FormIsLocal (roll-Form z)) is (form_case y))
    (λ x y is. subst (λ z. ArgumentIsLocal (roll-Argument z)) is (argument_case y))
    (λ x y is. subst (λ z. CaughtIsLocal (roll-Caught z)) is (caught_case y))
    (λ x y is. subst (λ z. EntryIsLocal (roll-Entry z)) is (entry_case y))
    (λ x y is. subst (λ z. ChangeIsLocal (roll-Change z)) is (change_case y))
    (λ x y is. subst (λ z. KeyIsLocal (roll-Key z)) is (key_case y))
    (λ x y is. subst (λ z. SuffixIsLocal (roll-Suffix z)) is (suffix_case y))
    (λ x y is. subst (λ z. PatternIsLocal (roll-Pattern z)) is (pattern_case y))
    (λ x y is. subst (λ z. OperandIsLocal (roll-Operand z)) is (operand_case y))
    (λ x y is. subst (λ z. PieceIsLocal (roll-Piece z)) is (piece_case y))
    (λ x y is. subst (λ z. ElementIsLocal (roll-Element z)) is (element_case y))
    (λ x y is. subst (λ z. PropertyIsLocal (roll-Property z)) is (property_case y))

pub pattern_local : (x : Pattern) → IsLocalAt (eval_pattern x)
pattern_local = ind-Pattern FormIsLocal ArgumentIsLocal CaughtIsLocal EntryIsLocal ChangeIsLocal KeyIsLocal SuffixIsLocal PatternIsLocal OperandIsLocal PieceIsLocal ElementIsLocal PropertyIsLocal
    (λ x y is. subst (λ z. FormIsLocal (roll-Form z)) is (form_case y))
    (λ x y is. subst (λ z. ArgumentIsLocal (roll-Argument z)) is (argument_case y))
    (λ x y is. subst (λ z. CaughtIsLocal (roll-Caught z)) is (caught_case y))
    (λ x y is. subst (λ z. EntryIsLocal (roll-Entry z)) is (entry_case y))
    (λ x y is. subst (λ z. ChangeIsLocal (roll-Change z)) is (change_case y))
    (λ x y is. subst (λ z. KeyIsLocal (roll-Key z)) is (key_case y))
    (λ x y is. subst (λ z. SuffixIsLocal (roll-Suffix z)) is (suffix_case y))
    (λ x y is. subst (λ z. PatternIsLocal (roll-Pattern z)) is (pattern_case y))
    (λ x y is. subst (λ z. OperandIsLocal (roll-Operand z)) is (operand_case y))
    (λ x y is. subst (λ z. PieceIsLocal (roll-Piece z)) is (piece_case y))
    (λ x y is. subst (λ z. ElementIsLocal (roll-Element z)) is (element_case y))
    (λ x y is. subst (λ z. PropertyIsLocal (roll-Property z)) is (property_case y))
