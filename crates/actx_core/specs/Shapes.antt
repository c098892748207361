-- What a form says, without where its parts lie: forms, bodies and codes as core forms. Two forms are as good as each other
-- exactly if this is equal.
use Rattle.std.specs.Prelude.{List, map, Option}
use Rattle.std.specs.Option.{option_map}
use Rattle.std.specs.declared.rc.Rc.{Rc}
use Rattle.std.specs.declared.alloc.Global.{Global}
use Rattle.actx_code.specs.Codes.{Lists}
use Rattle.actx_code.specs.declared.body.Body.{Body}
use Rattle.actx_code.specs.declared.form.Form.{Form, Form-F, fold-Form}
use Rattle.actx_code.specs.declared.item.Argument.{Argument, Argument-F, fold-Argument}
use Rattle.actx_code.specs.declared.item.Caught.{Caught, Caught-F, fold-Caught}
use Rattle.actx_code.specs.declared.item.Entry.{Entry, Entry-F, fold-Entry}
use Rattle.actx_code.specs.declared.member.Change.{Change, Change-F, fold-Change}
use Rattle.actx_code.specs.declared.member.Key.{Key, Key-F, fold-Key}
use Rattle.actx_code.specs.declared.member.Suffix.{Suffix, Suffix-F, fold-Suffix}
use Rattle.actx_code.specs.declared.pattern.Pattern.{Pattern, Pattern-F, fold-Pattern}
use Rattle.actx_code.specs.declared.item.Operand.{Operand, Operand-F, fold-Operand}
use Rattle.actx_code.specs.declared.item.Piece.{Piece, Piece-F, fold-Piece}
use Rattle.actx_code.specs.declared.pattern.Element.{Element, Element-F, fold-Element}
use Rattle.actx_code.specs.declared.pattern.Property.{Property, Property-F, fold-Property}
use Rattle.actx_core.specs.declared.core_form.Core.{Core}
use Rattle.actx_core.specs.declared.core_form.Core.TheVariants as forms
use Rattle.actx_core.specs.declared.core_parts.CoreArgument.{CoreArgument}
use Rattle.actx_core.specs.declared.core_parts.CoreArgument.TheVariants as argument
use Rattle.actx_core.specs.declared.core_parts.CoreCaught.{CoreCaught}
use Rattle.actx_core.specs.declared.core_parts.CoreCaught.TheVariants as caught
use Rattle.actx_core.specs.declared.core_parts.CoreEntry.{CoreEntry}
use Rattle.actx_core.specs.declared.core_parts.CoreEntry.TheVariants as entry
use Rattle.actx_core.specs.declared.core_parts.CoreChange.{CoreChange}
use Rattle.actx_core.specs.declared.core_parts.CoreChange.TheVariants as change
use Rattle.actx_core.specs.declared.core_parts.CoreKey.{CoreKey}
use Rattle.actx_core.specs.declared.core_parts.CoreKey.TheVariants as key
use Rattle.actx_core.specs.declared.core_parts.CoreSuffix.{CoreSuffix}
use Rattle.actx_core.specs.declared.core_parts.CoreSuffix.TheVariants as suffix
use Rattle.actx_core.specs.declared.core_parts.CorePattern.{CorePattern}
use Rattle.actx_core.specs.declared.core_parts.CorePattern.TheVariants as pattern
use Rattle.actx_core.specs.declared.core_parts.CoreOperand.{CoreOperand}
use Rattle.actx_core.specs.declared.core_parts.CoreOperand.TheVariants as operand
use Rattle.actx_core.specs.declared.core_parts.CorePiece.{CorePiece}
use Rattle.actx_core.specs.declared.core_parts.CorePiece.TheVariants as piece
use Rattle.actx_core.specs.declared.core_parts.CoreElement.{CoreElement}
use Rattle.actx_core.specs.declared.core_parts.CoreElement.TheVariants as element
use Rattle.actx_core.specs.declared.core_parts.CoreProperty.{CoreProperty}
use Rattle.actx_core.specs.declared.core_parts.CoreProperty.TheVariants as property
use Rattle.actx_core.specs.Making.{CoreBody, CoreCode}

-- what stands behind shared references
abbrev pub values_of : {A : Type 0} → List (Rc A Global) → List A
values_of rs = map (λ r. r.value) rs

abbrev pub value_of : {A : Type 0} → Option (Rc A Global) → Option A
value_of r = option_map (λ r. r.value) r

-- ---- a part of a form, with the core forms of the parts in it in their place

abbrev pub FormOf : Type 0
FormOf = Form-F Core CoreArgument CoreCaught CoreEntry CoreChange CoreKey CoreSuffix CorePattern CoreOperand CorePiece CoreElement CoreProperty

abbrev pub ArgumentOf : Type 0
ArgumentOf = Argument-F Core CoreArgument CoreCaught CoreEntry CoreChange CoreKey CoreSuffix CorePattern CoreOperand CorePiece CoreElement CoreProperty

abbrev pub CaughtOf : Type 0
CaughtOf = Caught-F Core CoreArgument CoreCaught CoreEntry CoreChange CoreKey CoreSuffix CorePattern CoreOperand CorePiece CoreElement CoreProperty

abbrev pub EntryOf : Type 0
EntryOf = Entry-F Core CoreArgument CoreCaught CoreEntry CoreChange CoreKey CoreSuffix CorePattern CoreOperand CorePiece CoreElement CoreProperty

abbrev pub ChangeOf : Type 0
ChangeOf = Change-F Core CoreArgument CoreCaught CoreEntry CoreChange CoreKey CoreSuffix CorePattern CoreOperand CorePiece CoreElement CoreProperty

abbrev pub KeyOf : Type 0
KeyOf = Key-F Core CoreArgument CoreCaught CoreEntry CoreChange CoreKey CoreSuffix CorePattern CoreOperand CorePiece CoreElement CoreProperty

abbrev pub SuffixOf : Type 0
SuffixOf = Suffix-F Core CoreArgument CoreCaught CoreEntry CoreChange CoreKey CoreSuffix CorePattern CoreOperand CorePiece CoreElement CoreProperty

abbrev pub PatternOf : Type 0
PatternOf = Pattern-F Core CoreArgument CoreCaught CoreEntry CoreChange CoreKey CoreSuffix CorePattern CoreOperand CorePiece CoreElement CoreProperty

abbrev pub OperandOf : Type 0
OperandOf = Operand-F Core CoreArgument CoreCaught CoreEntry CoreChange CoreKey CoreSuffix CorePattern CoreOperand CorePiece CoreElement CoreProperty

abbrev pub PieceOf : Type 0
PieceOf = Piece-F Core CoreArgument CoreCaught CoreEntry CoreChange CoreKey CoreSuffix CorePattern CoreOperand CorePiece CoreElement CoreProperty

abbrev pub ElementOf : Type 0
ElementOf = Element-F Core CoreArgument CoreCaught CoreEntry CoreChange CoreKey CoreSuffix CorePattern CoreOperand CorePiece CoreElement CoreProperty

abbrev pub PropertyOf : Type 0
PropertyOf = Property-F Core CoreArgument CoreCaught CoreEntry CoreChange CoreKey CoreSuffix CorePattern CoreOperand CorePiece CoreElement CoreProperty

abbrev pub form_step : FormOf → Core
form_step (Form-F.Literal v) = forms.Literal v
form_step (Form-F.Name hops i) = forms.Name hops i
form_step (Form-F.ChangeName hops i c) = forms.ChangeName hops i c
form_step (Form-F.ChangeMember o k c) = forms.ChangeMember o.value k c
form_step (Form-F.Delete base ss optional k) = forms.Delete base.value ss.value.items optional k
form_step (Form-F.Unary op e) = forms.Unary op e.value
form_step (Form-F.Not e) = forms.Not e.value
form_step (Form-F.Void e) = forms.Void e.value
form_step (Form-F.Operators first os) = forms.Operators first.value os.value.items
form_step (Form-F.Logical op first es) = forms.Logical op first.value (values_of es.value.items)
form_step (Form-F.If test a b) = forms.If test.value a.value b.value
form_step (Form-F.Sequence es) = forms.Sequence (values_of es.value.items)
form_step (Form-F.Template first pieces) = forms.Template first pieces.value.items
form_step (Form-F.Suffixes base ss) = forms.Suffixes base.value ss.value.items
form_step (Form-F.SuperMember hops k ss) = forms.SuperMember hops k ss.value.items
form_step (Form-F.New callee arguments) = forms.New callee.value arguments.value.items
form_step (Form-F.SuperCall hops arguments) = forms.SuperCall hops arguments.value.items
form_step (Form-F.Array ms) = forms.Array ms.value.items
form_step (Form-F.Object es) = forms.Object es.value.items
form_step (Form-F.Function body) = forms.Function body
form_step (Form-F.Class constructor parent prototype ms) = forms.Class constructor (value_of parent) prototype ms.value.items
form_step (Form-F.Init i e) = forms.Init i e.value
form_step (Form-F.Bind target e) = forms.Bind target.value e.value
form_step (Form-F.Block cells fs body) = forms.Block cells fs.value.items body.value
form_step (Form-F.While test body) = forms.While test.value body.value
form_step (Form-F.DoWhile body test) = forms.DoWhile body.value test.value
form_step (Form-F.For first test update body) = forms.For first.value test.value update.value body.value
form_step (Form-F.ForLet cells first test update body) = forms.ForLet cells first.value test.value update.value body.value
form_step (Form-F.ForOf cells target e body) = forms.ForOf cells target.value e.value body.value
form_step (Form-F.Break n) = forms.Break n
form_step (Form-F.Continue n) = forms.Continue n
form_step (Form-F.Return e) = forms.Return e.value
form_step (Form-F.Throw e) = forms.Throw e.value
form_step (Form-F.Try b clause final) = forms.Try b.value (value_of clause) (value_of final)
form_step (Form-F.Yield e) = forms.Yield e.value
form_step (Form-F.Await e) = forms.Await e.value
form_step (Form-F.Parameter index e) = forms.Parameter index e.value
form_step (Form-F.RestParameter index target) = forms.RestParameter index target.value
form_step Form-F.Begin = forms.Begin

abbrev pub argument_step : ArgumentOf → CoreArgument
argument_step (Argument-F.One e) = argument.One e.value
argument_step (Argument-F.Spread e) = argument.Spread e.value

abbrev pub caught_step : CaughtOf → CoreCaught
caught_step (Caught-F.Unbound b) = caught.Unbound b.value
caught_step (Caught-F.Bound cells target b) = caught.Bound cells target.value b.value

abbrev pub entry_step : EntryOf → CoreEntry
entry_step (Entry-F.Pair k e) = entry.Pair k e.value
entry_step (Entry-F.Method k body) = entry.Method k body
entry_step (Entry-F.Copied e) = entry.Copied e.value

abbrev pub change_step : ChangeOf → CoreChange
change_step (Change-F.Plainly e) = change.Plainly e.value
change_step (Change-F.WithOperator op e) = change.WithOperator op e.value
change_step (Change-F.WithLogic op e) = change.WithLogic op e.value
change_step (Change-F.StepBefore op) = change.StepBefore op
change_step (Change-F.StepAfter op) = change.StepAfter op

abbrev pub key_step : KeyOf → CoreKey
key_step (Key-F.Plain v) = key.Plain v
key_step (Key-F.Computed e) = key.Computed e.value

abbrev pub suffix_step : SuffixOf → CoreSuffix
suffix_step (Suffix-F.Member optional k) = suffix.Member optional k
suffix_step (Suffix-F.Call optional arguments) = suffix.Call optional arguments.value.items

abbrev pub pattern_step : PatternOf → CorePattern
pattern_step (Pattern-F.Slot i) = pattern.Slot i
pattern_step (Pattern-F.Properties qs rest) = pattern.Properties qs.value.items rest
pattern_step (Pattern-F.Elements es rest) = pattern.Elements es.value.items rest

abbrev pub operand_step : OperandOf → CoreOperand
operand_step o = operand.Operand o.op o.right.value

abbrev pub piece_step : PieceOf → CorePiece
piece_step s = piece.Piece s.value.value s.after

abbrev pub element_step : ElementOf → CoreElement
element_step e = element.Element e.target.value (value_of e.default)

abbrev pub property_step : PropertyOf → CoreProperty
property_step q = property.Property q.key q.element

-- ---- the core form of each kind of part

unfoldable pub core_form : Form → Core
core_form = fold-Form Core CoreArgument CoreCaught CoreEntry CoreChange CoreKey CoreSuffix CorePattern CoreOperand CorePiece CoreElement CoreProperty form_step argument_step caught_step entry_step change_step key_step suffix_step pattern_step operand_step piece_step element_step property_step

unfoldable pub core_argument : Argument → CoreArgument
core_argument = fold-Argument Core CoreArgument CoreCaught CoreEntry CoreChange CoreKey CoreSuffix CorePattern CoreOperand CorePiece CoreElement CoreProperty form_step argument_step caught_step entry_step change_step key_step suffix_step pattern_step operand_step piece_step element_step property_step

unfoldable pub core_caught : Caught → CoreCaught
core_caught = fold-Caught Core CoreArgument CoreCaught CoreEntry CoreChange CoreKey CoreSuffix CorePattern CoreOperand CorePiece CoreElement CoreProperty form_step argument_step caught_step entry_step change_step key_step suffix_step pattern_step operand_step piece_step element_step property_step

unfoldable pub core_entry : Entry → CoreEntry
core_entry = fold-Entry Core CoreArgument CoreCaught CoreEntry CoreChange CoreKey CoreSuffix CorePattern CoreOperand CorePiece CoreElement CoreProperty form_step argument_step caught_step entry_step change_step key_step suffix_step pattern_step operand_step piece_step element_step property_step

unfoldable pub core_change : Change → CoreChange
core_change = fold-Change Core CoreArgument CoreCaught CoreEntry CoreChange CoreKey CoreSuffix CorePattern CoreOperand CorePiece CoreElement CoreProperty form_step argument_step caught_step entry_step change_step key_step suffix_step pattern_step operand_step piece_step element_step property_step

unfoldable pub core_key : Key → CoreKey
core_key = fold-Key Core CoreArgument CoreCaught CoreEntry CoreChange CoreKey CoreSuffix CorePattern CoreOperand CorePiece CoreElement CoreProperty form_step argument_step caught_step entry_step change_step key_step suffix_step pattern_step operand_step piece_step element_step property_step

unfoldable pub core_suffix : Suffix → CoreSuffix
core_suffix = fold-Suffix Core CoreArgument CoreCaught CoreEntry CoreChange CoreKey CoreSuffix CorePattern CoreOperand CorePiece CoreElement CoreProperty form_step argument_step caught_step entry_step change_step key_step suffix_step pattern_step operand_step piece_step element_step property_step

unfoldable pub core_pattern : Pattern → CorePattern
core_pattern = fold-Pattern Core CoreArgument CoreCaught CoreEntry CoreChange CoreKey CoreSuffix CorePattern CoreOperand CorePiece CoreElement CoreProperty form_step argument_step caught_step entry_step change_step key_step suffix_step pattern_step operand_step piece_step element_step property_step

unfoldable pub core_operand : Operand → CoreOperand
core_operand = fold-Operand Core CoreArgument CoreCaught CoreEntry CoreChange CoreKey CoreSuffix CorePattern CoreOperand CorePiece CoreElement CoreProperty form_step argument_step caught_step entry_step change_step key_step suffix_step pattern_step operand_step piece_step element_step property_step

unfoldable pub core_piece : Piece → CorePiece
core_piece = fold-Piece Core CoreArgument CoreCaught CoreEntry CoreChange CoreKey CoreSuffix CorePattern CoreOperand CorePiece CoreElement CoreProperty form_step argument_step caught_step entry_step change_step key_step suffix_step pattern_step operand_step piece_step element_step property_step

unfoldable pub core_element : Element → CoreElement
core_element = fold-Element Core CoreArgument CoreCaught CoreEntry CoreChange CoreKey CoreSuffix CorePattern CoreOperand CorePiece CoreElement CoreProperty form_step argument_step caught_step entry_step change_step key_step suffix_step pattern_step operand_step piece_step element_step property_step

unfoldable pub core_property : Property → CoreProperty
core_property = fold-Property Core CoreArgument CoreCaught CoreEntry CoreChange CoreKey CoreSuffix CorePattern CoreOperand CorePiece CoreElement CoreProperty form_step argument_step caught_step entry_step change_step key_step suffix_step pattern_step operand_step piece_step element_step property_step

-- ---- parts behind shared references

abbrev pub shared_form : Rc Form Global → Core
shared_form r = core_form r.value

abbrev pub forms_of : Option (Rc Form Global) → Option Core
forms_of r = option_map shared_form r

abbrev pub caught_of : Option (Rc Caught Global) → Option CoreCaught
caught_of r = option_map (λ c. core_caught c.value) r

-- ---- bodies and codes

abbrev pub core_body : Body → CoreBody
core_body b = record { kind = b.kind; flow = b.flow; name = b.name; hidden = b.hidden; cells = b.cells; form = core_form b.form }

abbrev pub core_code : Lists → CoreCode
core_code code = record { bodies = map core_body code.bodies; literals = code.literals; bundled = code.bundled }
