-- What every form does, and what a body wants after a list of answers.
use Rattle.std.specs.Prelude.{List, map, Option, Some, None, slice_get}
use Rattle.std.specs.Option.{option_map}
use Rattle.std.specs.declared.rc.Rc.{Rc}
use Rattle.std.specs.declared.alloc.Global.{Global}
use Rattle.actx_text.specs.declared.body_id.BodyId.{BodyId}
use Rattle.actx_value.specs.declared.ids.ScopeId.{ScopeId}
use Rattle.actx_value.specs.declared.value.Value.TheVariants as values
use Rattle.actx_code.specs.Codes.{Lists}
use Rattle.actx_code.specs.declared.body.Body.{Body}
use Rattle.actx_code.specs.declared.form.Form.{Form, Form-F, fold-Form}
use Rattle.actx_code.specs.declared.item.Argument.{Argument, Argument-F, fold-Argument}
use Rattle.actx_code.specs.declared.item.Caught.{Caught, Caught-F, fold-Caught}
use Rattle.actx_code.specs.declared.item.Entry.{Entry, Entry-F, fold-Entry}
use Rattle.actx_code.specs.declared.member.Change.{Change, Change-F, fold-Change}
use Rattle.actx_code.specs.declared.member.Key.{Key, Key-F, fold-Key}
use Rattle.actx_code.specs.declared.member.Suffix.{Suffix, Suffix-F, fold-Suffix}
use Rattle.actx_code.specs.declared.pattern.Pattern.{Pattern, Pattern-F, fold-Pattern}
use Rattle.actx_code.specs.declared.item.Operand.{Operand, Operand-F, fold-Operand}
use Rattle.actx_code.specs.declared.item.Piece.{Piece, Piece-F, fold-Piece}
use Rattle.actx_code.specs.declared.pattern.Element.{Element, Element-F, fold-Element}
use Rattle.actx_code.specs.declared.pattern.Property.{Property, Property-F, fold-Property}
use Rattle.actx_want.specs.declared.completion.Completion.TheVariants.{Normal, Break, Continue, Return, Throw}
use Rattle.actx_want.specs.Run.{Returns, Throws, Run, Next', Meaning}
use Rattle.actx_want.specs.Names.{Changing, changed_plainly, changed_by_operator, changed_by_logic, changed_before, changed_after, name, change_name}
use Rattle.actx_want.specs.Operators.{Chained, unary, negation, nothing_of, operand, operators, logical, piece, template}
use Rattle.actx_want.specs.Lists.{Listed, Keyed, Filling, single, spread, array, pair, method, copied, object}
use Rattle.actx_want.specs.Members.{Suffixed, plain, computed, change_member, member, suffixes, delete, super_member}
use Rattle.actx_want.specs.Calls.{call, new, super_call}
use Rattle.actx_want.specs.Functions.{Binding, function, parameter, rest_parameter, begin, yielded, awaited}
use Rattle.actx_want.specs.Patterns.{PropertyBinding, slot, element, properties, elements, bind}
use Rattle.actx_want.specs.Classes.{class}
use Rattle.actx_want.specs.Statements.{sequence, if_else, init, block, returned, thrown}
use Rattle.actx_want.specs.Loops.{while_loop, do_loop, for_loop, let_loop, of_loop}
use Rattle.actx_want.specs.Tries.{unbound, bound, try}

-- ---- a part of a form, with what the parts in it do in their place

-- Layers of the twelve kinds of parts; each is given what the parts of each kind do.
abbrev pub FormOf : Type 0
FormOf = Form-F Meaning Listed Binding Filling Changing Keyed Suffixed Binding Chained Chained Binding PropertyBinding

abbrev pub ArgumentOf : Type 0
ArgumentOf = Argument-F Meaning Listed Binding Filling Changing Keyed Suffixed Binding Chained Chained Binding PropertyBinding

abbrev pub CaughtOf : Type 0
CaughtOf = Caught-F Meaning Listed Binding Filling Changing Keyed Suffixed Binding Chained Chained Binding PropertyBinding

abbrev pub EntryOf : Type 0
EntryOf = Entry-F Meaning Listed Binding Filling Changing Keyed Suffixed Binding Chained Chained Binding PropertyBinding

abbrev pub ChangeOf : Type 0
ChangeOf = Change-F Meaning Listed Binding Filling Changing Keyed Suffixed Binding Chained Chained Binding PropertyBinding

abbrev pub KeyOf : Type 0
KeyOf = Key-F Meaning Listed Binding Filling Changing Keyed Suffixed Binding Chained Chained Binding PropertyBinding

abbrev pub SuffixOf : Type 0
SuffixOf = Suffix-F Meaning Listed Binding Filling Changing Keyed Suffixed Binding Chained Chained Binding PropertyBinding

abbrev pub PatternOf : Type 0
PatternOf = Pattern-F Meaning Listed Binding Filling Changing Keyed Suffixed Binding Chained Chained Binding PropertyBinding

abbrev pub OperandOf : Type 0
OperandOf = Operand-F Meaning Listed Binding Filling Changing Keyed Suffixed Binding Chained Chained Binding PropertyBinding

abbrev pub PieceOf : Type 0
PieceOf = Piece-F Meaning Listed Binding Filling Changing Keyed Suffixed Binding Chained Chained Binding PropertyBinding

abbrev pub ElementOf : Type 0
ElementOf = Element-F Meaning Listed Binding Filling Changing Keyed Suffixed Binding Chained Chained Binding PropertyBinding

abbrev pub PropertyOf : Type 0
PropertyOf = Property-F Meaning Listed Binding Filling Changing Keyed Suffixed Binding Chained Chained Binding PropertyBinding

-- what stands behind shared references
abbrev pub values_of : {A : Type 0} → List (Rc A Global) → List A
values_of rs = map (λ r. r.value) rs

abbrev pub value_of : {A : Type 0} → Option (Rc A Global) → Option A
value_of r = option_map (λ r. r.value) r

-- ---- what each kind of part does, by what the parts in it do

abbrev pub form_step : FormOf → Meaning
form_step (Form-F.Literal v) = λ p k. k (Normal v)
form_step (Form-F.Name hops i) = name hops i
form_step (Form-F.ChangeName hops i change) = change_name hops i change
form_step (Form-F.ChangeMember o key change) = change_member o.value key change
form_step (Form-F.Delete base ss optional key) = delete base.value ss.value.items optional key
form_step (Form-F.Unary op e) = unary op e.value
form_step (Form-F.Not e) = negation e.value
form_step (Form-F.Void e) = nothing_of e.value
form_step (Form-F.Operators first os) = operators first.value os.value.items
form_step (Form-F.Logical op first es) = logical op first.value (values_of es.value.items)
form_step (Form-F.If test a b) = if_else test.value a.value b.value
form_step (Form-F.Sequence es) = sequence (values_of es.value.items)
form_step (Form-F.Template first pieces) = template first pieces.value.items
form_step (Form-F.Suffixes base ss) = suffixes base.value ss.value.items
form_step (Form-F.SuperMember hops key ss) = super_member hops key ss.value.items
form_step (Form-F.New callee arguments) = new callee.value arguments.value.items
form_step (Form-F.SuperCall hops arguments) = super_call hops arguments.value.items
form_step (Form-F.Array ms) = array ms.value.items
form_step (Form-F.Object es) = object es.value.items
form_step (Form-F.Function body) = function body
form_step (Form-F.Class constructor parent prototype ms) = class constructor (value_of parent) prototype ms.value.items
form_step (Form-F.Init i e) = init i e.value
form_step (Form-F.Bind target e) = bind target.value e.value
form_step (Form-F.Block cells fs body) = block cells fs.value.items body.value
form_step (Form-F.While test body) = while_loop test.value body.value
form_step (Form-F.DoWhile body test) = do_loop body.value test.value
form_step (Form-F.For first test update body) = for_loop first.value test.value update.value body.value
form_step (Form-F.ForLet cells first test update body) = let_loop cells first.value test.value update.value body.value
form_step (Form-F.ForOf cells target e body) = of_loop cells target.value e.value body.value
form_step (Form-F.Break n) = λ p k. k (Break n)
form_step (Form-F.Continue n) = λ p k. k (Continue n)
form_step (Form-F.Return e) = returned e.value
form_step (Form-F.Throw e) = thrown e.value
form_step (Form-F.Try b clause final) = try b.value (value_of clause) (value_of final)
form_step (Form-F.Yield e) = yielded e.value
form_step (Form-F.Await e) = awaited e.value
form_step (Form-F.Parameter index e) = parameter index e.value
form_step (Form-F.RestParameter index target) = rest_parameter index target.value
form_step Form-F.Begin = begin

abbrev pub argument_step : ArgumentOf → Listed
argument_step (Argument-F.One e) = single e.value
argument_step (Argument-F.Spread e) = spread e.value

abbrev pub caught_step : CaughtOf → Binding
caught_step (Caught-F.Unbound b) = unbound b.value
caught_step (Caught-F.Bound cells target b) = bound cells target.value b.value

abbrev pub entry_step : EntryOf → Filling
entry_step (Entry-F.Pair key e) = pair key e.value
entry_step (Entry-F.Method key body) = method key body
entry_step (Entry-F.Copied e) = copied e.value

abbrev pub change_step : ChangeOf → Changing
change_step (Change-F.Plainly e) = changed_plainly e.value
change_step (Change-F.WithOperator op e) = changed_by_operator op e.value
change_step (Change-F.WithLogic op e) = changed_by_logic op e.value
change_step (Change-F.StepBefore op) = changed_before op
change_step (Change-F.StepAfter op) = changed_after op

abbrev pub key_step : KeyOf → Keyed
key_step (Key-F.Plain v) = plain v
key_step (Key-F.Computed e) = computed e.value

abbrev pub suffix_step : SuffixOf → Suffixed
suffix_step (Suffix-F.Member optional key) = member optional key
suffix_step (Suffix-F.Call optional arguments) = call optional arguments.value.items

abbrev pub pattern_step : PatternOf → Binding
pattern_step (Pattern-F.Slot i) = slot i
pattern_step (Pattern-F.Properties qs rest) = properties qs.value.items rest
pattern_step (Pattern-F.Elements es rest) = elements es.value.items rest

abbrev pub operand_step : OperandOf → Chained
operand_step o = operand o.op o.right.value

abbrev pub piece_step : PieceOf → Chained
piece_step s = piece s.value.value s.after

abbrev pub element_step : ElementOf → Binding
element_step e = element e.target.value (value_of e.default)

abbrev pub property_step : PropertyOf → PropertyBinding
property_step q = record { key = q.key; element = q.element }

-- ---- forms and bodies

-- what a form does at a place
unfoldable pub eval : Form → Meaning
eval = fold-Form Meaning Listed Binding Filling Changing Keyed Suffixed Binding Chained Chained Binding PropertyBinding form_step argument_step caught_step entry_step change_step key_step suffix_step pattern_step operand_step piece_step element_step property_step

-- what the other kinds of parts do
unfoldable pub eval_argument : Argument → Listed
eval_argument = fold-Argument Meaning Listed Binding Filling Changing Keyed Suffixed Binding Chained Chained Binding PropertyBinding form_step argument_step caught_step entry_step change_step key_step suffix_step pattern_step operand_step piece_step element_step property_step

unfoldable pub eval_caught : Caught → Binding
eval_caught = fold-Caught Meaning Listed Binding Filling Changing Keyed Suffixed Binding Chained Chained Binding PropertyBinding form_step argument_step caught_step entry_step change_step key_step suffix_step pattern_step operand_step piece_step element_step property_step

unfoldable pub eval_entry : Entry → Filling
eval_entry = fold-Entry Meaning Listed Binding Filling Changing Keyed Suffixed Binding Chained Chained Binding PropertyBinding form_step argument_step caught_step entry_step change_step key_step suffix_step pattern_step operand_step piece_step element_step property_step

unfoldable pub eval_change : Change → Changing
eval_change = fold-Change Meaning Listed Binding Filling Changing Keyed Suffixed Binding Chained Chained Binding PropertyBinding form_step argument_step caught_step entry_step change_step key_step suffix_step pattern_step operand_step piece_step element_step property_step

unfoldable pub eval_key : Key → Keyed
eval_key = fold-Key Meaning Listed Binding Filling Changing Keyed Suffixed Binding Chained Chained Binding PropertyBinding form_step argument_step caught_step entry_step change_step key_step suffix_step pattern_step operand_step piece_step element_step property_step

unfoldable pub eval_suffix : Suffix → Suffixed
eval_suffix = fold-Suffix Meaning Listed Binding Filling Changing Keyed Suffixed Binding Chained Chained Binding PropertyBinding form_step argument_step caught_step entry_step change_step key_step suffix_step pattern_step operand_step piece_step element_step property_step

unfoldable pub eval_pattern : Pattern → Binding
eval_pattern = fold-Pattern Meaning Listed Binding Filling Changing Keyed Suffixed Binding Chained Chained Binding PropertyBinding form_step argument_step caught_step entry_step change_step key_step suffix_step pattern_step operand_step piece_step element_step property_step

unfoldable pub eval_operand : Operand → Chained
eval_operand = fold-Operand Meaning Listed Binding Filling Changing Keyed Suffixed Binding Chained Chained Binding PropertyBinding form_step argument_step caught_step entry_step change_step key_step suffix_step pattern_step operand_step piece_step element_step property_step

unfoldable pub eval_piece : Piece → Chained
eval_piece = fold-Piece Meaning Listed Binding Filling Changing Keyed Suffixed Binding Chained Chained Binding PropertyBinding form_step argument_step caught_step entry_step change_step key_step suffix_step pattern_step operand_step piece_step element_step property_step

unfoldable pub eval_element : Element → Binding
eval_element = fold-Element Meaning Listed Binding Filling Changing Keyed Suffixed Binding Chained Chained Binding PropertyBinding form_step argument_step caught_step entry_step change_step key_step suffix_step pattern_step operand_step piece_step element_step property_step

unfoldable pub eval_property : Property → PropertyBinding
eval_property = fold-Property Meaning Listed Binding Filling Changing Keyed Suffixed Binding Chained Chained Binding PropertyBinding form_step argument_step caught_step entry_step change_step key_step suffix_step pattern_step operand_step piece_step element_step property_step

-- how a body ends: without a `return` it returns `undefined` (§10.2.1.4); no `break` or `continue` leaves it
abbrev pub end_of : Next'
end_of (Normal v) more = Returns values.Undefined
end_of (Break n) more = Returns values.Undefined
end_of (Continue n) more = Returns values.Undefined
end_of (Return v) more = Returns v
end_of (Throw v) more = Throws v

-- what a form wants as the form of a body that begins in this scope
abbrev pub form_wants : Form → ScopeId → Run
form_wants form s = eval form s end_of

abbrev pub body_wants : Option Body → ScopeId → Run
body_wants None s = λ more. Returns values.Undefined
body_wants (Some body) s = form_wants body.form s

-- What a body of this code that begins in this scope wants after a list of answers (§10.2.1.3, §16.1.6). A body that
-- isn't in the code is as an empty one.
abbrev pub wants_after : Lists → BodyId → ScopeId → Run
wants_after code b s = body_wants (slice_get code.bodies b.0) s
