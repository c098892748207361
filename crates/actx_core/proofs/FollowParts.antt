-- Parts that follow one another: operators, functions, classes, patterns and chains, where names are resolved by scopes and by uses.
use Rattle.std.proofs.Common.{◌≡◌, refl, sym, ap, subst, ◌∙◌, ℕ, ◌+◌, Bool, true, false, ◌&&◌, ◌||◌, if◌then◌else◌, List, [], ◌∷◌, ◌++◌, length, map, Option, Some, None}
use Rattle.std.specs.Prelude.{codes, suc, unwrap_or}
use Rattle.std.specs.Option.{option_map}
use Rattle.std.specs.List.{list_any}
use Rattle.actx_text.specs.declared.units.Units.{Units}
use Rattle.actx_text.specs.declared.body_id.BodyId.{BodyId}
use Rattle.actx_tree.specs.declared.function.Flow.{Flow}
use Rattle.actx_tree.specs.declared.function.Flow.TheVariants as flow
use Rattle.actx_tree.specs.declared.function.Unread.{Unread}
use Rattle.actx_tree.specs.declared.operator.AssignOp.{AssignOp}
use Rattle.actx_tree.specs.declared.operator.BinaryOp.{BinaryOp as SourceOp}
use Rattle.actx_tree.specs.declared.operator.UnaryOp.{UnaryOp}
use Rattle.actx_tree.specs.declared.operator.UnaryOp.TheVariants as op
use Rattle.actx_value.specs.declared.operator.UnaryOp.TheVariants as unary
use Rattle.actx_value.specs.declared.value.Value.{Value}
use Rattle.actx_code.specs.declared.body.BodyKind.{BodyKind}
use Rattle.actx_code.specs.declared.body.BodyKind.TheVariants as kinds
use Rattle.actx_code.specs.declared.item.ClassMember.{ClassMember}
use Rattle.actx_code.specs.declared.item.Logic.{Logic}
use Rattle.actx_scope_rules.specs.Scopes.{Scope, slots_of, hidden_slots, fixed_slot}
use Rattle.actx_core.specs.declared.core_form.Core.{Core}
use Rattle.actx_core.specs.declared.core_form.Core.TheVariants as forms
use Rattle.actx_core.specs.declared.core_parts.CoreArgument.{CoreArgument}
use Rattle.actx_core.specs.declared.core_parts.CoreChange.{CoreChange}
use Rattle.actx_core.specs.declared.core_parts.CoreElement.{CoreElement}
use Rattle.actx_core.specs.declared.core_parts.CoreElement.TheVariants as element
use Rattle.actx_core.specs.declared.core_parts.CoreKey.{CoreKey}
use Rattle.actx_core.specs.declared.core_parts.CoreKey.TheVariants as key
use Rattle.actx_core.specs.declared.core_parts.CoreOperand.TheVariants as operand
use Rattle.actx_core.specs.declared.core_parts.CorePattern.{CorePattern}
use Rattle.actx_core.specs.declared.core_parts.CorePattern.TheVariants as pattern
use Rattle.actx_core.specs.declared.core_parts.CoreProperty.{CoreProperty}
use Rattle.actx_core.specs.declared.core_parts.CoreProperty.TheVariants as property
use Rattle.actx_core.specs.declared.core_parts.CoreSuffix.{CoreSuffix}
use Rattle.actx_core.specs.declared.core_parts.CoreSuffix.TheVariants as suffix
use Rattle.actx_core.specs.Making.{CoreBody, Making, just, of1, of2, of3, all, maybe, or_undefined, text_number, text_value, body_made}
use Rattle.actx_core.specs.Names.{by_scopes, by_uses, scoped}
use Rattle.actx_core.specs.Operators.{Operand, logic_of, binary_of, first_logic, right_of, operand_of, chain_by, chain, change_with, assigned}
use Rattle.actx_core.specs.Functions.{Inside, Params, Function, Key, Method, Member, Class, ClassPart, member, constructed, body_form, arrow_body, function_body, name_or, function_made, method_made, member_made, constructor_made, implicit_params, implicit_items, implicit_constructor, class_kind, is_constructor, implicit_if, constructor_of, members_of, class_parts, class_form, class_expression, class_made}
use Rattle.actx_core.specs.Patterns.{Named, unnamed, Target, Elem, Prop, elem_names, prop_names, listed, elements_from, properties_from, declared_from, parameters_from, rest_slot, name_target, object_target, array_target, declared_as, elem_made, shorthand_made, pair_made, rest_parameter, rest_names, params_made}
use Rattle.actx_core.specs.Expressions.{written, member_suffix, member_as, names_constructor, naming_of, Suffixed, Expression, form, plain, naming, load, changed, name_form, name_made, this_at, this_form, this_hops, suffix_form, suffix_forms, chained, super_member, before_last, last, changed_member, in_base, behind_base, deleted_member, left_made, unary_form, piece_after, returned, arguments_or_none}
use Rattle.actx_core.specs.Laws.{Follows}
use Rattle.actx_core.proofs.Follow.{Lists, ends, more, Options, absent, present, just_follows, of1_follows, of2_follows, of3_follows, of4_follows, all_follows, maybe_follows, or_undefined_follows, number_follows, text_follows, meaning_follows, body_follows, entered_follows, with_this_follows, scoped_follows}

-- ---- what corresponds

abbrev pub RNamed : Named → Named → Type 0
RNamed e f = (name : Units) → Follows (e name) (f name)

pub record RSuffixed (e f : Suffixed) : Type 0 where
  pub form : Follows e.form f.form
  pub key : Follows e.key f.key
  pub optional : e.is_optional ≡ f.is_optional
  pub call : e.is_call ≡ f.is_call

pub record RExpression (e f : Expression) : Type 0 where
  pub named : RNamed e.named f.named
  pub chain : (ss tt : Making (List CoreSuffix)) → Follows ss tt → Follows (e.chain ss) (f.chain tt)
  pub change : (c d : Making CoreChange) → Follows c d → Follows (e.change c) (f.change d)
  pub delete : Follows e.delete f.delete
  pub super : e.is_super ≡ f.is_super

pub record ROperand (o p : Operand) : Type 0 where
  pub op : o.op ≡ p.op
  pub right : Follows o.right p.right

pub record RParams (p q : Params) : Type 0 where
  pub names : p.names ≡ q.names
  pub bound : (slot : ℕ) → Follows (p.bound slot) (q.bound slot)

pub record RFunction (f g : Function) : Type 0 where
  pub name : f.name ≡ g.name
  pub declaration : Follows f.declaration g.declaration
  pub expression : (name : Units) → Follows (f.expression name) (g.expression name)

pub record RKey (k l : Key) : Type 0 where
  pub key : Follows k.key l.key
  pub value : Follows k.value l.value
  pub word : k.word ≡ l.word

pub record RMethod (m n : Method) : Type 0 where
  pub key : RKey m.key n.key
  pub made : (kind : BodyKind) (name : Units) → Follows (m.made kind name) (n.made kind name)

pub record RMember (m n : Member) : Type 0 where
  pub constructor : m.is_constructor ≡ n.is_constructor
  pub made : (kind : BodyKind) (name : Units) → Follows (m.made kind name) (n.made kind name)

pub record RClass (c d : Class) : Type 0 where
  pub name : c.name ≡ d.name
  pub declaration : Follows c.declaration d.declaration
  pub expression : RNamed c.expression d.expression

pub record RTarget (t u : Target) : Type 0 where
  pub names : t.names ≡ u.names
  pub alone : t.alone ≡ u.alone
  pub pattern : (slot : ℕ) → Follows (t.pattern slot) (u.pattern slot)

pub record RElem (e f : Elem) : Type 0 where
  pub names : e.names ≡ f.names
  pub element : (slot : ℕ) → Follows (e.element slot) (f.element slot)
  pub declared : (slot : ℕ) → Follows (e.declared slot) (f.declared slot)

pub record RProp (p q : Prop) : Type 0 where
  pub names : p.names ≡ q.names
  pub property : (slot : ℕ) → Follows (p.property slot) (q.property slot)

abbrev pub RInside : Inside → Inside → Type 0
RInside i j = (range : Unread) → Follows (i range) (j range)

-- ---- lists and options

pub lists_map : {A B : Type 0} {R : A → A → Type 0} {S : B → B → Type 0} (f g : A → B) → ((x y : A) → R x y → S (f x) (g y)) → {xs ys : List A} → Lists R xs ys → Lists S (map f xs) (map g ys)
lists_map f g k ends = ends
lists_map f g k (more h hs) = more (k _ _ h) (lists_map f g k hs)

pub options_map : {A B : Type 0} {R : A → A → Type 0} {S : B → B → Type 0} (f g : A → B) → ((x y : A) → R x y → S (f x) (g y)) → {x y : Option A} → Options R x y → Options S (option_map f x) (option_map g y)
options_map f g k absent = absent
options_map f g k (present h) = present (k _ _ h)

-- ---- operators (§13.5 to §13.15)

first_same : {os ps : List Operand} → Lists ROperand os ps → first_logic os ≡ first_logic ps
first_same ends = refl
first_same (more h hs) = ap logic_of h.op

operand_follows : (o p : Operand) → ROperand o p → Follows (operand_of o) (operand_of p)
operand_follows o p h = subst (λ x. Follows (operand_of o) (of1 (operand.Operand (binary_of x)) p.right)) h.op (of1_follows (operand.Operand (binary_of o.op)) h.right)

chain_by_follows : (l : Option Logic) (x y : Making Core) {os ps : List Operand} → Follows x y → Lists ROperand os ps → Follows (chain_by l x os) (chain_by l y ps)
chain_by_follows None x y h hs = of2_follows forms.Operators h (all_follows (lists_map operand_of operand_of operand_follows hs))
chain_by_follows (Some l) x y h hs = of2_follows (forms.Logical l) h (all_follows (lists_map right_of right_of (λ o p k. k.right) hs))

pub chain_follows : (x y : Making Core) {os ps : List Operand} → Follows x y → Lists ROperand os ps → Follows (chain x os) (chain y ps)
chain_follows x y {os} {ps} h hs = subst (λ l. Follows (chain x os) (chain_by l y ps)) (first_same hs) (chain_by_follows (first_logic os) x y h hs)

-- ---- functions and methods (§15)

pub arrow_follows : (f : Flow) (name : Units) (p q : Params) (x y : Making (List Core)) → RParams p q → Follows x y → Follows (arrow_body by_scopes f name p x) (arrow_body by_uses f name q y)
arrow_follows f name p q x y h k =
    let slots : Scope = slots_of false p.names in
    let base : Follows (arrow_body by_scopes f name p x) (arrow_body by_uses f name (record { names = p.names; bound = q.bound }) y) =
    of3_follows (λ n ps is. record { kind = kinds.Arrow; flow = f; name = n; hidden = false; cells = length p.names; form = body_form f ps is })
    (number_follows name) (entered_follows slots (h.bound 0)) (entered_follows slots k) in
    subst (λ ns. Follows (arrow_body by_scopes f name p x) (arrow_body by_uses f name (record { names = ns; bound = q.bound }) y)) h.names base

pub function_follows : (kind : BodyKind) (f : Flow) (name : Units) (own : Option Units) (p q : Params) (x y : Making (List Core)) → RParams p q → Follows x y
    → Follows (function_body by_scopes kind f name own p x) (function_body by_uses kind f name own q y)
function_follows kind f name own p q x y h k =
    let slots : Scope = hidden_slots own ++ slots_of false p.names in
    let base : Follows (function_body by_scopes kind f name own p x) (function_body by_uses kind f name own (record { names = p.names; bound = q.bound }) y) =
    of3_follows (λ n ps is. record { kind = kind; flow = f; name = n; hidden = true; cells = 3 + length p.names; form = body_form f ps is })
    (number_follows name) (with_this_follows slots (h.bound 3)) (with_this_follows slots k) in
    subst (λ ns. Follows (function_body by_scopes kind f name own p x) (function_body by_uses kind f name own (record { names = ns; bound = q.bound }) y)) h.names base

pub function_made_follows : {i j : Inside} → RInside i j → (f : Flow) (name : Option Units) {p q : Params} → RParams p q → (body : Unread) → RFunction (function_made by_scopes i f name p body) (function_made by_uses j f name q body)
function_made_follows inside f name h body = record {
  name = refl;
  declaration = body_follows (function_follows kinds.Function f (name_or name []) None _ _ _ _ h (inside body));
  expression = λ given. body_follows (function_follows kinds.Function f (name_or name given) name _ _ _ _ h (inside body));
}

pub method_made_follows : {i j : Inside} → RInside i j → (f : Flow) {k l : Key} → RKey k l → {p q : Params} → RParams p q → (body : Unread) → RMethod (method_made by_scopes i f k p body) (method_made by_uses j f l q body)
method_made_follows inside f k h body = record { key = k; made = λ kind name. body_follows (function_follows kind f name None _ _ _ _ h (inside body)) }

-- ---- classes (§15.7)

pub member_made_follows : (is_static : Bool) {m n : Method} → RMethod m n → Follows (member_made is_static m) (member_made is_static n)
member_made_follows is_static {m} {n} h =
    subst (λ w. Follows (member_made is_static m) (of2 (λ k body. member (record { is_static = is_static; key = k; body = body })) n.key.value (n.made kinds.Method w))) h.key.word
    (of2_follows (λ k body. member (record { is_static = is_static; key = k; body = body })) h.key.value (h.made kinds.Method m.key.word))

implicit_params_follow : (kind : BodyKind) → RParams (implicit_params kind) (implicit_params kind)
implicit_params_follow kinds.File = record { names = refl; bound = λ slot. just_follows [] }
implicit_params_follow kinds.Function = record { names = refl; bound = λ slot. just_follows [] }
implicit_params_follow kinds.Arrow = record { names = refl; bound = λ slot. just_follows [] }
implicit_params_follow kinds.Method = record { names = refl; bound = λ slot. just_follows [] }
implicit_params_follow kinds.Class = record { names = refl; bound = λ slot. just_follows [] }
implicit_params_follow kinds.DerivedClass = record { names = refl; bound = λ slot. just_follows _ }

implicit_follows : (has : Bool) (kind : BodyKind) (name : Units) → Follows (implicit_if by_scopes has kind name) (implicit_if by_uses has kind name)
implicit_follows true kind name = just_follows None
implicit_follows false kind name = of1_follows (λ body. Some body)
    (body_follows (function_follows kind flow.Plain name None _ _ _ _ (implicit_params_follow kind) (just_follows (implicit_items kind))))

any_same : {ms ns : List Member} → Lists RMember ms ns → list_any is_constructor ms ≡ list_any is_constructor ns
any_same ends = refl
any_same (more {x = m} {y = n} {xs = ms} {ys = ns} h hs) = ap (λ b. b || list_any is_constructor ms) h.constructor ∙ ap (λ b. n.is_constructor || b) (any_same hs)

class_of_kind : (kind : BodyKind) {p q : Option (Making Core)} → Options Follows p q → {ms ns : List Member} → Lists RMember ms ns → (name : Units)
    → Follows (class_parts by_scopes kind p ms (list_any is_constructor ms) name) (class_parts by_uses kind q ns (list_any is_constructor ns) name)
class_of_kind kind {p} {q} hp {ms} {ns} hs name =
    subst (λ b. Follows (class_parts by_scopes kind p ms (list_any is_constructor ms) name) (class_parts by_uses kind q ns b name)) (any_same hs)
    (of4_follows (λ implicit extended prototype parts. forms.Class (constructor_of implicit parts) extended prototype (members_of parts))
    (implicit_follows (list_any is_constructor ms) kind name) (maybe_follows hp) (text_follows (codes "prototype"))
    (all_follows (lists_map (λ (m : Member). m.made kind name) (λ (m : Member). m.made kind name) (λ m n h. h.made kind name) hs)))

pub class_form_follows : {p q : Option (Making Core)} → Options Follows p q → {ms ns : List Member} → Lists RMember ms ns → (name : Units) → Follows (class_form by_scopes p ms name) (class_form by_uses q ns name)
class_form_follows absent hs name = class_of_kind kinds.Class absent hs name
class_form_follows (present h) hs name = class_of_kind kinds.DerivedClass (present h) hs name

pub class_made_follows : (name : Option Units) {p q : Option (Making Core)} → Options Follows p q → {ms ns : List Member} → Lists RMember ms ns → RClass (class_made by_scopes name p ms) (class_made by_uses name q ns)
class_made_follows None hp hs = record { name = refl; declaration = class_form_follows hp hs []; expression = λ given. class_form_follows hp hs given }
class_made_follows (Some name) hp hs = record {
  name = refl;
  declaration = class_form_follows hp hs name;
  expression = λ given. of1_follows (λ x. forms.Block 1 [] (forms.Init 0 x)) (scoped_follows (fixed_slot name ∷ []) (class_form_follows hp hs name));
}

-- ---- patterns and parameters (§8.6, §14.3, §15.1)

pub elem_names_same : {es fs : List Elem} → Lists RElem es fs → elem_names es ≡ elem_names fs
elem_names_same ends = refl
elem_names_same (more {x = e} {y = f} {xs = es} {ys = fs} h hs) = ap (λ ns. ns ++ elem_names es) h.names ∙ ap (λ ns. f.names ++ ns) (elem_names_same hs)

prop_names_same : {ps qs : List Prop} → Lists RProp ps qs → prop_names ps ≡ prop_names qs
prop_names_same ends = refl
prop_names_same (more {x = p} {y = q} {xs = ps} {ys = qs} h hs) = ap (λ ns. ns ++ prop_names ps) h.names ∙ ap (λ ns. q.names ++ ns) (prop_names_same hs)

elements_follow : {es fs : List Elem} → Lists RElem es fs → (slot : ℕ) → Follows (elements_from es slot) (elements_from fs slot)
unfolding elements_from
elements_follow ends slot = just_follows []
elements_follow (more {x = e} {y = f} {xs = es} {ys = fs} h hs) slot =
    subst (λ ns. Follows (elements_from (e ∷ es) slot) (of2 (λ x xs. x ∷ xs) (f.element slot) (elements_from fs (slot + length ns)))) h.names
    (of2_follows (λ x xs. x ∷ xs) (h.element slot) (elements_follow hs (slot + length e.names)))

properties_follow : {ps qs : List Prop} → Lists RProp ps qs → (slot : ℕ) → Follows (properties_from ps slot) (properties_from qs slot)
unfolding properties_from
properties_follow ends slot = just_follows []
properties_follow (more {x = p} {y = q} {xs = ps} {ys = qs} h hs) slot =
    subst (λ ns. Follows (properties_from (p ∷ ps) slot) (of2 (λ x xs. x ∷ xs) (q.property slot) (properties_from qs (slot + length ns)))) h.names
    (of2_follows (λ x xs. x ∷ xs) (h.property slot) (properties_follow hs (slot + length p.names)))

pub declared_follow : {es fs : List Elem} → Lists RElem es fs → (slot : ℕ) → Follows (declared_from es slot) (declared_from fs slot)
unfolding declared_from
declared_follow ends slot = just_follows []
declared_follow (more {x = e} {y = f} {xs = es} {ys = fs} h hs) slot =
    subst (λ ns. Follows (declared_from (e ∷ es) slot) (of2 (λ x xs. x ∷ xs) (f.declared slot) (declared_from fs (slot + length ns)))) h.names
    (of2_follows (λ x xs. x ∷ xs) (h.declared slot) (declared_follow hs (slot + length e.names)))

parameters_follow : {es fs : List Elem} → Lists RElem es fs → (index slot : ℕ) → Follows (parameters_from es index slot) (parameters_from fs index slot)
unfolding parameters_from
parameters_follow ends index slot = just_follows []
parameters_follow (more {x = e} {y = f} {xs = es} {ys = fs} h hs) index slot =
    subst (λ ns. Follows (parameters_from (e ∷ es) index slot) (of2 (λ x xs. forms.Parameter index x ∷ xs) (f.element slot) (parameters_from fs (index + 1) (slot + length ns)))) h.names
    (of2_follows (λ x xs. forms.Parameter index x ∷ xs) (h.element slot) (parameters_follow hs (index + 1) (slot + length e.names)))

pub name_target_follows : (name : Units) → RTarget (name_target name) (name_target name)
name_target_follows name = record { names = refl; alone = refl; pattern = λ slot. just_follows (pattern.Slot slot) }

pub object_target_follows : {ps qs : List Prop} → Lists RProp ps qs → (rest : Option Units) → RTarget (object_target ps rest) (object_target qs rest)
object_target_follows {ps} {qs} hs rest = record {
  names = ap (λ ns. ns ++ listed rest) (prop_names_same hs);
  alone = refl;
  pattern = λ slot. subst (λ ns. Follows ((object_target ps rest).pattern slot) (of1 (λ xs. pattern.Properties xs (rest_slot rest (slot + length ns))) (properties_from qs slot))) (prop_names_same hs)
      (of1_follows (λ xs. pattern.Properties xs (rest_slot rest (slot + length (prop_names ps)))) (properties_follow hs slot));
}

pub array_target_follows : {es fs : List Elem} → Lists RElem es fs → (rest : Option Units) → RTarget (array_target es rest) (array_target fs rest)
array_target_follows {es} {fs} hs rest = record {
  names = ap (λ ns. ns ++ listed rest) (elem_names_same hs);
  alone = refl;
  pattern = λ slot. subst (λ ns. Follows ((array_target es rest).pattern slot) (of1 (λ xs. pattern.Elements xs (rest_slot rest (slot + length ns))) (elements_from fs slot))) (elem_names_same hs)
      (of1_follows (λ xs. pattern.Elements xs (rest_slot rest (slot + length (elem_names es)))) (elements_follow hs slot));
}

unnamed_follow : {v w : Option Named} → Options RNamed v w → Options Follows (unnamed v) (unnamed w)
unnamed_follow absent = absent
unnamed_follow (present h) = present (h [])

given_name : (name : Units) {v w : Option Named} → Options RNamed v w → Options Follows (option_map (λ (f : Named). f name) v) (option_map (λ (f : Named). f name) w)
given_name name absent = absent
given_name name (present h) = present (h name)

declared_as_follows : (alone : Option Units) (t u : Target) → RTarget t u → {v w : Option Named} → Options RNamed v w → (slot : ℕ) → Follows (declared_as alone t v slot) (declared_as alone u w slot)
declared_as_follows None t u h k slot = of2_follows forms.Bind (h.pattern slot) (or_undefined_follows (unnamed_follow k))
declared_as_follows (Some name) t u h k slot = of1_follows (forms.Init slot) (or_undefined_follows (given_name name k))

pub elem_made_follows : {t u : Target} → RTarget t u → {v w : Option Named} → Options RNamed v w → RElem (elem_made t v) (elem_made u w)
elem_made_follows {t} {u} h {v} {w} k = record {
  names = h.names;
  element = λ slot. of2_follows element.Element (h.pattern slot) (maybe_follows (unnamed_follow k));
  declared = λ slot. subst (λ al. Follows (declared_as t.alone t v slot) (declared_as al u w slot)) h.alone (declared_as_follows t.alone t u h k slot);
}

pub shorthand_follows : (name : Units) {v w : Option Named} → Options RNamed v w → RProp (shorthand_made name v) (shorthand_made name w)
shorthand_follows name k = record {
  names = refl;
  property = λ slot. of2_follows (λ v x. property.Property v (element.Element (pattern.Slot slot) x)) (text_follows name) (maybe_follows (unnamed_follow k));
}

pub pair_follows : {k l : Key} → RKey k l → {e f : Elem} → RElem e f → RProp (pair_made k e) (pair_made l f)
pair_follows k h = record { names = h.names; property = λ slot. of2_follows property.Property k.value (h.element slot) }

rest_follows : {t u : Option Target} → Options RTarget t u → (index slot : ℕ) → Follows (rest_parameter t index slot) (rest_parameter u index slot)
rest_follows absent index slot = just_follows []
rest_follows (present h) index slot = of1_follows (λ x. forms.RestParameter index x ∷ []) (h.pattern slot)

rest_names_same : {t u : Option Target} → Options RTarget t u → rest_names t ≡ rest_names u
rest_names_same absent = refl
rest_names_same (present h) = h.names

lists_length : {A : Type 0} {R : A → A → Type 0} {xs ys : List A} → Lists R xs ys → length xs ≡ length ys
lists_length ends = refl
lists_length (more h hs) = ap suc (lists_length hs)

pub params_follow : {es fs : List Elem} → Lists RElem es fs → {t u : Option Target} → Options RTarget t u → RParams (params_made es t) (params_made fs u)
params_follow {es} {fs} hs {t} {u} k = record {
  names = ap (λ ns. ns ++ rest_names t) (elem_names_same hs) ∙ ap (λ ns. elem_names fs ++ ns) (rest_names_same k);
  bound = λ slot. subst (λ ns. Follows ((params_made es t).bound slot) (of2 (λ xs ys. xs ++ ys) (parameters_from fs 0 slot) (rest_parameter u (length fs) (slot + length ns)))) (elem_names_same hs)
      (subst (λ n. Follows ((params_made es t).bound slot) (of2 (λ xs ys. xs ++ ys) (parameters_from fs 0 slot) (rest_parameter u n (slot + length (elem_names es))))) (lists_length hs)
      (of2_follows (λ xs ys. xs ++ ys) (parameters_follow hs 0 slot) (rest_follows k (length es) (slot + length (elem_names es)))));
}

-- ---- expressions: names, chains of suffixes, operators (§13)

pub plain_follows : {x y : Making Core} → Follows x y → RExpression (plain x) (plain y)
plain_follows h = record { named = λ name. h; chain = λ ss tt k. of2_follows forms.Suffixes h k; change = λ c d k. of2_follows (λ x _. x) h k; delete = h; super = refl }

pub naming_follows : {f g : Named} → RNamed f g → RExpression (naming f) (naming g)
naming_follows h = record {
  named = h;
  chain = λ ss tt k. of2_follows forms.Suffixes (h []) k;
  change = λ c d k. of2_follows (λ x _. x) (h []) k;
  delete = h [];
  super = refl;
}

pub name_form_follows : (name : Units) → Follows (name_form by_scopes name) (name_form by_uses name)
name_form_follows name = of1_follows load (meaning_follows name)

pub name_made_follows : (name : Units) → RExpression (name_made by_scopes name) (name_made by_uses name)
name_made_follows name = record {
  named = λ given. name_form_follows name;
  chain = λ ss tt k. of2_follows forms.Suffixes (name_form_follows name) k;
  change = λ c d k. of2_follows changed (meaning_follows name) k;
  delete = name_form_follows name;
  super = refl;
}

pub this_follows : Follows this_form this_form
this_follows = record { follows = λ scopes this s rest. (just_follows (this_at this)).follows scopes this s rest }

pub hops_follow : Follows this_hops this_hops
hops_follow = record { follows = λ scopes this s rest. (just_follows (unwrap_or this 0)).follows scopes this s rest }

pub super_follows : (name : Units) {ss tt : Making (List CoreSuffix)} → Follows ss tt → Follows (super_member name ss) (super_member name tt)
super_follows name h = of3_follows forms.SuperMember hops_follow (text_follows name) h

suffix_forms_follow : {ss tt : List Suffixed} → Lists RSuffixed ss tt → Follows (suffix_forms ss) (suffix_forms tt)
suffix_forms_follow hs = all_follows (lists_map suffix_form suffix_form (λ x y h. h.form) hs)

pub chained_follows : {x y : Expression} → RExpression x y → {ss tt : List Suffixed} → Lists RSuffixed ss tt → Follows (chained x ss) (chained y tt)
chained_follows h ends = h.named []
chained_follows h (more k ks) = h.chain _ _ (suffix_forms_follow (more k ks))

before_last_follow : {ss tt : List Suffixed} → Lists RSuffixed ss tt → Lists RSuffixed (before_last ss) (before_last tt)
before_last_follow ends = ends
before_last_follow (more h ends) = ends
before_last_follow (more h (more k ks)) = more h (before_last_follow (more k ks))

last_follows : {ss tt : List Suffixed} → Lists RSuffixed ss tt → Options RSuffixed (last ss) (last tt)
last_follows ends = absent
last_follows (more h ends) = present h
last_follows (more h (more k ks)) = last_follows (more k ks)

changed_follows : {x y : Expression} → RExpression x y → {ss tt : List Suffixed} → Lists RSuffixed ss tt → {s t : Option Suffixed} → Options RSuffixed s t
    → (c d : Making CoreChange) → Follows c d → Follows (changed_member x ss s c) (changed_member y tt t d)
changed_follows h hs absent c d k = of2_follows (λ b _. b) (chained_follows h hs) k
changed_follows h hs (present l) c d k = of3_follows forms.ChangeMember (chained_follows h hs) l.key k

-- one of two lists, by conditions that are equal
chosen : (p q : Bool) → p ≡ q → {ss tt uu vv : List Suffixed} → Lists RSuffixed ss tt → Lists RSuffixed uu vv → Lists RSuffixed (if p then ss else uu) (if q then tt else vv)
chosen true q e {ss} {tt} {uu} {vv} h k = subst (λ b. Lists RSuffixed ss (if b then tt else vv)) e h
chosen false q e {ss} {tt} {uu} {vv} h k = subst (λ b. Lists RSuffixed uu (if b then tt else vv)) e k

in_base_follows : (b c : Bool) → b ≡ c → {ss tt : List Suffixed} → Lists RSuffixed ss tt → Lists RSuffixed (in_base b ss) (in_base c tt)
in_base_follows b c e ends = ends
in_base_follows b c e (more {x = s} {y = t} h hs) = chosen (b && s.is_call) (c && t.is_call) (ap (λ z. z && s.is_call) e ∙ ap (λ z. c && z) h.call) (more h ends) ends

behind_base_follows : (b c : Bool) → b ≡ c → {ss tt : List Suffixed} → Lists RSuffixed ss tt → Lists RSuffixed (behind_base b ss) (behind_base c tt)
behind_base_follows b c e ends = ends
behind_base_follows b c e (more {x = s} {y = t} h hs) = chosen (b && s.is_call) (c && t.is_call) (ap (λ z. z && s.is_call) e ∙ ap (λ z. c && z) h.call) hs (more h hs)

deleted_follows : {x y : Expression} → RExpression x y → {ss tt : List Suffixed} → Lists RSuffixed ss tt → {s t : Option Suffixed} → Options RSuffixed s t → Follows (deleted_member x ss s) (deleted_member y tt t)
deleted_follows h hs absent = chained_follows h hs
deleted_follows {x} {y} h {ss} {tt} hs (present {x = s} {y = t} l) =
    subst (λ o. Follows (deleted_member x ss (Some s)) (of3 (λ base before k. forms.Delete base before o k) (chained y (in_base y.is_super tt)) (suffix_forms (behind_base y.is_super tt)) t.key)) l.optional
    (of3_follows (λ base before k. forms.Delete base before s.is_optional k)
    (chained_follows h (in_base_follows x.is_super y.is_super h.super hs)) (suffix_forms_follow (behind_base_follows x.is_super y.is_super h.super hs)) l.key)

pub left_follows : {x y : Expression} → RExpression x y → {ss tt : List Suffixed} → Lists RSuffixed ss tt → RExpression (left_made x ss) (left_made y tt)
left_follows h hs = record {
  named = λ name. chained_follows h hs;
  chain = λ ss tt k. of2_follows forms.Suffixes (chained_follows h hs) k;
  change = λ c d k. changed_follows h (before_last_follow hs) (last_follows hs) c d k;
  delete = deleted_follows h (before_last_follow hs) (last_follows hs);
  super = refl;
}

pub unary_follows : (o : UnaryOp) {x y : Expression} → RExpression x y → Follows (unary_form o x) (unary_form o y)
unary_follows op.Not h = of1_follows forms.Not (h.named [])
unary_follows op.Minus h = of1_follows (forms.Unary unary.Negate) (h.named [])
unary_follows op.Plus h = of1_follows (forms.Unary unary.ToNumber) (h.named [])
unary_follows op.TypeOf h = of1_follows (forms.Unary unary.TypeOf) (h.named [])
unary_follows op.Void h = of1_follows forms.Void (h.named [])
unary_follows op.Delete h = h.delete
unary_follows op.Await h = of1_follows forms.Await (h.named [])

pub piece_after_follows : (text : Units) → Follows (piece_after text) (piece_after text)
piece_after_follows [] = just_follows None
piece_after_follows (u ∷ us) = of1_follows (λ v. Some v) (text_follows (u ∷ us))

pub returned_follows : {x y : Expression} → RExpression x y → Follows (returned x) (returned y)
returned_follows h = of1_follows (λ z. forms.Return z ∷ []) (h.named [])

pub arguments_follow : {xs ys : Option (List (Making CoreArgument))} → Options (Lists Follows) xs ys → Follows (arguments_or_none xs) (arguments_or_none ys)
arguments_follow absent = just_follows []
arguments_follow (present h) = all_follows h

pub assigned_follows : (o : AssignOp) {x y : Making Core} → Follows x y → Follows (assigned o x) (assigned o y)
assigned_follows o h = of1_follows (change_with o) h

pub super_made_follows : (name : Units) → RExpression (record (plain (super_member name (just []))) { chain = super_member name; is_super = true }) (record (plain (super_member name (just []))) { chain = super_member name; is_super = true })
super_made_follows name = let alone : Follows (super_member name (just [])) (super_member name (just [])) = super_follows name (just_follows []) in record {
  named = λ given. alone;
  chain = λ ss tt k. super_follows name k;
  change = λ c d k. of2_follows (λ x _. x) alone k;
  delete = alone;
  super = refl;
}

pub written_follows : (text : Units) → RKey (written text) (written text)
written_follows text = record { key = of1_follows key.Plain (text_follows text); value = text_follows text; word = refl }

pub member_suffix_follows : (is_optional : Bool) {k l : Making CoreKey} → Follows k l → RSuffixed (member_suffix is_optional k) (member_suffix is_optional l)
member_suffix_follows is_optional h = record { form = of1_follows (suffix.Member is_optional) h; key = h; optional = refl; call = refl }

pub named_by_key : {x y : Expression} → RExpression x y → {k l : Key} → RKey k l → Follows (x.named k.word) (y.named l.word)
named_by_key {x} {y} h {k} {l} r = subst (λ w. Follows (x.named k.word) (y.named w)) r.word (h.named k.word)

pub made_by_key : {m n : Method} → RMethod m n → Follows (m.made kinds.Method m.key.word) (n.made kinds.Method n.key.word)
made_by_key {m} {n} h = subst (λ w. Follows (m.made kinds.Method m.key.word) (n.made kinds.Method w)) h.key.word (h.made kinds.Method m.key.word)

member_as_follows : (is_static is_constructor : Bool) {m n : Method} → RMethod m n → RMember (member_as is_static is_constructor m) (member_as is_static is_constructor n)
member_as_follows is_static true h = record { constructor = refl; made = λ kind name. of1_follows constructed (h.made kind name) }
member_as_follows is_static false h = record { constructor = refl; made = λ kind name. member_made_follows is_static h }

pub member_follows : (is_static : Bool) {m n : Method} → RMethod m n → RMember (member_as is_static (names_constructor is_static m.key.word) m) (member_as is_static (names_constructor is_static n.key.word) n)
member_follows is_static {m} {n} h =
    subst (λ w. RMember (member_as is_static (names_constructor is_static m.key.word) m) (member_as is_static (names_constructor is_static w) n)) h.key.word
    (member_as_follows is_static (names_constructor is_static m.key.word) h)
