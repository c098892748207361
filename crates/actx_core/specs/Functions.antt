-- Functions, methods and classes: their bodies, and the forms that make them (ECMA-262 §10.2.11, §15).
use Rattle.std.specs.Prelude.{codes, ℕ, ◌+◌, Bool, true, false, List, [], ◌∷◌, ◌++◌, length, map, Option, Some, None}
use Rattle.std.specs.List.{list_any}
use Rattle.actx_text.specs.declared.units.Units.{Units}
use Rattle.actx_text.specs.declared.body_id.BodyId.{BodyId}
use Rattle.actx_tree.specs.declared.function.Flow.{Flow}
use Rattle.actx_tree.specs.declared.function.Flow.TheVariants as flow
use Rattle.actx_tree.specs.declared.function.Unread.{Unread}
use Rattle.actx_value.specs.declared.value.Value.{Value}
use Rattle.actx_code.specs.declared.body.BodyKind.{BodyKind}
use Rattle.actx_code.specs.declared.body.BodyKind.TheVariants as kinds
use Rattle.actx_code.specs.declared.item.ClassMember.{ClassMember}
use Rattle.actx_scope_rules.specs.Scopes.{Scope, slots_of, hidden_slots, fixed_slot}
use Rattle.actx_core.specs.declared.core_form.Core.{Core}
use Rattle.actx_core.specs.declared.core_form.Core.TheVariants as forms
use Rattle.actx_core.specs.declared.core_parts.CoreArgument.TheVariants as argument
use Rattle.actx_core.specs.declared.core_parts.CoreKey.{CoreKey}
use Rattle.actx_core.specs.declared.core_parts.CorePattern.TheVariants as pattern
use Rattle.actx_core.specs.Making.{CoreBody, Making, just, of1, of2, of3, of4, all, maybe, text_number, text_value, body_made}
use Rattle.actx_core.specs.Names.{Names, entered, with_this, scoped}

-- the statements of the body of a range, as a list of forms
abbrev pub Inside : Type 0
Inside = Unread → Making (List Core)

-- forms one after another; one alone stands for itself (§14.2.2)
abbrev pub as_one : List Core → Core
as_one [] = forms.Sequence []
as_one (x ∷ []) = x
as_one (x ∷ y ∷ xs) = forms.Sequence (x ∷ y ∷ xs)

-- ---- bodies

-- Parameters: their names, and what binds them from a slot on.
pub record Params : Type 0 where
  pub names : List Units
  pub bound : ℕ → Making (List Core)

-- a generator begins after its parameters (§15.5.2)
abbrev pub begin : Flow → List Core
begin flow.Plain = []
begin flow.Async = []
begin flow.Generator = forms.Begin ∷ []

-- what a body does: its parameters first, and then its statements (§10.2.11)
abbrev pub body_form : Flow → List Core → List Core → Core
body_form f params items = forms.Sequence (params ++ (begin f ++ items))

-- an arrow: its parameters have a scope without hidden slots (§15.3)
abbrev pub arrow_body : Names → Flow → Units → Params → Making (List Core) → Making CoreBody
arrow_body names f name params items a = let b = entered names (slots_of false params.names) a in
    of3 (λ n ps is. record { kind = kinds.Arrow; flow = f; name = n; hidden = false; cells = length params.names; form = body_form f ps is })
    (text_number name) (λ _. params.bound 0 b) (λ _. items b) a

-- any other function: its hidden slots come before its parameters
abbrev pub function_body : Names → BodyKind → Flow → Units → Option Units → Params → Making (List Core) → Making CoreBody
function_body names kind f name own params items a = let b = with_this names (hidden_slots own ++ slots_of false params.names) a in
    of3 (λ n ps is. record { kind = kind; flow = f; name = n; hidden = true; cells = 3 + length params.names; form = body_form f ps is })
    (text_number name) (λ _. params.bound 3 b) (λ _. items b) a

-- ---- functions and methods

-- A function: its own name, and what makes it where it is declared, and as an expression under a name that it takes if it
-- has none.
pub record Function : Type 0 where
  pub name : Option Units
  pub declaration : Making BodyId
  pub expression : Units → Making BodyId

abbrev pub name_or : Option Units → Units → Units
name_or None other = other
name_or (Some name) other = name

-- §15.2.4, §15.2.5: an expression with a name is found by it in its own slot
abbrev pub function_made : Names → Inside → Flow → Option Units → Params → Unread → Function
function_made names inside f name params body = record {
  name = name;
  declaration = body_made (function_body names kinds.Function f (name_or name []) None params (inside body));
  expression = λ given. body_made (function_body names kinds.Function f (name_or name given) name params (inside body));
}

-- A key: what it is; its value and its text if it is written down.
pub record Key : Type 0 where
  pub key : Making CoreKey
  pub value : Making Value
  pub word : Units

-- A method: its key, and what makes it as a method or a constructor under a name (§15.4.4, §15.7.14).
pub record Method : Type 0 where
  pub key : Key
  pub made : BodyKind → Units → Making BodyId

abbrev pub method_made : Names → Inside → Flow → Key → Params → Unread → Method
method_made names inside f key params body = record {
  key = key;
  made = λ kind name. body_made (function_body names kind f name None params (inside body));
}

-- ---- classes (§15.7.14)

-- a member of a class: its constructor, or any other
pub data ClassPart : Type 0 where
  constructed : BodyId → ClassPart
  member : ClassMember → ClassPart

-- A member, for the kind of the class and its name.
pub record Member : Type 0 where
  pub is_constructor : Bool
  pub made : BodyKind → Units → Making ClassPart

-- no key of a class is computed
abbrev pub member_made : Bool → Method → Making ClassPart
member_made is_static m = of2 (λ k body. member (record { is_static = is_static; key = k; body = body })) m.key.value (m.made kinds.Method m.key.word)

abbrev pub constructor_made : Method → BodyKind → Units → Making ClassPart
constructor_made m kind name = of1 constructed (m.made kind name)

-- the constructor of a class that has none: `constructor(...args) { super(...args); }` with `extends`, and else one that does
-- nothing
abbrev pub implicit_params : BodyKind → Params
implicit_params kinds.File = record { names = []; bound = λ slot. just [] }
implicit_params kinds.Function = record { names = []; bound = λ slot. just [] }
implicit_params kinds.Arrow = record { names = []; bound = λ slot. just [] }
implicit_params kinds.Method = record { names = []; bound = λ slot. just [] }
implicit_params kinds.Class = record { names = []; bound = λ slot. just [] }
implicit_params kinds.DerivedClass = record { names = codes "args" ∷ []; bound = λ slot. just (forms.RestParameter 0 (pattern.Slot slot) ∷ []) }

abbrev pub implicit_items : BodyKind → List Core
implicit_items kinds.File = []
implicit_items kinds.Function = []
implicit_items kinds.Arrow = []
implicit_items kinds.Method = []
implicit_items kinds.Class = []
implicit_items kinds.DerivedClass = forms.SuperCall 0 (argument.Spread (forms.Name 0 3) ∷ []) ∷ []

abbrev pub implicit_constructor : Names → BodyKind → Units → Making BodyId
implicit_constructor names kind name = body_made (function_body names kind flow.Plain name None (implicit_params kind) (just (implicit_items kind)))

abbrev pub class_kind : {A : Type 0} → Option A → BodyKind
class_kind None = kinds.Class
class_kind (Some parent) = kinds.DerivedClass

abbrev pub is_constructor : Member → Bool
is_constructor m = m.is_constructor

-- the implicit constructor begins where the class begins
abbrev pub implicit_if : Names → Bool → BodyKind → Units → Making (Option BodyId)
implicit_if names true kind name = just None
implicit_if names false kind name = of1 (λ body. Some body) (implicit_constructor names kind name)

-- the constructor is the implicit one, or the first that is a member
abbrev pub constructor_of : Option BodyId → List ClassPart → BodyId
constructor_of (Some body) parts = body
constructor_of None [] = record { 0 = 0 }
constructor_of None (constructed body ∷ parts) = body
constructor_of None (member m ∷ parts) = constructor_of None parts

abbrev pub members_of : List ClassPart → List ClassMember
members_of [] = []
members_of (constructed body ∷ parts) = members_of parts
members_of (member m ∷ parts) = m ∷ members_of parts

-- a class of this kind; whether one of its members is its constructor
abbrev pub class_parts : Names → BodyKind → Option (Making Core) → List Member → Bool → Units → Making Core
class_parts names kind parent members has name =
    of4 (λ implicit extended prototype parts. forms.Class (constructor_of implicit parts) extended prototype (members_of parts))
    (implicit_if names has kind name)
    (maybe parent)
    (text_value (codes "prototype"))
    (all (map (λ (m : Member). m.made kind name) members))

abbrev pub class_form : Names → Option (Making Core) → List Member → Units → Making Core
class_form names parent members name = class_parts names (class_kind parent) parent members (list_any is_constructor members) name

-- A class: its own name, and what makes it where it is declared, and as an expression under a name that it takes if it has
-- none.
pub record Class : Type 0 where
  pub name : Option Units
  pub declaration : Making Core
  pub expression : Units → Making Core

-- an expression with a name has a scope for it
abbrev pub class_expression : Names → Option Units → (Units → Making Core) → Units → Making Core
class_expression names None class given = class given
class_expression names (Some name) class given = of1 (λ x. forms.Block 1 [] (forms.Init 0 x)) (scoped names (fixed_slot name ∷ []) (class name))

abbrev pub class_made : Names → Option Units → Option (Making Core) → List Member → Class
class_made names name parent members = record {
  name = name;
  declaration = class_form names parent members (name_or name []);
  expression = class_expression names name (class_form names parent members);
}
