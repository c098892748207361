-- What stands around a node, as far as names and early errors ask for it.
use Rattle.std.specs.Prelude.{Bool, true, false, List, [], ◌∷◌, ◌++◌, Option, Some, None}
use Rattle.actx_text.specs.declared.units.Units.{Units}
use Rattle.actx_tree.specs.declared.function.Flow.{Flow}
use Rattle.actx_tree.specs.declared.function.Flow.TheVariants as flow
use Rattle.actx_scope_rules.specs.declared.place.Owner.{Owner}
use Rattle.actx_scope_rules.specs.declared.place.Owner.TheVariants as owner
use Rattle.actx_scope_rules.specs.declared.place.Place.{Place}
use Rattle.actx_scope_rules.specs.declared.place.Role.{Role}
use Rattle.actx_scope_rules.specs.declared.place.Role.TheVariants as roles
use Rattle.actx_scope_rules.specs.Scopes.{Scope, fixed_slot, hidden_slots, slots_of, opened}

-- ---- places

-- around the statements of a file
abbrev pub file_place : Place
file_place = record { owner = owner.Other; in_loop = false; in_function = false; can_await = false; can_yield = false; can_super_call = false; can_super_member = false }

abbrev pub turn_place : Place → Place
turn_place p = record p { in_loop = true }

abbrev pub owned_place : Owner → Place → Place
owned_place o p = record p { owner = o }

-- in the parameters of an arrow: `super` means what it means around the arrow
abbrev pub arrow_place : Place → Place
arrow_place p = record p { owner = owner.Other; in_loop = false; in_function = true; can_await = false; can_yield = false }

-- in the parameters of a method; whether it is the constructor of a class with `extends`
abbrev pub method_place : Bool → Place → Place
method_place can_call p = record (arrow_place p) { can_super_call = can_call; can_super_member = true }

-- in the parameters of any other function
abbrev pub function_place : Place → Place
function_place p = record (arrow_place p) { can_super_call = false; can_super_member = false }

abbrev pub is_async : Flow → Bool
is_async flow.Plain = false
is_async flow.Async = true
is_async flow.Generator = false

abbrev pub is_generator : Flow → Bool
is_generator flow.Plain = false
is_generator flow.Async = false
is_generator flow.Generator = true

-- in the body behind the parameters
abbrev pub body_place : Flow → Place → Place
body_place f p = record p { can_await = is_async f; can_yield = is_generator f }

-- ---- contexts

-- `earlier` are the names that stand before this place in the innermost scope.
pub record Context : Type 0 where
  pub scopes : List Scope
  pub earlier : List Units
  pub role : Role
  pub place : Place

-- around the statements of a file
abbrev pub file_context : Context
file_context = record { scopes = []; earlier = []; role = roles.Evaluated; place = file_place }

-- in a scope of these slots, if there are any, before which no name stands
abbrev pub within : Scope → Context → Context
within slots c = record c { scopes = opened slots c.scopes; earlier = [] }

-- behind these names
abbrev pub behind : List Units → Context → Context
behind names c = record c { earlier = c.earlier ++ names }

abbrev pub as_role : Role → Context → Context
as_role r c = record c { role = r }

abbrev pub owned_by : Owner → Context → Context
owned_by o c = record c { place = owned_place o c.place }

abbrev pub in_turn : Context → Context
in_turn c = record c { place = turn_place c.place }

-- in the parameters of a function that has these slots before them; the scope is there even where it has no slot
abbrev pub in_params : Scope → List Units → Place → Context → Context
in_params slots names p c = record { scopes = (slots ++ slots_of false names) ∷ c.scopes; earlier = []; role = roles.Evaluated; place = p }

abbrev pub in_arrow_params : List Units → Context → Context
in_arrow_params names c = in_params [] names (arrow_place c.place) c

-- of a function that is found by this name in its own slot
abbrev pub in_function_params : Option Units → List Units → Context → Context
in_function_params name names c = in_params (hidden_slots name) names (function_place c.place) c

abbrev pub in_method_params : Bool → List Units → Context → Context
in_method_params can_call names c = in_params (hidden_slots None) names (method_place can_call c.place) c

-- in the body behind the parameters: it may not declare their names again
abbrev pub in_body : Flow → List Units → Context → Context
in_body f names c = record c { earlier = names; place = body_place f c.place }

-- the own name of a function or a class, unless it is declared and so stands in the scope around it
abbrev pub own_name : Role → Option Units → Option Units
own_name roles.Evaluated name = name
own_name roles.Assigned name = name
own_name roles.Declared name = None

-- a class has a scope if it is an expression with a name
abbrev pub named_scope : Option Units → Scope
named_scope None = []
named_scope (Some name) = fixed_slot name ∷ []

abbrev pub in_class : Option Units → Context → Context
in_class name c = record c { scopes = opened (named_scope (own_name c.role name)) c.scopes; role = roles.Evaluated }
