-- Scopes, and the slot that a use of a name means (ECMA-262 §9.1.2.1).
--
-- A scope is the list of its slots. Scopes come from the inside out; behind the last of them lie the global names.
use Rattle.std.specs.Prelude.{ℕ, ◌+◌, Bool, true, false, List, [], ◌∷◌, map, filter_map, Option, Some, None, if◌then◌else◌}
use Rattle.actx_text.specs.declared.units.Units.{Units}
use Rattle.actx_scope_rules.specs.declared.slot.Slot.{Slot}
use Rattle.actx_scope_rules.specs.declared.slot.Found.{Found}
use Rattle.actx_scope_rules.specs.Words.{is_word, global_names}

abbrev pub Scope : Type 0
Scope = List Slot

-- the name of a const, a class or a function
abbrev pub fixed_slot : Units → Slot
fixed_slot name = record { name = Some name; is_fixed = true }

-- the names of a declaration, of a const or not
abbrev pub slots_of : Bool → List Units → Scope
slots_of is_const names = map (λ name. record { name = Some name; is_fixed = is_const }) names

abbrev pub slot_names : Scope → List Units
slot_names slots = filter_map (λ (s : Slot). s.name) slots

-- The slots of each function but an arrow before its parameters: `this`, the function and the home object. A function
-- expression is found by its own name in the second.
abbrev pub hidden_slots : Option Units → Scope
hidden_slots name = record { name = None; is_fixed = true } ∷ record { name = name; is_fixed = true } ∷ record { name = None; is_fixed = true } ∷ []

abbrev pub global_slots : Scope
global_slots = map fixed_slot global_names

-- a slot and its number, or else another one
abbrev pub or_else : Option (ℕ × Bool) → Option (ℕ × Bool) → Option (ℕ × Bool)
or_else None other = other
or_else (Some x) other = Some x

-- The last slot of a name among these, the first of which has number i: a parameter hides the function's own name.
unfoldable pub last_slot : Units → Scope → ℕ → Option (ℕ × Bool)
last_slot name [] i = None
last_slot name (s ∷ ss) i = or_else (last_slot name ss (i + 1)) (if is_word name s.name then Some (i, s.is_fixed) else None)

abbrev pub found_at : ℕ → Bool → ℕ × Bool → Found
found_at hops is_global x = record { hops = hops; slot = x.0; is_global = is_global; is_fixed = x.1 }

abbrev pub found_or : Option (ℕ × Bool) → ℕ → Option Found → Option Found
found_or None hops further = further
found_or (Some x) hops further = Some (found_at hops false x)

abbrev pub global_at : Option (ℕ × Bool) → ℕ → Option Found
global_at None hops = None
global_at (Some x) hops = Some (found_at hops true x)

-- what a name means here, the first of the scopes being so many scopes out
unfoldable pub found_from : Units → List Scope → ℕ → Option Found
found_from name [] hops = global_at (last_slot name global_slots 0) hops
found_from name (s ∷ ss) hops = found_or (last_slot name s 0) hops (found_from name ss (hops + 1))

abbrev pub found : List Scope → Units → Option Found
found scopes name = found_from name scopes 0

-- the scopes inside one that is there only if it declares something
abbrev pub opened : Scope → List Scope → List Scope
opened [] scopes = scopes
opened (s ∷ ss) scopes = (s ∷ ss) ∷ scopes

-- whether a scope has a slot
abbrev pub has_any : Scope → Bool
has_any [] = false
has_any (s ∷ ss) = true

-- outside the innermost scope, if one was opened
abbrev pub closed : Bool → List Scope → List Scope
closed false scopes = scopes
closed true [] = []
closed true (s ∷ ss) = ss
