-- What `check` answers.
use Rattle.std.specs.Prelude.{◌≡◌, ℕ, Bool, List, map, Option, Some}
use Rattle.actx_scope_rules.specs.declared.early.Early.{Early}
use Rattle.actx_scope_rules.specs.declared.slot.Use.{Use}
use Rattle.actx_scope.specs.declared.slots.Place.{Place}
use Rattle.actx_scope.specs.declared.slots.ScopeError.{ScopeError}
use Rattle.actx_scope.specs.declared.slots.ScopeError.TheVariants as error

-- the node, how many scopes out, which slot, and whether it is a global name
abbrev pub slot_of : Use → ℕ × ℕ × ℕ × Bool
slot_of u = (u.at, u.name.hops, u.name.slot, u.name.is_global)

abbrev pub place_slot : Place → ℕ × ℕ × ℕ × Bool
place_slot p = (p.node, p.hops, p.slot, p.is_global)

abbrev pub slots_of_uses : List Use → List (ℕ × ℕ × ℕ × Bool)
slots_of_uses uses = map slot_of uses

-- An early error is that one; want of memory may come always.
abbrev pub RefusedFor : Option Early → ScopeError → Type 0
RefusedFor early (error.Early kind at) = early ≡ Some (record { kind = kind; at = at })
RefusedFor early error.Memory = Unit {0}
