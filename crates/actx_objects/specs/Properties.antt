-- The properties of an object in order of creation, and which of them are listed.
use Rattle.std.specs.Prelude.{ℕ, Bool, true, false, not, nat_le, List, [], ◌∷◌, ◌++◌, map, Option, Some, None, if◌then◌else◌}
use Rattle.std.specs.List.{filter, filter_map}
use Rattle.actx_value.specs.declared.value.Key.{Key}
use Rattle.actx_value.specs.declared.value.Key.TheVariants.{Index, Name}
use Rattle.actx_value.specs.declared.value.Value.{Value}
use Rattle.actx_objects.specs.declared.props.Prop.{Prop}
use Rattle.actx_objects.specs.Keys.{key_eq}
use Rattle.actx_objects.specs.Pairs.{at_key, with_key}

-- the mark of a property that is there, or that of a new one
abbrev pub mark_of : Option Prop → Bool → Bool
mark_of None hidden = hidden
mark_of (Some p) hidden = p.hidden

-- the properties with a value at the key: one that is there keeps its place and its mark, and a new one
-- goes last with the mark `hidden` (ValidateAndApplyPropertyDescriptor, ECMA-262 §10.1.6.3)
abbrev pub with_value : Key → Value → Bool → List (Key × Prop) → List (Key × Prop)
with_value k v hidden ps = with_key key_eq k (record { value = v; hidden = mark_of (at_key key_eq k ps) hidden }) ps

-- the keys of the properties that aren't hidden, in order of creation
abbrev pub shown_keys : List (Key × Prop) → List Key
shown_keys ps = map (λ p. p.0) (filter (λ p. not p.1.hidden) ps)

abbrev pub index_in : Key → Option ℕ
index_in (Index i) = Some i
index_in (Name t) = None

abbrev pub is_name : Key → Bool
is_name (Index i) = false
is_name (Name t) = true

-- an ascending list of indices, with one more
abbrev pub with_index : ℕ → List ℕ → List ℕ
with_index i [] = i ∷ []
with_index i (j ∷ js) = if nat_le i j then i ∷ j ∷ js else j ∷ with_index i js

abbrev pub ascending : List ℕ → List ℕ
ascending [] = []
ascending (i ∷ is) = with_index i (ascending is)

-- the keys in their order: indices ascending, then the others in order of creation
-- (OrdinaryOwnPropertyKeys, ECMA-262 §10.1.11.1)
abbrev pub keys_in_order : List Key → List Key
keys_in_order ks = map Index (ascending (filter_map index_in ks)) ++ filter is_name ks
