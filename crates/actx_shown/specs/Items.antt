-- What stands in a container, in order.
use Rattle.std.specs.Prelude.{ℕ, Bool, true, false, List, [], ◌++◌, map, Some, None, unwrap_or, codes, if◌then◌else◌}
use Rattle.actx_value.specs.declared.ids.ObjId.{ObjId}
use Rattle.actx_value.specs.declared.value.Key.{Key}
use Rattle.actx_value.specs.declared.value.Value.{Value}
use Rattle.actx_value.specs.declared.value.Value.TheVariants.{Undefined}
use Rattle.actx_objects.specs.declared.kind.Kind.{Kind}
use Rattle.actx_objects.specs.declared.kind.Kind.TheVariants.{Array, Map, Set}
use Rattle.actx_objects.specs.Objects.{ObjectStore, kind_of, own_of, keys_of, entries_of}
use Rattle.actx_objects.specs.declared.entries.Placed.{Placed}
use Rattle.actx_shown.specs.declared.items.Item.{Item}
use Rattle.actx_shown.specs.Quotes.{key_form}

-- a value alone
abbrev pub alone : Value → Item
alone v = record { label = []; value = v; under = None }

-- the elements of an array: the values at its indices, which are its listed keys
abbrev pub elements : List (List ℕ) → ObjectStore → ObjId → List Item
elements texts s o = map (λ k. alone (unwrap_or (own_of texts s o k) Undefined)) (keys_of s o)

-- the properties of an object that are listed (EnumerableOwnProperties, ECMA-262 §7.3.23)
abbrev pub property : List (List ℕ) → ObjectStore → ObjId → Key → Item
property texts s o k = record { label = key_form texts k ++ codes ": "; value = unwrap_or (own_of texts s o k) Undefined; under = None }

abbrev pub properties : List (List ℕ) → ObjectStore → ObjId → List Item
properties texts s o = map (property texts s o) (keys_of s o)

-- the entries of a Map, with their values, or of a Set, without
abbrev pub entry_item : Bool → Value → Value → Item
entry_item has_values key value = record { label = []; value = key; under = if has_values then Some value else None }

abbrev pub entry : Bool → Value × Placed → Item
entry has_values e = entry_item has_values e.0 e.1.value

abbrev pub entries : Bool → ObjectStore → ObjId → List Item
entries has_values s o = map (entry has_values) (entries_of s o).standing

abbrev pub items_in : Kind → List (List ℕ) → ObjectStore → ObjId → List Item
items_in Array texts s o = elements texts s o
items_in Map texts s o = entries true s o
items_in Set texts s o = entries false s o
items_in kind texts s o = properties texts s o

abbrev pub items_of : List (List ℕ) → ObjectStore → ObjId → List Item
items_of texts s o = items_in (kind_of s o) texts s o
