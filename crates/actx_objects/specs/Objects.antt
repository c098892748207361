-- The objects of a run as a list of records, and what each call reads and leaves. `texts` are the texts
-- by number, and names are equal where their texts are.
use Rattle.std.specs.Prelude.{ℕ, zero, suc, ◌+◌, Bool, true, false, ◌&&◌, nat_le, nat_lt, pos, List, [], ◌∷◌, ◌++◌, length, sum_by, slice_get, slice_set, Option, Some, None, if◌then◌else◌, is_some, is_none}
use Rattle.std.specs.Option.{option_map, option_map_or, option_and_then}
use Rattle.actx_value.specs.declared.value.Key.{Key}
use Rattle.actx_value.specs.declared.value.Value.{Value}
use Rattle.actx_value.specs.declared.value.Value.TheVariants.{Num}
use Rattle.actx_value.specs.declared.ids.ObjId.{ObjId}
use Rattle.actx_objects.specs.declared.props.Prop.{Prop}
use Rattle.actx_objects.specs.declared.kind.Kind.{Kind}
use Rattle.actx_objects.specs.declared.kind.Kind.TheVariants.{Plain}
use Rattle.actx_objects.specs.declared.object.Object.{Object}
use Rattle.actx_objects.specs.Keys.{normal_key, normal_value, key_eq, is_length}
use Rattle.actx_objects.specs.Kinds.{is_array, is_collection}
use Rattle.actx_objects.specs.Pairs.{at_key}
use Rattle.actx_objects.specs.Properties.{shown_keys, keys_in_order}
use Rattle.actx_objects.specs.Entries.{EntryList, entry_in, with_entry, without_entry, first_from}

-- the objects from number 0 on, and the most objects, and the most properties and entries in all
pub record ObjectStore : Type 0 where
  pub objects : List Object
  pub most_objects : ℕ
  pub most_properties : ℕ

-- what an object counts: its properties, and each entry that was put under a new key
abbrev pub weight_of : Object → ℕ
weight_of x = length x.props + x.entries.places

abbrev pub property_count : List Object → ℕ
property_count os = sum_by weight_of os

-- an object number that isn't there counts as a frozen Plain object without prototype and properties
abbrev pub object_at : ObjectStore → ObjId → Option Object
object_at s o = slice_get s.objects o.0

abbrev pub is_there : ObjectStore → ObjId → Bool
is_there s o = is_some (object_at s o)

abbrev pub kind_of : ObjectStore → ObjId → Kind
kind_of s o = option_map_or (λ x. x.kind) (object_at s o) Plain

abbrev pub proto_of : ObjectStore → ObjId → Option ObjId
proto_of s o = option_and_then (λ x. x.proto) (object_at s o)

abbrev pub is_frozen : ObjectStore → ObjId → Bool
is_frozen s o = option_map_or (λ x. x.frozen) (object_at s o) true

-- how many properties an object has; of an array that is its length (ECMA-262 §10.4.2), since its elements
-- are its only ones
abbrev pub width_of : ObjectStore → ObjId → ℕ
width_of s o = option_map_or (λ x. length x.props) (object_at s o) 0

-- what stands at a normal key
abbrev pub prop_of : ObjectStore → ObjId → Key → Option Prop
prop_of s o k = option_and_then (λ x. at_key key_eq k x.props) (object_at s o)

-- whether a key is the `length` of an array
abbrev pub is_array_length : List (List ℕ) → ObjectStore → ObjId → Key → Bool
is_array_length texts s o k = is_array (kind_of s o) && is_length texts k

-- an object's own value at a key (OrdinaryGetOwnProperty, ECMA-262 §10.1.5.1)
abbrev pub own_of : List (List ℕ) → ObjectStore → ObjId → Key → Option Value
own_of texts s o k =
    if is_array_length texts s o k then Some (Num (pos (width_of s o)))
    else option_map (λ p. p.value) (prop_of s o (normal_key texts k))

-- the first value at the key on a walk of n objects along the prototypes
abbrev pub walk : ℕ → List (List ℕ) → ObjectStore → ObjId → Key → Option Value
walk zero texts s o k = None
walk (suc n) texts s o k = option_map_or Some (own_of texts s o k) (option_map_or (λ q. walk n texts s q k) (proto_of s o) None)

-- the value at the key along the prototypes (OrdinaryGet, ECMA-262 §10.1.8.1); a walk looks at no more
-- objects than there are
abbrev pub value_of : List (List ℕ) → ObjectStore → ObjId → Key → Option Value
value_of texts s o k = walk (length s.objects) texts s o k

-- the keys that are listed (EnumerableOwnProperties, ECMA-262 §7.3.23)
abbrev pub keys_of : ObjectStore → ObjId → List Key
keys_of s o = option_map_or (λ x. keys_in_order (shown_keys x.props)) (object_at s o) []

-- the elements of an array, the standing entries of a Map or a Set
abbrev pub size_in : Object → ℕ
size_in x = if is_array x.kind then length x.props else if is_collection x.kind then length x.entries.standing else 0

abbrev pub size_of : ObjectStore → ObjId → ℕ
size_of s o = option_map_or size_in (object_at s o) 0

-- a prototype that isn't there is none
abbrev pub standing : ObjectStore → Option ObjId → Option ObjId
standing s None = None
standing s (Some p) = if nat_lt p.0 (length s.objects) then Some p else None

-- one more object (OrdinaryObjectCreate, ECMA-262 §10.1.12)
abbrev pub made : ObjectStore → Kind → Option ObjId → ObjectStore
made s kind proto =
    record s { objects = s.objects ++ record { kind = kind; proto = standing s proto; frozen = false; props = []; entries = record { standing = []; places = 0 } } ∷ [] }

-- the objects with a change at one of them
abbrev pub changed : ObjectStore → ObjId → (Object → Object) → ObjectStore
changed s o f = option_map_or (λ x. record s { objects = slice_set s.objects o.0 (f x) }) (object_at s o) s

-- an object that is frozen (SetIntegrityLevel, ECMA-262 §7.3.15)
abbrev pub frozen_by : ObjectStore → ObjId → ObjectStore
frozen_by s o = changed s o (λ x. record x { frozen = true })

-- an object with this prototype (OrdinarySetPrototypeOf, ECMA-262 §10.1.2.1)
abbrev pub with_proto : ObjectStore → ObjId → ObjId → ObjectStore
with_proto s o p = changed s o (λ x. record x { proto = standing s (Some p) })

-- the value under a normal key of a Map or a Set
abbrev pub placed_of : ObjectStore → ObjId → Value → Option Value
placed_of s o key = option_map (λ e. e.value) (option_and_then (λ x. entry_in key x.entries) (object_at s o))

-- the value under a key (Map.prototype.get, ECMA-262 §24.1.3.6)
abbrev pub entry_of : List (List ℕ) → ObjectStore → ObjId → Value → Option Value
entry_of texts s o key = placed_of s o (normal_value texts key)

-- the entries of an object
abbrev pub entries_of : ObjectStore → ObjId → EntryList
entries_of s o = option_map_or (λ x. x.entries) (object_at s o) (record { standing = []; places = 0 })

-- the first entry whose place is at least this one
abbrev pub entry_from : ObjectStore → ObjId → ℕ → Option (ℕ × Value × Value)
entry_from s o place = option_and_then (λ x. first_from place x.entries) (object_at s o)

abbrev pub entry_put : ObjectStore → ObjId → Value → Value → ObjectStore
entry_put s o key v = changed s o (λ x. record x { entries = with_entry key v x.entries })

abbrev pub entry_dropped : ObjectStore → ObjId → Value → ObjectStore
entry_dropped s o key = changed s o (λ x. record x { entries = without_entry key x.entries })

-- whether the limit of properties refuses an entry under a normal key
abbrev pub has_no_place : ObjectStore → ObjId → Value → Bool
has_no_place s o key = nat_le s.most_properties (property_count s.objects) && is_none (placed_of s o key)
