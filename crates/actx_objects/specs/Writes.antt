-- Writes to the properties of an object, and what refuses them.
use Rattle.std.specs.Prelude.{◌≡◌, ℕ, Bool, false, not, ◌&&◌, nat_le, nat_lt, pos, List, take, Option, Some, None, if◌then◌else◌, is_some, is_none}
use Rattle.std.specs.declared.result.Result.{Result}
use Rattle.std.specs.declared.result.Result.TheVariants.{Ok, Err}
use Rattle.actx_value.specs.declared.value.Key.{Key}
use Rattle.actx_value.specs.declared.value.Key.TheVariants.{Index, Name}
use Rattle.actx_value.specs.declared.value.Value.{Value}
use Rattle.actx_value.specs.declared.value.Value.TheVariants.{Num}
use Rattle.actx_value.specs.declared.ids.ObjId.{ObjId}
use Rattle.actx_objects.specs.declared.refusal.SetError.{SetError}
use Rattle.actx_objects.specs.declared.refusal.SetError.TheVariants.{Frozen, Gap, ArrayProperty, Full, Memory}
use Rattle.actx_objects.specs.declared.refusal.DeleteError.{DeleteError}
use Rattle.actx_objects.specs.declared.refusal.DeleteError.TheVariants.{Frozen as Kept, Sparse}
use Rattle.actx_objects.specs.Keys.{normal_key, key_eq, is_length}
use Rattle.actx_objects.specs.Kinds.{is_array}
use Rattle.actx_objects.specs.Pairs.{without_key}
use Rattle.actx_objects.specs.Properties.{with_value}
use Rattle.actx_objects.specs.Objects.{ObjectStore, property_count, kind_of, is_frozen, width_of, prop_of, own_of, is_array_length, changed}

-- the length that a value stands for: a number from 0
abbrev pub length_in : Value → Option ℕ
length_in (Num (pos n)) = Some n
length_in v = None

-- whether an array of n elements takes this length: one up to n
abbrev pub reaches : ℕ → Option ℕ → Bool
reaches n (Some m) = nat_le m n
reaches n None = false

-- what an array of n elements refuses (ArraySetLength and the array's [[DefineOwnProperty]], ECMA-262
-- §10.4.2.1, §10.4.2.4, but for what would leave holes and what isn't an element)
abbrev pub array_refusal : List (List ℕ) → ℕ → Key → Value → Option SetError
array_refusal texts n (Index i) v = if nat_lt n i then Some Gap else None
array_refusal texts n (Name t) v = if is_length texts (Name t) then (if reaches n (length_in v) then None else Some Gap) else Some ArrayProperty

-- whether the limit of properties refuses a property at a normal key
abbrev pub has_no_room : ObjectStore → ObjId → Key → Bool
has_no_room s o k = nat_le s.most_properties (property_count s.objects) && is_none (prop_of s o k)

abbrev pub is_full_for : List (List ℕ) → ObjectStore → ObjId → Key → Bool
is_full_for texts s o k = not (is_array_length texts s o k) && has_no_room s o (normal_key texts k)

-- the first of two refusals
abbrev pub earlier : Option SetError → Option SetError → Option SetError
earlier None b = b
earlier (Some e) b = Some e

-- what refuses a write, in this order: a frozen object, a hole or another key of an array, the limit of
-- properties
abbrev pub refusal_of : List (List ℕ) → ObjectStore → ObjId → Key → Value → Option SetError
refusal_of texts s o k v =
    if is_frozen s o then Some Frozen
    else earlier (if is_array (kind_of s o) then array_refusal texts (width_of s o) k v else None)
    (if is_full_for texts s o k then Some Full else None)

-- a call that is refused gives this refusal, and any other succeeds or is out of memory
abbrev pub IsRefusedBy : {T : Type 0} → Option SetError → Result T SetError → Type 0
IsRefusedBy refusal (Ok x) = refusal ≡ None
IsRefusedBy (Some e) (Err f) = f ≡ e
IsRefusedBy None (Err f) = f ≡ Memory

-- the objects where an array has its first n elements
abbrev pub cut : ObjectStore → ObjId → ℕ → ObjectStore
cut s o n = changed s o (λ x. record x { props = take n x.props })

-- the objects with a value at a normal key
abbrev pub with_property : ObjectStore → ObjId → Key → Value → Bool → ObjectStore
with_property s o k v hidden = changed s o (λ x. record x { props = with_value k v hidden x.props })

abbrev pub cut_to : ObjectStore → ObjId → Option ℕ → ObjectStore
cut_to s o (Some n) = cut s o n
cut_to s o None = s

-- the objects after a write that isn't refused (OrdinarySet, ECMA-262 §10.1.9.1): a write to an array's
-- `length` cuts, any other gives the key this value, and `hidden` marks a new property
abbrev pub written : List (List ℕ) → ObjectStore → ObjId → Key → Value → Bool → ObjectStore
written texts s o k v hidden =
    if is_array_length texts s o k then cut_to s o (length_in v)
    else with_property s o (normal_key texts k) v hidden

-- whether an object has a property of its own at the key
abbrev pub has_own : List (List ℕ) → ObjectStore → ObjId → Key → Bool
has_own texts s o k = is_some (own_of texts s o k)

-- the objects without a property at a normal key
abbrev pub removed : ObjectStore → ObjId → Key → ObjectStore
removed s o k = changed s o (λ x. record x { props = without_key key_eq k x.props })

-- what keeps a property of its own: a frozen object, and an array its elements and its `length`
abbrev pub delete_refusal : List (List ℕ) → ObjectStore → ObjId → Key → Option DeleteError
delete_refusal texts s o k =
    if not (has_own texts s o k) then None
    else if is_frozen s o then Some Kept
    else if is_array (kind_of s o) then Some Sparse
    else None

-- the objects after a deletion (OrdinaryDelete, ECMA-262 §10.1.10.1)
abbrev pub deleted : List (List ℕ) → ObjectStore → ObjId → Key → ObjectStore
deleted texts s o k = if has_own texts s o k then removed s o (normal_key texts k) else s

-- the objects after a push, which gives an array a value at the index that was its length (ECMA-262
-- §23.1.3.23), and what refuses it
abbrev pub pushed : ObjectStore → ObjId → Value → ObjectStore
pushed s o v = with_property s o (Index (width_of s o)) v false

abbrev pub push_refusal : ObjectStore → ObjId → Option SetError
push_refusal s o =
    if is_frozen s o then Some Frozen
    else if has_no_room s o (Index (width_of s o)) then Some Full
    else None
