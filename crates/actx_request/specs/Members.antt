-- Requests that read a property.
use Rattle.std.specs.Prelude.{ℕ, ◌&&◌, Bool, pos, List, [], ◌∷◌, length, slice_get, Option, Some, None, unwrap_or, if◌then◌else◌}
use Rattle.actx_value.specs.Texts.{text_at}
use Rattle.actx_value.specs.declared.ids.ObjId.{ObjId}
use Rattle.actx_value.specs.declared.ids.TextId.{TextId}
use Rattle.actx_value.specs.declared.value.Key.{Key}
use Rattle.actx_value.specs.declared.value.Key.TheVariants.{Index, Name}
use Rattle.actx_value.specs.declared.value.Value.{Value}
use Rattle.actx_value.specs.declared.value.Value.TheVariants.{Undefined, Null, Bool as Truth, Num, Text, Object, Scope, Mark}
use Rattle.actx_value.specs.declared.error_kind.ErrorKind.TheVariants.{TypeError}
use Rattle.actx_ops.specs.Conversions.{key_of_value}
use Rattle.actx_objects.specs.Kinds.{is_collection}
use Rattle.actx_objects.specs.Keys.{normal_key, key_eq}
use Rattle.actx_objects.specs.Objects.{ObjectStore, kind_of, proto_of, value_of, size_of}
use Rattle.actx_request.specs.declared.home.Home.{Home}
use Rattle.actx_request.specs.Outcomes.{Stores, Outcome, gives, gives_text, throws}

-- whether two keys are one: names are equal where their texts are
abbrev pub same_key : List (List ℕ) → Key → Key → Bool
same_key texts a b = key_eq (normal_key texts a) (normal_key texts b)

-- the value along the prototypes, `undefined` where there is none
abbrev pub inherited : List (List ℕ) → ObjectStore → ObjId → Key → Value
inherited texts objects o k = unwrap_or (value_of texts objects o k) Undefined

-- `size` of a Map or a Set (ECMA-262 §24.1.3.10, §24.2.4.14), which is no property that an object holds
abbrev pub is_size : Home → List (List ℕ) → ObjectStore → ObjId → Key → Bool
is_size home texts objects o k = is_collection (kind_of objects o) && same_key texts k (Name home.size)

abbrev pub size_or_undefined : Home → List (List ℕ) → ObjectStore → ObjId → Key → Value
size_or_undefined home texts objects o k = if is_size home texts objects o k then Num (pos (size_of objects o)) else Undefined

-- a property of an object (OrdinaryGet, §10.1.8.1)
abbrev pub member_of : Home → List (List ℕ) → ObjectStore → ObjId → Key → Value
member_of home texts objects o k = unwrap_or (value_of texts objects o k) (size_or_undefined home texts objects o k)

-- the unit of a text at an index (StringGetOwnProperty, §10.4.3.5)
abbrev pub unit_at : List ℕ → Key → Option ℕ
unit_at text (Index i) = slice_get text i
unit_at text (Name t) = None

abbrev pub unit_or_inherited : Home → Option ℕ → Key → Stores → Outcome
unit_or_inherited home (Some u) k s = gives_text (u ∷ []) s
unit_or_inherited home None k s = gives (inherited s.texts.texts s.objects home.text k) s

-- a property of a text: its length, its units, and what texts inherit
abbrev pub member_of_text : Home → TextId → Key → Stores → Outcome
member_of_text home t k s =
    if same_key s.texts.texts k (Name home.length) then gives (Num (pos (length (text_at s.texts.texts t.0)))) s
    else unit_or_inherited home (unit_at (text_at s.texts.texts t.0) k) k s

-- Get (GetValue, §6.2.5.5): `undefined` and `null` are TypeError 3
abbrev pub member : Home → Value → Key → Stores → Outcome
member home (Object o) k s = gives (member_of home s.texts.texts s.objects o k) s
member home (Text t) k s = member_of_text home t k s
member home (Num n) k s = gives (inherited s.texts.texts s.objects home.number k) s
member home (Truth b) k s = gives (inherited s.texts.texts s.objects home.truth k) s
member home Undefined k s = throws (TypeError 3) s
member home Null k s = throws (TypeError 3) s
member home (Scope x) k s = throws (TypeError 3) s
member home Mark k s = throws (TypeError 3) s

abbrev pub get_of : Home → Value → Value → Stores → Outcome
get_of home v key s = member home v (key_of_value s.texts.texts key) s

-- SuperGet (MakeSuperPropertyReference, §13.3.7.3, and GetValue): where the home object has no prototype it is TypeError 3
abbrev pub member_above : Option ObjId → Key → Stores → Outcome
member_above None k s = throws (TypeError 3) s
member_above (Some p) k s = gives (inherited s.texts.texts s.objects p k) s

abbrev pub prototype_of : ObjectStore → Value → Option ObjId
prototype_of objects (Object o) = proto_of objects o
prototype_of objects v = None

abbrev pub super_get : Value → Value → Stores → Outcome
super_get v key s = member_above (prototype_of s.objects v) (key_of_value s.texts.texts key) s
