-- The operators that look at objects: `typeof`, `in` and `instanceof`.
use Rattle.std.specs.Prelude.{ℕ, zero, suc, ◌==◌, Bool, true, false, ◌||◌, List, length, Option, Some, None, is_some, if◌then◌else◌}
use Rattle.std.specs.Option.{option_map_or}
use Rattle.actx_value.specs.Texts.{number_of}
use Rattle.actx_value.specs.declared.ids.ObjId.{ObjId}
use Rattle.actx_value.specs.declared.ids.TextId.{TextId}
use Rattle.actx_value.specs.declared.value.Key.{Key}
use Rattle.actx_value.specs.declared.value.Key.TheVariants.{Name}
use Rattle.actx_value.specs.declared.value.Value.{Value}
use Rattle.actx_value.specs.declared.value.Value.TheVariants.{Undefined, Null, Bool as Truth, Num, Text, Object, Scope, Mark}
use Rattle.actx_value.specs.declared.error_kind.ErrorKind.TheVariants.{TypeError}
use Rattle.actx_ops.specs.declared.out.OpOut.{OpOut}
use Rattle.actx_ops.specs.declared.out.OpOut.TheVariants.{Value as Gives, NewText, Throw, OutOfProfile}
use Rattle.actx_ops.specs.Conversions.{as_key, key_of_value}
use Rattle.actx_objects.specs.Objects.{ObjectStore, proto_of, value_of}
use Rattle.actx_request.specs.declared.home.Home.{Home}
use Rattle.actx_request.specs.Outcomes.{Stores, Outcome, gives, throws, leaves_profile}
use Rattle.actx_request.specs.Members.{is_size}
use Rattle.actx_world.specs.Setup.{Setup, TypeWords}
use Rattle.actx_world.specs.Parts.{Part}
use Rattle.actx_world.specs.Functions.{is_callable, target_of, get}

-- ---- `typeof` (ECMA-262 §13.5.3)

abbrev pub object_word : TypeWords → Bool → TextId
object_word words callable = if callable then words.function else words.object

abbrev pub type_word : Setup → List Part → Value → TextId
type_word setup parts Undefined = setup.builtins.words.undefined
type_word setup parts Null = setup.builtins.words.object
type_word setup parts (Truth b) = setup.builtins.words.boolean
type_word setup parts (Num n) = setup.builtins.words.number
type_word setup parts (Text t) = setup.builtins.words.string
type_word setup parts (Object o) = object_word setup.builtins.words (is_callable setup parts (Object o))
type_word setup parts (Scope s) = setup.builtins.words.undefined
type_word setup parts Mark = setup.builtins.words.undefined

abbrev pub type_of : Setup → List Part → Value → Stores → Outcome
type_of setup parts v s = gives (Text (type_word setup parts v)) s

-- ---- `in` (§13.10.1)

-- HasProperty (§7.3.11); `size` of a Map or a Set is no property that an object holds
abbrev pub has_property : Home → Stores → ObjId → Key → Bool
has_property home s o k = is_some (value_of s.texts.texts s.objects o k) || is_size home s.texts.texts s.objects o k

-- by what the left operand is as a key; a text without a number is the key of no property
abbrev pub has_key : Home → Stores → ObjId → OpOut → Outcome
has_key home s o (Gives v) = gives (Truth (has_property home s o (key_of_value s.texts.texts v))) s
has_key home s o (NewText text) = gives (Truth (option_map_or (λ t. has_property home s o (Name (record { 0 = t }))) (number_of s.texts.texts text) false)) s
has_key home s o (Throw e) = throws e s
has_key home s o (OutOfProfile r) = leaves_profile r s

abbrev pub is_in : Setup → Value → Value → Stores → Outcome
is_in setup key (Object o) s = has_key setup.builtins.home s o (as_key s.texts.texts key)
is_in setup key v s = throws (TypeError 10) s

-- ---- `instanceof` (§13.10.2)

-- whether p is among the prototypes of an object; each prototype was made before
abbrev pub is_above : ℕ → ObjectStore → ObjId → Option ObjId → Bool
is_above zero objects p q = false
is_above (suc n) objects p None = false
is_above (suc n) objects p (Some q) = if q.0 == p.0 then true else is_above n objects p (proto_of objects q)

-- OrdinaryHasInstance (§7.3.21) by the `prototype` of the function
abbrev pub has_instance : Stores → ObjId → Value → Outcome
has_instance s o (Object p) = gives (Truth (is_above (length s.objects.objects) s.objects p (proto_of s.objects o))) s
has_instance s o v = throws (TypeError 10) s

abbrev pub instance_of_function : Setup → List Part → Value → ObjId → Stores → Outcome
instance_of_function setup parts (Object o) f s = has_instance s o (get s (target_of parts f) setup.builtins.prototype)
instance_of_function setup parts v f s = gives (Truth false) s

-- a right operand that can't be called is TypeError 0; a bound function stands for its target
abbrev pub instance_if : Bool → Setup → List Part → Value → ObjId → Stores → Outcome
instance_if true setup parts v f s = instance_of_function setup parts v f s
instance_if false setup parts v f s = throws (TypeError 0) s

abbrev pub is_instance : Setup → List Part → Value → Value → Stores → Outcome
is_instance setup parts v (Object f) s = instance_if (is_callable setup parts (Object f)) setup parts v f s
is_instance setup parts v w s = throws (TypeError 0) s
