-- Requests that write a property or end one.
use Rattle.std.specs.Prelude.{ℕ, Bool, true, not, ◌&&◌, ◌||◌, ℤ, pos, negsuc, List, Option, Some, None, is_some, if◌then◌else◌}
use Rattle.std.specs.declared.result.Result.{Result}
use Rattle.std.specs.declared.result.Result.TheVariants.{Ok, Err}
use Rattle.actx_value.specs.Texts.{text_at}
use Rattle.actx_value.specs.declared.ids.ObjId.{ObjId}
use Rattle.actx_value.specs.declared.value.Key.{Key}
use Rattle.actx_value.specs.declared.value.Key.TheVariants.{Name}
use Rattle.actx_value.specs.declared.value.Value.{Value}
use Rattle.actx_value.specs.declared.value.Value.TheVariants.{Undefined, Bool as Truth, Num, Text, Object}
use Rattle.actx_value.specs.declared.operator.Op.TheVariants.{ToNumber}
use Rattle.actx_value.specs.declared.end.Reason.{Reason}
use Rattle.actx_value.specs.declared.end.Reason.TheVariants.{Conversion, Sparse, ArrayProperty}
use Rattle.actx_value.specs.declared.error_kind.ErrorKind.TheVariants.{TypeError, RangeError}
use Rattle.actx_ops.specs.declared.out.OpOut.{OpOut}
use Rattle.actx_ops.specs.declared.out.OpOut.TheVariants.{Value as Gives, OutOfProfile}
use Rattle.actx_ops.specs.Operators.{applied}
use Rattle.actx_ops.specs.Conversions.{key_of_value}
use Rattle.actx_objects.specs.declared.refusal.SetError.{SetError}
use Rattle.actx_objects.specs.declared.refusal.SetError.TheVariants as set
use Rattle.actx_objects.specs.declared.refusal.DeleteError.{DeleteError}
use Rattle.actx_objects.specs.declared.refusal.DeleteError.TheVariants as delete
use Rattle.actx_objects.specs.Objects.{is_frozen, is_array_length}
use Rattle.actx_objects.specs.Writes.{refusal_of, written, delete_refusal, deleted}
use Rattle.actx_request.specs.declared.home.Home.{Home}
use Rattle.actx_request.specs.Outcomes.{Stores, Outcome, gives, throws, leaves_profile, with_objects}
use Rattle.actx_request.specs.Members.{same_key, unit_at}

-- what a write gives by what refuses it; the limit of properties isn't looked at here
abbrev pub written_unless : Option SetError → Stores → Stores → Outcome
written_unless (Some set.Frozen) after s = throws (TypeError 4) s
written_unless (Some set.Gap) after s = leaves_profile Sparse s
written_unless (Some set.ArrayProperty) after s = leaves_profile ArrayProperty s
written_unless (Some set.Full) after s = gives Undefined after
written_unless (Some set.Memory) after s = gives Undefined after
written_unless None after s = gives Undefined after

-- a write to an object (OrdinarySet, ECMA-262 §10.1.9.1); `hidden` marks a new property
abbrev pub write_to : Bool → ObjId → Key → Value → Stores → Outcome
write_to hidden o k v s =
    written_unless (refusal_of s.texts.texts s.objects o k v) (with_objects (written s.texts.texts s.objects o k v hidden) s) s

-- a conversion to a number, or why there is none
abbrev pub as_number : OpOut → Result ℤ Reason
as_number (Gives (Num n)) = Ok n
as_number (OutOfProfile r) = Err r
as_number out = Err Conversion

-- a write to the `length` of an array that isn't frozen (ArraySetLength, §10.4.2.4), by what the value is as a number: below 0
-- it is RangeError 0
abbrev pub length_written : Bool → ObjId → Key → Result ℤ Reason → Stores → Outcome
length_written hidden o k (Ok (pos n)) s = write_to hidden o k (Num (pos n)) s
length_written hidden o k (Ok (negsuc n)) s = throws (RangeError 0) s
length_written hidden o k (Err r) s = leaves_profile r s

abbrev pub put_on : Bool → ObjId → Key → Value → Stores → Outcome
put_on hidden o k v s =
    if is_array_length s.texts.texts s.objects o k && not (is_frozen s.objects o) then length_written hidden o k (as_number (applied s.texts.texts ToNumber v v)) s
    else write_to hidden o k v s

-- what isn't an object takes no property: `undefined` and `null` are TypeError 3, any other is TypeError 10
abbrev pub takes_none : Value → Stores → Outcome
takes_none (Truth b) s = throws (TypeError 10) s
takes_none (Num n) s = throws (TypeError 10) s
takes_none (Text t) s = throws (TypeError 10) s
takes_none v s = throws (TypeError 3) s

abbrev pub put : Bool → Value → Key → Value → Stores → Outcome
put hidden (Object o) k v s = put_on hidden o k v s
put hidden target k v s = takes_none target s

-- Set (PutValue, §6.2.5.6) and Define (CreateDataPropertyOrThrow, §7.3.7), where `hidden` is false, and DefineMethod
-- (DefineMethodProperty, §10.2.8), where it is true
abbrev pub put_of : Bool → Value → Value → Value → Stores → Outcome
put_of hidden target key v s = put hidden target (key_of_value s.texts.texts key) v s

-- ---- Delete (§13.5.1.2)

abbrev pub deleted_unless : Option DeleteError → Stores → Stores → Outcome
deleted_unless (Some delete.Frozen) after s = throws (TypeError 4) s
deleted_unless (Some delete.Sparse) after s = leaves_profile Sparse s
deleted_unless None after s = gives (Truth true) after

abbrev pub delete_on : ObjId → Key → Stores → Outcome
delete_on o k s = deleted_unless (delete_refusal s.texts.texts s.objects o k) (with_objects (deleted s.texts.texts s.objects o k) s) s

-- whether a text has the property of its own: its length, or a unit (§10.4.3.5)
abbrev pub has_of_text : Home → List (List ℕ) → ℕ → Key → Bool
has_of_text home texts t k = same_key texts k (Name home.length) || is_some (unit_at (text_at texts t) k)

abbrev pub delete_at : Home → Value → Key → Stores → Outcome
delete_at home (Object o) k s = delete_on o k s
delete_at home (Text t) k s = if has_of_text home s.texts.texts t.0 k then throws (TypeError 10) s else gives (Truth true) s
delete_at home (Num n) k s = gives (Truth true) s
delete_at home (Truth b) k s = gives (Truth true) s
delete_at home v k s = throws (TypeError 3) s

abbrev pub delete_of : Home → Value → Value → Stores → Outcome
delete_of home target key s = delete_at home target (key_of_value s.texts.texts key) s
