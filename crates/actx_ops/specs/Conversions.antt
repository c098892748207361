-- Conversions of values, where `texts` are the texts by number.
use Rattle.std.specs.Prelude.{◌≡◌, ◌++◌, ℕ, Bool, true, false, ℤ, pos, List, length, nat_lt, Option, Some, None, codes, if◌then◌else◌}
use Rattle.std.specs.Fmt.{signed_decimal}
use Rattle.actx_value.specs.Texts.{text_at}
use Rattle.actx_value.specs.declared.ids.TextId.{TextId}
use Rattle.actx_value.specs.declared.value.Value.{Value}
use Rattle.actx_value.specs.declared.value.Value.TheVariants.{Undefined, Null, Bool as Truth, Num, Text, Object, Scope, Mark}
use Rattle.actx_value.specs.declared.value.Key.{Key}
use Rattle.actx_value.specs.declared.value.Key.TheVariants.{Index, Name}
use Rattle.actx_value.specs.declared.end.Reason.TheVariants.{Conversion}
use Rattle.actx_ops.specs.declared.out.OpOut.{OpOut}
use Rattle.actx_ops.specs.declared.out.OpOut.TheVariants.{Value as Gives, NewText, OutOfProfile}
use Rattle.actx_ops.specs.Texts.{number_in, index_in, index_of}

-- the number of a text that is there; any other number counts as that of the empty text
abbrev pub known : List (List ℕ) → TextId → TextId
known texts t = if nat_lt t.0 (length texts) then t else record { 0 = 0 }

-- a value as a number (ToNumber, ECMA-262 §7.1.4), where it is a safe integer
abbrev pub number_of_value : List (List ℕ) → Value → Option ℤ
number_of_value texts Undefined = None
number_of_value texts Null = Some (pos 0)
number_of_value texts (Truth true) = Some (pos 1)
number_of_value texts (Truth false) = Some (pos 0)
number_of_value texts (Num n) = Some n
number_of_value texts (Text t) = number_in (text_at texts t.0)
number_of_value texts (Object o) = None
number_of_value texts (Scope s) = None
number_of_value texts Mark = None

-- a value as a text (ToString, ECMA-262 §7.1.17), where it is no object
abbrev pub text_of_value : List (List ℕ) → Value → Option (List ℕ)
text_of_value texts Undefined = Some (codes "undefined")
text_of_value texts Null = Some (codes "null")
text_of_value texts (Truth true) = Some (codes "true")
text_of_value texts (Truth false) = Some (codes "false")
text_of_value texts (Num n) = Some (signed_decimal n)
text_of_value texts (Text t) = Some (text_at texts t.0)
text_of_value texts (Object o) = None
text_of_value texts (Scope s) = None
text_of_value texts Mark = None

-- a new text, or no conversion
abbrev pub new_text : Option (List ℕ) → OpOut
new_text (Some text) = NewText text
new_text None = OutOfProfile Conversion

-- a value as a text: a text is handed on
abbrev pub as_text : List (List ℕ) → Value → OpOut
as_text texts (Text t) = Gives (Text (known texts t))
as_text texts v = new_text (text_of_value texts v)

-- a value as a property key (ToPropertyKey, ECMA-262 §7.1.19): an index as a number, any other key as
-- a text
abbrev pub index_or : Option ℕ → OpOut → OpOut
index_or (Some n) other = Gives (Num (pos n))
index_or None other = other

abbrev pub as_key : List (List ℕ) → Value → OpOut
as_key texts (Num n) = index_or (index_of n) (new_text (Some (signed_decimal n)))
as_key texts (Text t) = index_or (index_in (text_at texts t.0)) (Gives (Text (known texts t)))
as_key texts v = as_text texts v

-- the property key that such a value stands for
abbrev pub index_or_name : Option ℕ → TextId → Key
index_or_name (Some n) t = Index n
index_or_name None t = Name t

abbrev pub key_of_value : List (List ℕ) → Value → Key
key_of_value texts (Num n) = index_or_name (index_of n) (record { 0 = 0 })
key_of_value texts (Text t) = index_or_name (index_in (text_at texts t.0)) (known texts t)
key_of_value texts v = Name (record { 0 = 0 })

-- a text was put at the end where there is one, and else nothing
abbrev pub IsPushed : List ℕ → Option (List ℕ) → Bool → List ℕ → Type 0
IsPushed old (Some text) found new = (found ≡ true) × (new ≡ old ++ text)
IsPushed old None found new = (found ≡ false) × (new ≡ old)
