-- How a native reads its receiver and its arguments, where `texts` are the texts by number.
use Rattle.std.specs.Prelude.{ℕ, ℤ, List, Option, Some, None, slice_index_or}
use Rattle.actx_value.specs.Texts.{text_at}
use Rattle.actx_value.specs.declared.value.Value.{Value}
use Rattle.actx_value.specs.declared.value.Value.TheVariants.{Undefined, Text}
use Rattle.actx_value.specs.declared.error_kind.ErrorKind.TheVariants.{TypeError}
use Rattle.actx_value.specs.declared.end.Reason.TheVariants.{Conversion}
use Rattle.actx_ops.specs.declared.out.OpOut.{OpOut}
use Rattle.actx_ops.specs.declared.out.OpOut.TheVariants.{Throw, OutOfProfile}
use Rattle.actx_ops.specs.Conversions.{known, number_of_value}

-- the argument at a place, from 0; one that is missing is `undefined` (ECMA-262 §18)
abbrev pub argument : List Value → ℕ → Value
argument args i = slice_index_or args i Undefined

-- an argument as an integer (ToIntegerOrInfinity, §7.1.5), where `missing` stands for `undefined`
abbrev pub integer_or : List (List ℕ) → ℤ → Value → Option ℤ
integer_or texts missing Undefined = Some missing
integer_or texts missing v = number_of_value texts v

-- how a native goes on after a conversion
abbrev pub converted : {A : Type 0} → Option A → (A → OpOut) → OpOut
converted None go = OutOfProfile Conversion
converted (Some x) go = go x

-- the units of a receiver that is a text
abbrev pub receiver_text : List (List ℕ) → Value → Option (List ℕ)
receiver_text texts (Text t) = Some (text_at texts t.0)
receiver_text texts v = None

-- how a native of texts goes on with its receiver; one that is no text is a TypeError
abbrev pub received : Option (List ℕ) → (List ℕ → OpOut) → OpOut
received None go = Throw (TypeError 8)
received (Some text) go = go text

-- two conversions, one after the other
abbrev pub both : {A B : Type 0} → Option A → Option B → Option (A × B)
both None b = None
both (Some x) None = None
both (Some x) (Some y) = Some (x, y)

-- a value as it is; a text number that isn't there counts as that of the empty text
abbrev pub kept : List (List ℕ) → Value → Value
kept texts (Text t) = Text (known texts t)
kept texts v = v
