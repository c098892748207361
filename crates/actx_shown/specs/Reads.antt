-- What a printed form reads of an object. `texts` are the texts by number.
use Rattle.std.specs.Prelude.{ℕ, List, [], Option}
use Rattle.std.specs.Option.{option_map_or, option_and_then}
use Rattle.actx_value.specs.Texts.{text_at, number_of}
use Rattle.actx_value.specs.declared.ids.ObjId.{ObjId}
use Rattle.actx_value.specs.declared.value.Key.TheVariants.{Name}
use Rattle.actx_value.specs.declared.value.Value.{Value}
use Rattle.actx_value.specs.declared.value.Value.TheVariants.{Text}
use Rattle.actx_objects.specs.Objects.{ObjectStore, value_of}

-- the value that a property's name reads along the prototypes (Get, ECMA-262 §7.3.2); where no text is this
-- name, no object has the property
abbrev pub read : List (List ℕ) → ObjectStore → ObjId → List ℕ → Option Value
read texts s o name = option_and_then (λ t. value_of texts s o (Name (record { 0 = t }))) (number_of texts name)

-- the text that a value is; any other value counts as the empty one
abbrev pub text_in : List (List ℕ) → Value → List ℕ
text_in texts (Text t) = text_at texts t.0
text_in texts v = []

-- the text that a property is, where there is one, and else the empty one
abbrev pub text_read : List (List ℕ) → ObjectStore → ObjId → List ℕ → List ℕ
text_read texts s o name = option_map_or (text_in texts) (read texts s o name) []
