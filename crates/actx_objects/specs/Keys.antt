-- Keys and values that stand for each text by its least number, so that equal ones are the same. `texts`
-- are the texts by number; a text number that isn't there counts as that of the empty text.
use Rattle.std.specs.Prelude.{ℕ, Bool, true, false, not, List, nat_eq, codes}
use Rattle.std.specs.Ordering.{int_eq}
use Rattle.actx_value.specs.Texts.{text_at, texts_eq, least_number}
use Rattle.actx_value.specs.declared.ids.TextId.{TextId}
use Rattle.actx_value.specs.declared.value.Key.{Key}
use Rattle.actx_value.specs.declared.value.Key.TheVariants.{Index, Name}
use Rattle.actx_value.specs.declared.value.Value.{Value}
use Rattle.actx_value.specs.declared.value.Value.TheVariants.{Undefined, Null, Bool as Truth, Num, Text, Object, Scope, Mark}

abbrev pub least_id : List (List ℕ) → TextId → TextId
least_id texts t = record { 0 = least_number texts t.0 }

-- a key by which a property stands
abbrev pub normal_key : List (List ℕ) → Key → Key
normal_key texts (Index i) = Index i
normal_key texts (Name t) = Name (least_id texts t)

-- a value by which an entry stands (the keys of ECMA-262 §24.1.3.9)
abbrev pub normal_value : List (List ℕ) → Value → Value
normal_value texts (Text t) = Text (least_id texts t)
normal_value texts v = v

-- whether two keys that stand for texts by their least numbers are one
abbrev pub key_eq : Key → Key → Bool
key_eq (Index a) (Index b) = nat_eq a b
key_eq (Name a) (Name b) = nat_eq a.0 b.0
key_eq a b = false

-- the same of values: type and value are one, and objects are one by identity (IsStrictlyEqual,
-- ECMA-262 §7.2.14)
abbrev pub value_eq : Value → Value → Bool
value_eq Undefined Undefined = true
value_eq Null Null = true
value_eq (Truth true) (Truth b) = b
value_eq (Truth false) (Truth b) = not b
value_eq (Num a) (Num b) = int_eq a b
value_eq (Text a) (Text b) = nat_eq a.0 b.0
value_eq (Object a) (Object b) = nat_eq a.0 b.0
value_eq (Scope a) (Scope b) = nat_eq a.0 b.0
value_eq Mark Mark = true
value_eq a b = false

-- whether a key is the name `length`
abbrev pub is_length : List (List ℕ) → Key → Bool
is_length texts (Index i) = false
is_length texts (Name t) = texts_eq (text_at texts t.0) (codes "length")
