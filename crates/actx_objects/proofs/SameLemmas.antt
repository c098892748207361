-- The comparisons of keys and values are those of the definitions.
use Rattle.std.proofs.Common.{◌≡◌, true, false, refl}
use Rattle.actx_value.specs.declared.value.Key.{Key}
use Rattle.actx_value.specs.declared.value.Key.TheVariants.{Index, Name}
use Rattle.actx_value.specs.declared.value.Value.{Value}
use Rattle.actx_value.specs.declared.value.Value.TheVariants.{Undefined, Null, Bool as Truth, Num, Text, Object, Scope, Mark}
use Rattle.actx_value.specs.contracts.value.KeyPartialEq.TheImpl as keys
use Rattle.actx_value.specs.contracts.value.ValuePartialEq.TheImpl as values
use Rattle.actx_objects.specs.Keys.{key_eq, value_eq}

pub same_key : (a b : Key) → keys.eq-value.it a b ≡ key_eq a b
same_key (Index a) (Index b) = refl
same_key (Index a) (Name b) = refl
same_key (Name a) (Index b) = refl
same_key (Name a) (Name b) = refl

pub same_value : (a b : Value) → values.eq-value.it a b ≡ value_eq a b
same_value Undefined Undefined = refl
same_value Null Null = refl
same_value (Truth true) (Truth true) = refl
same_value (Truth true) (Truth false) = refl
same_value (Truth false) (Truth true) = refl
same_value (Truth false) (Truth false) = refl
same_value (Num a) (Num b) = refl
same_value (Text a) (Text b) = refl
same_value (Object a) (Object b) = refl
same_value (Scope a) (Scope b) = refl
same_value Mark Mark = refl
same_value a b = refl
