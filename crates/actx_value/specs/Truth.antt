-- Whether a value counts as true.
use Rattle.std.specs.Prelude.{Bool, true, false, not, ◌==◌, zero, suc, pos, negsuc}
use Rattle.actx_value.specs.declared.value.Value.{Value}
use Rattle.actx_value.specs.declared.value.Value.TheVariants.{Undefined, Null, Bool as Truth, Num, Text, Object, Scope, Mark}

-- ToBoolean (ECMA-262 §7.1.2): `undefined`, `null`, `false`, 0 and the empty text are false
abbrev pub truth_of : Value → Bool
truth_of Undefined = false
truth_of Null = false
truth_of (Truth b) = b
truth_of (Num (pos zero)) = false
truth_of (Num (pos (suc n))) = true
truth_of (Num (negsuc n)) = true
truth_of (Text t) = not (t.0 == 0)
truth_of (Object o) = true
truth_of (Scope s) = true
truth_of Mark = true
