-- What each native gives, where `texts` are the texts by number.
use Rattle.std.specs.Prelude.{ℕ, List}
use Rattle.actx_value.specs.declared.value.Value.{Value}
use Rattle.actx_value.specs.declared.value.Value.TheVariants.{Bool as Truth}
use Rattle.actx_ops.specs.declared.out.OpOut.{OpOut}
use Rattle.actx_ops.specs.declared.out.OpOut.TheVariants.{Value as Gives}
use Rattle.actx_ops.specs.Conversions.{number_of_value}
use Rattle.actx_ops.specs.Operators.{with_number}
use Rattle.actx_scalars.specs.Arguments.{argument}
use Rattle.actx_scalars.specs.Conversions.{string_value, number_value, truth_value, is_integer, is_safe_integer}
use Rattle.actx_scalars.specs.Numbers.{absolute_of, whole_of, sign_of, extreme_of}
use Rattle.actx_scalars.specs.declared.math.Extreme.TheVariants.{Greatest, Least}
use Rattle.actx_scalars.specs.Pieces.{sliced, unit_value, repeat_value}
use Rattle.actx_scalars.specs.Padding.{pad_value}
use Rattle.actx_scalars.specs.Searches.{index_value, includes_value, starts_value, ends_value}
use Rattle.actx_scalars.specs.declared.padding.Side.TheVariants.{Start, End}
use Rattle.actx_scalars.specs.declared.natives.Scalar.{Scalar}
use Rattle.actx_scalars.specs.declared.natives.Scalar.TheVariants.{OfValue, OfText, OfNumbers}
use Rattle.actx_scalars.specs.declared.natives.TextMethod.{TextMethod}
use Rattle.actx_scalars.specs.declared.natives.TextMethod.TheVariants.{Slice, IndexOf, Includes, StartsWith, EndsWith, Repeat, PadStart, PadEnd, CharCodeAt}
use Rattle.actx_scalars.specs.declared.natives.ValueFunction.{ValueFunction}
use Rattle.actx_scalars.specs.declared.natives.ValueFunction.TheVariants.{String, Number, Boolean, IsInteger, IsSafeInteger}
use Rattle.actx_scalars.specs.declared.natives.MathFunction.{MathFunction}
use Rattle.actx_scalars.specs.declared.natives.MathFunction.TheVariants.{Abs, Max, Min, Floor, Trunc, Sign}

-- the functions of one value of any type
abbrev pub value_function : List (List ℕ) → ValueFunction → List Value → OpOut
value_function texts String args = string_value texts args
value_function texts Number args = number_value texts args
value_function texts Boolean args = truth_value args
value_function texts IsInteger args = Gives (Truth (is_integer (argument args 0)))
value_function texts IsSafeInteger args = Gives (Truth (is_safe_integer (argument args 0)))

-- the functions of Math (ECMA-262 §21.3.2)
abbrev pub math_function : List (List ℕ) → MathFunction → List Value → OpOut
math_function texts Abs args = with_number absolute_of (number_of_value texts (argument args 0))
math_function texts Max args = extreme_of Greatest texts args
math_function texts Min args = extreme_of Least texts args
math_function texts Floor args = with_number whole_of (number_of_value texts (argument args 0))
math_function texts Trunc args = with_number whole_of (number_of_value texts (argument args 0))
math_function texts Sign args = with_number sign_of (number_of_value texts (argument args 0))

-- the methods of texts (§22.1.3)
abbrev pub text_method : List (List ℕ) → TextMethod → Value → List Value → OpOut
text_method texts Slice this args = sliced texts this args
text_method texts IndexOf this args = index_value texts this args
text_method texts Includes this args = includes_value texts this args
text_method texts StartsWith this args = starts_value texts this args
text_method texts EndsWith this args = ends_value texts this args
text_method texts Repeat this args = repeat_value texts this args
text_method texts PadStart this args = pad_value Start texts this args
text_method texts PadEnd this args = pad_value End texts this args
text_method texts CharCodeAt this args = unit_value texts this args

-- every native
abbrev pub native_value : List (List ℕ) → Scalar → Value → List Value → OpOut
native_value texts (OfValue f) this args = value_function texts f args
native_value texts (OfText f) this args = text_method texts f this args
native_value texts (OfNumbers f) this args = math_function texts f args
