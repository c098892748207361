-- The functions of Math on safe integers.
use Rattle.std.specs.Prelude.{ℕ, ℤ, pos, List, [], ◌∷◌, Option, Some, None, option_and_then}
use Rattle.std.specs.Int.{int_signum, int_max, int_min}
use Rattle.std.specs.Int.RustNames.{unsigned_abs}
use Rattle.std.specs.List.{reduce}
use Rattle.std.specs.Option.{option_map}
use Rattle.actx_value.specs.declared.value.Value.{Value}
use Rattle.actx_ops.specs.declared.out.OpOut.{OpOut}
use Rattle.actx_ops.specs.Numbers.{safe}
use Rattle.actx_ops.specs.Conversions.{number_of_value}
use Rattle.actx_ops.specs.Operators.{number_out}
use Rattle.actx_scalars.specs.Arguments.{converted}
use Rattle.actx_scalars.specs.declared.math.Extreme.{Extreme}
use Rattle.actx_scalars.specs.declared.math.Extreme.TheVariants.{Greatest, Least}

-- |n| (Math.abs, ECMA-262 §21.3.2.1)
abbrev pub absolute_of : ℤ → Option ℤ
absolute_of n = safe (pos (unsigned_abs n))

-- n (Math.floor, §21.3.2.16, and Math.trunc, §21.3.2.35): no number here has a fraction
abbrev pub whole_of : ℤ → Option ℤ
whole_of n = safe n

-- −1, 0 or 1 (Math.sign, §21.3.2.29)
abbrev pub sign_of : ℤ → Option ℤ
sign_of n = Some (int_signum n)

-- each value as a number, where all are
abbrev pub with_first : Option ℤ → Option (List ℤ) → Option (List ℤ)
with_first None ns = None
with_first (Some n) ns = option_map (λ rest. n ∷ rest) ns

abbrev pub numbers_in : List (List ℕ) → List Value → Option (List ℤ)
numbers_in texts [] = Some []
numbers_in texts (v ∷ vs) = with_first (number_of_value texts v) (numbers_in texts vs)

-- the greater or the lesser of two numbers
abbrev pub chosen : Extreme → ℤ → ℤ → ℤ
chosen Greatest a b = int_max a b
chosen Least a b = int_min a b

-- Math.max (§21.3.2.24) and Math.min (§21.3.2.25): all arguments are converted first, and of no number
-- there is no finite one
abbrev pub extreme_of : Extreme → List (List ℕ) → List Value → OpOut
extreme_of which texts args =
    converted (numbers_in texts args) (λ ns. number_out (option_and_then safe (reduce (chosen which) ns)))
