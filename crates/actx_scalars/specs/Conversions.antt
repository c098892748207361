-- The constructors of primitives, called as functions, and the tests on numbers.
use Rattle.std.specs.Prelude.{ℕ, Bool, true, false, pos, List, [], ◌∷◌}
use Rattle.actx_value.specs.Truth.{truth_of}
use Rattle.actx_value.specs.declared.value.Value.{Value}
use Rattle.actx_value.specs.declared.value.Value.TheVariants.{Bool as Truth, Num, Text}
use Rattle.actx_ops.specs.declared.out.OpOut.{OpOut}
use Rattle.actx_ops.specs.declared.out.OpOut.TheVariants.{Value as Gives}
use Rattle.actx_ops.specs.Numbers.{is_safe, safe}
use Rattle.actx_ops.specs.Conversions.{as_text, number_of_value}
use Rattle.actx_ops.specs.Operators.{with_number}
use Rattle.actx_scalars.specs.Arguments.{argument}

-- String(value) (ECMA-262 §22.1.1.1): a text is handed on, and without an argument it is the empty
-- text, which has number 0
abbrev pub string_value : List (List ℕ) → List Value → OpOut
string_value texts [] = Gives (Text (record { 0 = 0 }))
string_value texts (v ∷ vs) = as_text texts v

-- Number(value) (§21.1.1.1): without an argument it is 0
abbrev pub number_value : List (List ℕ) → List Value → OpOut
number_value texts [] = Gives (Num (pos 0))
number_value texts (v ∷ vs) = with_number safe (number_of_value texts v)

-- Boolean(value) (§20.3.1.1)
abbrev pub truth_value : List Value → OpOut
truth_value args = Gives (Truth (truth_of (argument args 0)))

-- Number.isInteger(number) (§21.1.2.3): each number here is one
abbrev pub is_integer : Value → Bool
is_integer (Num n) = true
is_integer v = false

-- Number.isSafeInteger(number) (§21.1.2.5)
abbrev pub is_safe_integer : Value → Bool
is_safe_integer (Num n) = is_safe n
is_safe_integer v = false
