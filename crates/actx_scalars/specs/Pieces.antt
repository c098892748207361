-- The methods of texts that give a part of the text, a unit of it, or copies of it.
use Rattle.std.specs.Prelude.{ℕ, ◌*◌, ℤ, pos, negsuc, List, length, slice_get, slice_range, Option, None}
use Rattle.std.specs.List.{repeat}
use Rattle.std.specs.Option.{option_map}
use Rattle.actx_value.specs.declared.value.Value.{Value}
use Rattle.actx_value.specs.declared.error_kind.ErrorKind.TheVariants.{RangeError}
use Rattle.actx_ops.specs.declared.out.OpOut.{OpOut}
use Rattle.actx_ops.specs.declared.out.OpOut.TheVariants.{NewText, Throw}
use Rattle.actx_ops.specs.Operators.{number_out}
use Rattle.actx_scalars.specs.Arguments.{argument, integer_or, both, converted, receiver_text, received}
use Rattle.actx_scalars.specs.Places.{relative}

-- slice(start, end) (ECMA-262 §22.1.3.22): none where the end isn't past the start
abbrev pub slice_of : List ℕ → ℤ → ℤ → List ℕ
slice_of text start end = slice_range text (relative (length text) start) (relative (length text) end)

-- the end is that of the text where it is `undefined`
abbrev pub slice_arguments : List (List ℕ) → ℕ → List Value → Option (ℤ × ℤ)
slice_arguments texts len args =
    both (integer_or texts (pos 0) (argument args 0)) (integer_or texts (pos len) (argument args 1))

abbrev pub sliced : List (List ℕ) → Value → List Value → OpOut
sliced texts this args =
    received (receiver_text texts this) (λ text.
    converted (slice_arguments texts (length text) args) (λ p. NewText (slice_of text p.0 p.1)))

-- a method of one integer, which is 0 where it is `undefined`
abbrev pub of_integer : List (List ℕ) → Value → List Value → (List ℕ → ℤ → OpOut) → OpOut
of_integer texts this args go =
    received (receiver_text texts this) (λ text.
    converted (integer_or texts (pos 0) (argument args 0)) (go text))

-- charCodeAt(pos) (§22.1.3.3): past either end ECMA-262 gives NaN
abbrev pub unit_number : List ℕ → ℤ → Option ℤ
unit_number text (pos i) = option_map pos (slice_get text i)
unit_number text (negsuc i) = None

abbrev pub unit_value : List (List ℕ) → Value → List Value → OpOut
unit_value texts this args = of_integer texts this args (λ text i. number_out (unit_number text i))

-- repeat(count) (§22.1.3.18): a count below 0 is a RangeError
abbrev pub repeated : List ℕ → ℤ → OpOut
repeated text (pos n) = NewText (repeat n text)
repeated text (negsuc n) = Throw (RangeError 0)

abbrev pub repeat_value : List (List ℕ) → Value → List Value → OpOut
repeat_value texts this args = of_integer texts this args repeated

-- how many units n copies have
abbrev pub repeated_length : List ℕ → ℕ → ℕ
repeated_length text n = n * length text
